-- What is kept of bodies, one after the other, is what the nodes of all of them have.
use Rattle.std.proofs.Common.{◌≡◌, List, [], ◌∷◌, ◌++◌, map, ap, sym, subst, ◌∙◌}
use Rattle.std.proofs.lemmas.List.{map-append}
use Rattle.script_grammar.specs.Interpretation.{Interpretation}
use Rattle.script_grammar.specs.Shows.{ShowAll}
use Rattle.script_grammar.specs.Tree.{Stmts}
use Rattle.parse_track_pieces.specs.declared.piece.Piece.{Piece}
use Rattle.parse_track_pieces.specs.Says.{SaysBody}
use Rattle.parse_handlers.specs.FoundOf.{HoldsBody}
use Rattle.parse_early_handler.specs.declared.nodes.BodyErrors.{BodyErrors}
use Rattle.parse_early_handler.specs.HasErrors.{HasErrorsBody}
use Rattle.parse_function_list.specs.declared.list.FoundBody.{FoundBody}
use Rattle.parse_function_list.specs.Strict.{HasStrict}
use Rattle.compile_first_pass.specs.declared.skim.Skimmed.{Skimmed}
use Rattle.compile_first_pass.specs.declared.skim.SkimmedScript.{SkimmedScript}
use Rattle.compile_first_pass.specs.Skims.{IsSkimmed, IsApart, found_in, AreSkimmed, SkimsScript}

-- one more of each
all-more : {A B : Type 0} (R : A → B → Type 0) (xs : List A) (ys : List B) (x : A) (y : B) → ShowAll R xs ys → R x y → ShowAll R (xs ++ (x ∷ [])) (ys ++ (y ∷ []))
all-more R [] [] x y h r = (r, tt)
all-more R [] (b ∷ ys) x y h r = absurd h
all-more R (a ∷ xs) [] x y h r = absurd h
all-more R (a ∷ xs) (b ∷ ys) x y h r = (h.0, all-more R xs ys x y h.1 r)

-- what stands in the places of some values is what they are
all-kept : {N M X : Type 0} (has : N → M → Type 0) (R : N → X → Type 0) (Q : M → X → Type 0) → ((n : N) (m : M) (x : X) → has n m → R n x → Q m x)
    → (ns : List N) (ms : List M) (xs : List X) → ShowAll has ns ms → ShowAll R ns xs → ShowAll Q ms xs
all-kept has R Q keep [] [] [] s h = tt
all-kept has R Q keep [] [] (x ∷ xs) s h = absurd h
all-kept has R Q keep [] (m ∷ ms) xs s h = absurd s
all-kept has R Q keep (n ∷ ns) [] xs s h = absurd s
all-kept has R Q keep (n ∷ ns) (m ∷ ms) [] s h = absurd h
all-kept has R Q keep (n ∷ ns) (m ∷ ms) (x ∷ xs) s h = (keep n m x s.0 h.0, all-kept has R Q keep ns ms xs s.1 h.1)

module _ {B : Type 0} (shows : Interpretation → B → Stmts → Type 0) where
  -- no bodies
  pub none_skimmed : (told : List Piece) (found : List FoundBody) (errors : List BodyErrors) → told ≡ [] → found ≡ [] → errors ≡ [] → AreSkimmed shows [] told found errors
  none_skimmed told found errors no_told no_found no_errors = record { each = []; apart = tt; are_told = no_told; are_found = no_found; are_errors = no_errors }

  -- one more of each
  pub more_skimmed : (bodies : List B) (told new_told : List Piece) (found new_found : List FoundBody) (errors new_errors : List BodyErrors) (body : B) (s : Skimmed)
      → AreSkimmed shows bodies told found errors → IsApart shows body s
      → new_told ≡ told ++ s.told ∷ [] → new_found ≡ found ++ found_in s ∷ [] → new_errors ≡ errors ++ s.errors ∷ []
      → AreSkimmed shows (bodies ++ body ∷ []) new_told new_found new_errors
  more_skimmed bodies told new_told found new_found errors new_errors body s h a told_is found_is errors_is = record {
    each = h.each ++ s ∷ [];
    apart = all-more (IsApart shows) bodies h.each body s h.apart a;
    are_told = told_is ∙ ap (λ (x : List Piece). x ++ s.told ∷ []) h.are_told ∙ sym (map-append (λ (x : Skimmed). x.told) h.each (s ∷ []));
    are_found = found_is ∙ ap (λ (x : List FoundBody). x ++ found_in s ∷ []) h.are_found ∙ sym (map-append found_in h.each (s ∷ []));
    are_errors = errors_is ∙ ap (λ (x : List BodyErrors). x ++ s.errors ∷ []) h.are_errors ∙ sym (map-append (λ (x : Skimmed). x.errors) h.each (s ∷ []));
  }

-- what each of some values is, its parts are
parts_are : {X Y Z : Type 0} (R : X → Z → Type 0) (Q : Y → Z → Type 0) (part : X → Y) → ((x : X) (z : Z) → R x z → Q (part x) z) → (xs : List X) (zs : List Z) → ShowAll R xs zs → ShowAll Q (map part xs) zs
parts_are R Q part each [] [] h = tt
parts_are R Q part each [] (z ∷ zs) h = absurd h
parts_are R Q part each (x ∷ xs) [] h = absurd h
parts_are R Q part each (x ∷ xs) (z ∷ zs) h = (each x z h.0, parts_are R Q part each xs zs h.1)

-- a script and its bodies
pub skims_script : {B : Type 0} (shows : Interpretation → B → Stmts → Type 0) (top : B) (bodies : List B) (made : SkimmedScript)
    → IsApart shows top made.top → AreSkimmed shows bodies made.bodies.told.items made.bodies.found.items made.bodies.errors.items
    → (i : Interpretation) (items : Stmts) (all : List Stmts) → shows i top items → ShowAll (shows i) bodies all → SkimsScript i made items all
skims_script shows top bodies made apart h i items all shown shown_all =
    let each : ShowAll (IsSkimmed i) h.each all = all-kept (IsApart shows) (shows i) (IsSkimmed i) (λ n m x has r. has i x r) bodies h.each all h.apart shown_all in
    record {
      script = apart i items shown;
      told =
          subst (λ (ps : List Piece). ShowAll (SaysBody i) ps all) (sym h.are_told)
          (parts_are (IsSkimmed i) (SaysBody i) (λ (s : Skimmed). s.told) (λ s ss r. r.told) h.each all each);
      found =
          subst (λ (bs : List FoundBody). ShowAll (λ b. HoldsBody i b.found) bs all) (sym h.are_found)
          (parts_are (IsSkimmed i) (λ b. HoldsBody i b.found) found_in (λ s ss r. r.found) h.each all each);
      errors =
          subst (λ (es : List BodyErrors). ShowAll (HasErrorsBody i) es all) (sym h.are_errors)
          (parts_are (IsSkimmed i) (HasErrorsBody i) (λ (s : Skimmed). s.errors) (λ s ss r. r.errors) h.each all each);
      strict = λ empty knows.
          subst (λ (bs : List FoundBody). ShowAll HasStrict bs all) (sym h.are_found)
          (parts_are (IsSkimmed i) HasStrict found_in (λ s ss r. (r.errors.holds empty knows).strict) h.each all each);
    }
