-- A script without early errors declares no name where it would be bound twice.
use Rattle.std.proofs.Common.{◌≡◌, ℕ, Bool, true, false, cond, ◌||◌, bytes_eq, Option, None, Some, List, [], ◌∷◌, ◌++◌, refl, ap, ◌∙◌}
use Rattle.std.proofs.lemmas.Bool.{false_from_ne_true}
use Rattle.std.specs.Cmp.Lexicographic.{bytes_decides}
use Rattle.script_grammar.specs.Tree.{Stmts}
use Rattle.parse_track.specs.declared.region.Declare.{Declare}
use Rattle.parse_track.specs.declared.region.Early.{Early}
use Rattle.parse_track.specs.Told.{Name, Region, Lambda, Declared, Used, Jumped, Told, nothing, leaf, inner}
use Rattle.parse_track.specs.RegionNames.{directly}
use Rattle.parse_track.specs.EarlyErrors.{at_regions, twice_lexical, lexical_and_var, head_and_var, catch_and_lexical, param_and_lexical, twice_param, binds_reserved, reserved, lambda_name, smallest, smaller, is_sooner, sooner, error_of}
use Rattle.parse_track.specs.Notes.{early_error, first_note, notes_stmts}
use Rattle.parse_track.specs.Tells.{Text, known_texts, tells_script}
use Rattle.scope_closed_laws.specs.Names.{DeclaresNoThis}
use Rattle.scope_closed_laws.proofs.Own.{Clean}

-- ---- no error of a rule

sooner_step : (b : Bool) (x y : Early) → ◌≡◌ {A = Option Early} (cond b (Some y) (Some x)) None → ⊥
sooner_step true x y e = cc
sooner_step false x y e = cc

neither : (x y : Option Early) → sooner x y ≡ None → (x ≡ None) × (y ≡ None)
neither None y e = (refl, e)
neither (Some x) None e = let g : Some x ≡ None = e in cc
neither (Some x) (Some y) e = absurd (sooner_step (is_sooner y x) x y e)

some_smallest : (rule n : ℕ) (o : Option ℕ) → error_of rule (smaller (Some n) o) ≡ None → ⊥
some_smallest rule n None e = cc
some_smallest rule n (Some m) e = cc

none_of : (rule : ℕ) (ns : List ℕ) → error_of rule (smallest ns) ≡ None → ns ≡ []
none_of rule [] e = refl
none_of rule (n ∷ ns) e = absurd (some_smallest rule n (smallest ns) e)

-- the rules that are asked for
record NoErrors (t : Told Text) : Type 0 where
  lexical : at_regions (twice_lexical bytes_eq) t ≡ []
  params : at_regions (twice_param bytes_eq) t ≡ []
  bound : at_regions (binds_reserved bytes_eq known_texts) t ≡ []

no_errors : (items : Stmts) → early_error items ≡ None → NoErrors (tells_script items)
no_errors items e =
    let one = neither (first_note (notes_stmts items)) _ e in
    let two = neither (error_of 1 (smallest (at_regions (twice_lexical bytes_eq) t))) _ one.1 in
    let three = neither (error_of 2 (smallest (at_regions (lexical_and_var bytes_eq) t))) _ two.1 in
    let four = neither (error_of 3 (smallest (at_regions (head_and_var bytes_eq) t))) _ three.1 in
    let five = neither (error_of 4 (smallest (at_regions (catch_and_lexical bytes_eq) t))) _ four.1 in
    let six = neither (error_of 5 (smallest (at_regions (param_and_lexical bytes_eq) t))) _ five.1 in
    let seven = neither (error_of 6 (smallest (at_regions (twice_param bytes_eq) t))) _ six.1 in
    let eight = neither (error_of 9 (smallest (at_regions (binds_reserved bytes_eq known_texts) t))) _ seven.1 in
    record {
      lexical = none_of 1 (at_regions (twice_lexical bytes_eq) t) two.0;
      params = none_of 6 (at_regions (twice_param bytes_eq) t) seven.0;
      bound = none_of 9 (at_regions (binds_reserved bytes_eq known_texts) t) eight.0;
    }
  where
    t : Told Text
    t = tells_script items

-- ---- so each region is tidy

empty_left : (ms ns : List ℕ) → ms ++ ns ≡ [] → ms ≡ []
empty_left [] ns e = refl
empty_left (m ∷ ms) ns e = absurd (by e) where
  by : m ∷ (ms ++ ns) ≡ [] → ⊥
  by e = cc

empty_right : (ms ns : List ℕ) → ms ++ ns ≡ [] → ns ≡ []
empty_right [] ns e = e
empty_right (m ∷ ms) ns e = absurd (by e) where
  by : m ∷ (ms ++ ns) ≡ [] → ⊥
  by e = cc

behind_lambda : (k : Region Text) (xs : List (Name Text)) → reserved bytes_eq known_texts (lambda_name k ++ xs) ≡ [] → reserved bytes_eq known_texts xs ≡ []
behind_lambda (Lambda name) xs e = empty_right (cond (bytes_eq name.name known_texts.eval || bytes_eq name.name known_texts.arguments) (name.at ∷ []) []) (reserved bytes_eq known_texts xs) e
behind_lambda _ xs e = e

no_this : (t : Told Text) → DeclaresNoThis t → reserved bytes_eq (record { eval = known_texts.this; arguments = known_texts.this; this = known_texts.this }) (directly (λ (d : Declare). true) t) ≡ []
no_this nothing h = refl
no_this (leaf (Declared how name) t) h =
    ap (λ (b : Bool). cond (b || b) (name.at ∷ []) [] ++ reserved bytes_eq (record { eval = known_texts.this; arguments = known_texts.this; this = known_texts.this }) (directly (λ (d : Declare). true) t))
    (false_from_ne_true (bytes_eq name.name known_texts.this) (λ same. h.0 ((bytes_decides name.name known_texts.this).0 same)))
    ∙ no_this t h.1
no_this (leaf (Used name) t) h = no_this t h
no_this (leaf (Jumped word at label) t) h = no_this t h
no_this (inner k at i t) h = no_this t h.1

clean_from : (t : Told Text) → at_regions (twice_lexical bytes_eq) t ≡ [] → at_regions (twice_param bytes_eq) t ≡ [] → at_regions (binds_reserved bytes_eq known_texts) t ≡ [] → DeclaresNoThis t → Clean t
clean_from nothing a b c h = tt
clean_from (leaf (Declared how name) t) a b c h = clean_from t a b c h.1
clean_from (leaf (Used name) t) a b c h = clean_from t a b c h
clean_from (leaf (Jumped word at label) t) a b c h = clean_from t a b c h
clean_from (inner k at i t) a b c h =
    let a' = empty_right (twice_lexical bytes_eq k i) (at_regions (twice_lexical bytes_eq) i ++ at_regions (twice_lexical bytes_eq) t) a in
    let b' = empty_right (twice_param bytes_eq k i) (at_regions (twice_param bytes_eq) i ++ at_regions (twice_param bytes_eq) t) b in
    let c' = empty_right (binds_reserved bytes_eq known_texts k i) (at_regions (binds_reserved bytes_eq known_texts) i ++ at_regions (binds_reserved bytes_eq known_texts) t) c in (
      record {
        lexical = empty_left (twice_lexical bytes_eq k i) _ a;
        params = empty_left (twice_param bytes_eq k i) _ b;
        arguments = behind_lambda k (directly (λ (d : Declare). true) i) (empty_left (binds_reserved bytes_eq known_texts k i) _ c);
        this = no_this i h.0;
      },
      clean_from i (empty_left (at_regions (twice_lexical bytes_eq) i) _ a') (empty_left (at_regions (twice_param bytes_eq) i) _ b') (empty_left (at_regions (binds_reserved bytes_eq known_texts) i) _ c') h.0,
      clean_from t (empty_right (at_regions (twice_lexical bytes_eq) i) _ a') (empty_right (at_regions (twice_param bytes_eq) i) _ b') (empty_right (at_regions (binds_reserved bytes_eq known_texts) i) _ c') h.1,
    )

pub clean_script : (items : Stmts) → early_error items ≡ None → DeclaresNoThis (tells_script items) → Clean (tells_script items)
clean_script items e h = let none = no_errors items e in clean_from (tells_script items) none.lexical none.params none.bound h
