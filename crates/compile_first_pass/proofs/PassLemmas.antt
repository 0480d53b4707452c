-- What was taken apart of a file's script, put together.
use Rattle.std.proofs.Common.{◌≡◌, ℕ, false, List, [], ◌∷◌, ◌++◌, map, length, refl, ap, sym, subst, ◌∙◌, append_assoc, arith, length-append}
use Rattle.std.proofs.lemmas.List.{length-map}
use Rattle.std.proofs.lemmas.List.Folds.{flat_map-map}
use Rattle.std.specs.Prelude.{Option, None, Some, Result, Ok, Err, codes, bytes_eq, nat_eq, ◌&&◌, ◌-◌}
use Rattle.std.specs.List.{flat_map}
use Rattle.script_grammar.specs.Braced.{braced_all}
use Rattle.script_grammar.specs.Interpretation.{Interpretation}
use Rattle.script_grammar.specs.Pieces.{whole}
use Rattle.script_grammar.specs.Proper.{ProperStmts}
use Rattle.script_grammar.specs.Shows.{ShowAll}
use Rattle.script_grammar.specs.Tree as tree
use Rattle.script_grammar.specs.Tree.{Body, Stmts, no_stmts, more_stmts}
use Rattle.grammar_parser_specs.specs.Filling.{fill_stmts}
use Rattle.grammar_start_laws.proofs.WholeTrees.{own_bodies}
use Rattle.parse_track.specs.declared.region.Early.{Early}
use Rattle.parse_track.specs.declared.region.WellKnownAtoms.{WellKnownAtoms}
use Rattle.parse_track.specs.EarlyErrors.{sooner}
use Rattle.parse_track.specs.Notes.{error_if, first_note, notes_stmts, strict_errors, early_error}
use Rattle.parse_exprs.specs.Env.{body_at}
use Rattle.parse_bodies.specs.declared.whole.Script.{Script}
use Rattle.scope_analysis.specs.Functions.{Inner, inner_script}
use Rattle.compile_specs.specs.Counted.{Counts, no_functions, more_functions, HasFunctions}
use Rattle.track_atoms.specs.Known.{HasWords}
use Rattle.parse_handlers.specs.FoundOf.{HoldsBody}
use Rattle.parse_early_handler.specs.declared.nodes.BodyErrors.{BodyErrors}
use Rattle.parse_early_handler.specs.HasErrors.{HasErrorsBody, HasEmptyBodies}
use Rattle.parse_early_handler.specs.Known.{KnowsWords, known_atoms}
use Rattle.parse_early_handler.proofs.KnownWords.{knows_words}
use Rattle.early_apart_laws.specs.Emptied.{emptied}
use Rattle.early_apart_laws.specs.Late.{late_stmts}
use Rattle.early_apart_laws.specs.Notes.{bodies_notes}
use Rattle.early_apart_laws.proofs.Apart.{notes_apart}
use Rattle.early_apart_laws.proofs.Sooner.{first_note-append}
use Rattle.parse_function_list.specs.declared.list.FoundBody.{FoundBody}
use Rattle.parse_function_list.specs.declared.list.ListedFunction.{ListedFunction}
use Rattle.parse_function_list.specs.declared.list.ScriptFunctions.{ScriptFunctions}
use Rattle.parse_function_list.specs.Placed.{Placed, AllPlaced, no_placed, more_placed, ArePlaced, placed_of}
use Rattle.parse_function_list.specs.Strict.{HasStrict}
use Rattle.parse_script.specs.declared.file_tokens.FileTokens.{FileTokens}
use Rattle.parse_script.specs.Reading.{under, IsShown}
use Rattle.parse_script.specs.Tokens.{tokens_in, AreTokensOf, IsSound}
use Rattle.parse_script.proofs.ReadLemmas.{shows_parts}
use Rattle.early_script_errors.specs.Told.{own, IsOf, IsTold}
use Rattle.early_script_errors.proofs.Own.{tree_own, braced_own}
use Rattle.session_specs.specs.Sources.{IsValid, ErrorAt}
use Rattle.compile_first_pass.specs.declared.skim.SkimmedScript.{SkimmedScript}
use Rattle.compile_first_pass.specs.Skims.{IsScriptApart, SkimsScript}
use Rattle.compile_first_pass.specs.declared.pass.CheckedScript.{CheckedScript}
use Rattle.compile_first_pass.specs.declared.pass.ListedScript.{ListedScript}
use Rattle.compile_first_pass.specs.declared.pass.SourceFault.{SourceFault}
use Rattle.compile_first_pass.specs.Passes.{IsChecked, IsCheckedScript, IsListed, IsRead, IsRefusedFor, IsSkimmedFile, IsSyntaxOf}
use Rattle.compile_first_pass.proofs.FileLemmas.{of_file, script_read}

pub none_of : {A : Type 0} (o : Option A) → ((x : A) → o ≡ Some x → ⊥) → o ≡ None
none_of None h = refl
none_of (Some x) h = absurd (h x refl)

-- ---- directives

-- Which directives stand at the head of statements does not change with the bodies of functions in them.
strict_filled : (bodies : ℕ → Body) (ss : Stmts) → strict_errors (fill_stmts bodies ss) ≡ strict_errors ss
strict_filled bodies (more_stmts (tree.Value (tree.Str at end text) semi) rest) =
    ap (λ (es : List Early). error_if (bytes_eq text (codes "use strict") && nat_eq (end - at) 12) 14 at ++ es) (strict_filled bodies rest)
strict_filled bodies _ = refl

have_strict : (bodies : ℕ → Body) (bs : List FoundBody) (all : List Stmts) → ShowAll HasStrict bs (map (fill_stmts bodies) all) → ShowAll HasStrict bs all
have_strict bodies [] [] h = tt
have_strict bodies [] (ss ∷ all) h = absurd h
have_strict bodies (b ∷ bs) [] h = absurd h
have_strict bodies (b ∷ bs) (ss ∷ all) h = (h.0 ∙ ap first_note (strict_filled bodies ss), have_strict bodies bs all h.1)

-- ---- the number of functions

placed_count : (around place at : ℕ) (inner : List Inner) (ps : List Placed) → AllPlaced around place at inner ps → Counts inner (length ps)
placed_count around place at inner ps (no_placed _ _ _) = no_functions
placed_count around place at inner ps (more_placed _ _ _ f rest inside after a b) =
    subst (λ (n : ℕ). Counts (f ∷ rest) n) (let e = length-append inside after in omega (arith, e))
    (more_functions f rest (length inside) (length after) (placed_count _ _ _ _ inside a) (placed_count _ _ _ _ after b))

pub found_count : (i : Interpretation) (found : List ListedFunction) (items : Stmts) → ArePlaced i found (inner_script items) → HasFunctions items (length found)
found_count i found items h =
    subst (λ (n : ℕ). HasFunctions items n) (sym (ap length h.2) ∙ length-map found (placed_of i)) (placed_count 0 0 1 (inner_script items) h.0 h.1)

-- ---- a file's script

module _ (file : FileTokens) (script : SkimmedScript) (items : Stmts) (sound : IsSound file) (h : IsSkimmedFile file script items) where
  abbrev texts : List (List ℕ)
  texts = file.texts.items

  pub of_script : IsOf texts file.known items
  of_script = of_file file items sound h.text

  proper : ProperStmts whole false items
  proper = h.text.script.proper

  -- with each function's own body
  own_parts : SkimsScript (own texts items) script items (braced_all items)
  own_parts =
      subst (λ (t : Stmts). SkimsScript (own texts items) script t (braced_all items)) (tree_own texts file.known items of_script)
      (subst (λ (bs : List Stmts). SkimsScript (own texts items) script (fill_stmts (own_bodies items) items) bs) (braced_own texts file.known items of_script)
      (h.parts (own texts items).bodies))

  -- with empty bodies
  abbrev empty : Interpretation
  empty = under texts (λ n. no_stmts)

  empty_parts : SkimsScript empty script (emptied items) (map emptied (braced_all items))
  empty_parts = h.parts (λ n. no_stmts)

  empty_bodies : HasEmptyBodies empty
  empty_bodies = λ start. refl

  known : KnowsWords empty known_atoms
  known =
      let w = subst (HasWords texts) sound.fixed sound.words in
      knows_words empty sound.apart w.eval w.arguments w.proto w.strict

  strict : ShowAll HasStrict script.bodies.found.items (braced_all items)
  strict = have_strict _ script.bodies.found.items (braced_all items) (empty_parts.strict empty_bodies known)

  -- Of the script's own statements and of those of all bodies, and of rule 14 in bodies, the first early error that looks at no
  -- region: that of the whole script.
  first_is : (first late all : Option Early)
      → ((i : Interpretation) (top : Stmts) (deferred : List Stmts) → HasEmptyBodies i → KnowsWords i known_atoms → HasErrorsBody i script.top.errors top → ShowAll (HasErrorsBody i) script.bodies.errors.items deferred
      → first ≡ first_note (notes_stmts top ++ flat_map notes_stmts deferred))
      → late ≡ first_note (late_stmts items) → all ≡ sooner first late → all ≡ first_note (notes_stmts items)
  first_is first late all firsts lates both =
      let there = firsts empty (emptied items) (map emptied (braced_all items)) empty_bodies known empty_parts.script.errors empty_parts.errors in
      let bodies : flat_map notes_stmts (map emptied (braced_all items)) ≡ bodies_notes (braced_all items) = flat_map-map notes_stmts emptied (braced_all items) in
      both
      ∙ ap (λ (x : Option Early). sooner x late) (there ∙ ap (λ (x : List Early). first_note (notes_stmts (emptied items) ++ x)) bodies)
      ∙ ap (λ (x : Option Early). sooner (first_note (notes_stmts (emptied items) ++ bodies_notes (braced_all items))) x) lates
      ∙ sym (first_note-append (notes_stmts (emptied items) ++ bodies_notes (braced_all items)) (late_stmts items))
      ∙ ap first_note (append_assoc (notes_stmts (emptied items)) (bodies_notes (braced_all items)) (late_stmts items))
      ∙ sym (notes_apart items)

  -- what the calls on the parts answer: the functions, and the first early errors
  module _ (listed : ScriptFunctions) (seen : List BodyErrors) (first all : Option Early)
      (lists : (i : Interpretation) (ss : Stmts) → ProperStmts whole false ss → HoldsBody i script.top.found ss → ShowAll (λ b. HoldsBody i b.found) script.bodies.found.items (braced_all ss) → ArePlaced i listed.functions.items (inner_script ss))
      (lates : (i : Interpretation) (ss : Stmts) → ProperStmts whole false ss → HoldsBody i script.top.found ss → ShowAll (λ b. HoldsBody i b.found) script.bodies.found.items (braced_all ss) → ShowAll HasStrict script.bodies.found.items (braced_all ss)
      → listed.late ≡ first_note (late_stmts ss))
      (seen_is : seen ≡ script.bodies.errors.items)
      (firsts : (i : Interpretation) (top : Stmts) (deferred : List Stmts) → HasEmptyBodies i → KnowsWords i known_atoms → HasErrorsBody i script.top.errors top → ShowAll (HasErrorsBody i) seen deferred
      → first ≡ first_note (notes_stmts top ++ flat_map notes_stmts deferred))
      (both : all ≡ sooner first listed.late)
    where
      pub placed : ArePlaced (own texts items) listed.functions.items (inner_script items)
      placed = lists (own texts items) items proper own_parts.script.found own_parts.found

      pub told : IsTold texts script.top.told script.bodies.told.items all items
      told = record {
        script = own_parts.script.told;
        braced = own_parts.told;
        noted =
            first_is first listed.late all
            (λ i top deferred e k t b. firsts i top deferred e k t (subst (λ (es : List BodyErrors). ShowAll (HasErrorsBody i) es deferred) (sym seen_is) b))
            (lates (own texts items) items proper own_parts.script.found own_parts.found strict) both;
      }

-- ---- a script that is listed

module _ (file : FileTokens) (items : Stmts) (script : ListedScript) (h : IsListed file items script) where
  pub of_known : (atoms : WellKnownAtoms) → file.known ≡ atoms → IsOf file.texts.items atoms items
  of_known atoms same = subst (λ (k : WellKnownAtoms). IsOf file.texts.items k items) same h.of

  module _ (bytes : List ℕ) (tokens : AreTokensOf file (length bytes) bytes) where
    pub early_at : (early : Option Early) (e : Early) → early ≡ early_error items → early ≡ Some e → ErrorAt bytes e
    early_at early e found is = record { items = items; read = script_read file (length bytes) bytes items tokens h.text; first = sym found ∙ is }

    pub valid : (early : Option Early) → early ≡ early_error items → early ≡ None → IsValid bytes items (length script.functions.items)
    valid early found none = record {
      read = script_read file (length bytes) bytes items tokens h.text;
      faultless = sym found ∙ none;
      functions = found_count (own file.texts.items items) script.functions.items items h.placed;
    }

-- ---- the script that was read, taken apart

pub skimmed_file : {B : Type 0} (shows : Interpretation → B → Stmts → Type 0) (file : FileTokens) (script : Script B) (made : SkimmedScript)
    → ((bodies : ℕ → Stmts) → IsShown shows (under file.texts.items bodies) (tokens_in file) script)
    → ((i : Interpretation) (top : Stmts) (all : List Stmts) → shows i script.top top → ShowAll (shows i) script.bodies.items all → SkimsScript i made top all)
    → (items : Stmts) × IsSkimmedFile file made items
skimmed_file shows file script made shown skims =
    let first = shown (λ n. no_stmts) in (
      first.items,
      record {
        text = first.is;
        parts = λ bodies.
            let i : Interpretation = under file.texts.items bodies in
            let p = shows_parts shows i (tokens_in file) script first.items first.is (shown bodies) in
            skims i (fill_stmts (body_at i) first.items) (map (fill_stmts (body_at i)) (braced_all first.items)) p.top p.bodies;
      },
    )

-- ---- what the steps answer

pub script_apart : {B : Type 0} (shows : Interpretation → B → Stmts → Type 0) (file : FileTokens) (o : Result (Script B) SourceFault) (script : Script B) (made : SkimmedScript)
    → IsRead shows file o → o ≡ Ok script → IsScriptApart shows script.top script.bodies.items made → (items : Stmts) × IsSkimmedFile file made items
script_apart {B = B} shows file o script made h is apart = skimmed_file shows file script made (subst (λ (x : Result (Script B) SourceFault). IsRead shows file x) is h) apart

pub script_checked : (file : FileTokens) (items : Stmts) (o : Result CheckedScript SourceFault) (checked : CheckedScript) → IsChecked file items o → o ≡ Ok checked → IsCheckedScript file items checked
script_checked file items o checked h is = subst (λ (x : Result CheckedScript SourceFault). IsChecked file items x) is h

pub script_refused : (file : FileTokens) (items : Stmts) (o : Result CheckedScript SourceFault) (fault : SourceFault) → IsChecked file items o → o ≡ Err fault → IsRefusedFor file fault
script_refused file items o fault h is = subst (λ (x : Result CheckedScript SourceFault). IsChecked file items x) is h

pub syntax_of : (file : FileTokens) (items : Stmts) (checked : CheckedScript) → IsCheckedScript file items checked → IsSound file → (bytes : List ℕ) → AreTokensOf file (length bytes) bytes
    → IsSyntaxOf bytes (record { file = file; functions = checked.functions; closed = checked.closed })
syntax_of file items checked h sound bytes tokens = record { items = items; valid = h.valid bytes tokens; tokens = tokens; sound = sound; placed = h.placed; closed = h.closed }
