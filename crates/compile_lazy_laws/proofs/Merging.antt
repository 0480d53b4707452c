-- Functions that are shown, merged in order of number, give what is shown of the script.
--
-- A loop over the functions begins by `none_shown`, goes on by `one_shown` where a function is compiled and by `one_lazy` where
-- it is not, and ends by `all_shown`. The same of merged stencils that stand for these: `begins_shown`, `adds_shown`,
-- `passes_shown` and `ends_shown`.
use Rattle.std.proofs.Common.{◌≡◌, ◌∙◌, ℕ, suc, ◌+◌, ◌-◌, Bool, true, false, if◌then◌else◌, List, [], ◌∷◌, ◌++◌, append-nil, append_assoc, length, length-append, map, Option, Some, None, option_map, refl, sym, ap, ap₂, subst, arith}
use Rattle.std.specs.Prelude.{slice_get, slice_index_or}
use Rattle.std.proofs.lemmas.Option.{slice_get-map}
use Rattle.stencil_data.specs.MergedView.{MergedView}
use Rattle.stencil_data.specs.Named.{NamedFunction, NamedMerged}
use Rattle.stencil_data.specs.StandsFor.{FunctionStandsFor, InitialStandsFor, MergedStandsFor}
use Rattle.stencil_data.specs.Views.{FunctionView, InitialView}
use Rattle.bytecode_buf.specs.Command.{Command, ShowsCommands}
use Rattle.parse_track.specs.ClosedNames.{Bound}
use Rattle.compile_specs.specs.Eager.{Site, compiled_at}
use Rattle.compile_specs.specs.Shown.{Wanted, is_shown, numbers_of, starts_of, extents_of, with_numbers, record_of, initial, shown}
use Rattle.stencil_merge.specs.Functions.{named_inner_of, outermost}
use Rattle.stencil_merge.specs.Instructions.{numbered_commands}
use Rattle.stencil_merge.specs.Merging.{with_code, filled_at, all_lazy, with_function, Begins, Adds}
use Rattle.compile_lazy_laws.specs.UpTo.{entries_up_to, shown_up_to, shown_from, with_each}
use Rattle.compile_lazy_laws.proofs.Entries.{same_code, inner_there, flag_there, none_of, entries_fill, entries_pass, entries_whole}

between : {A : Type 0} (before : List A) (x : A) (after : List A) → slice_get (before ++ x ∷ after) (length before) ≡ Some x
between [] x after = refl
between (b ∷ before) x after = between before x after

module _ (want : Wanted) (bound : List (Bound (List ℕ))) (top : NamedFunction (List Command)) (functions : List (NamedFunction (List Command))) where
  -- the functions directly in the script are those that are in no other
  abbrev pub OutermostIsTop : Type 0
  OutermostIsTop = outermost (named_inner_of (map (record_of (starts_of functions) bound) functions)) ≡ numbers_of (starts_of functions) top.inner

  -- what is shown with this top and these entries
  abbrev WithParts : NamedFunction (List Command) → List (Option (NamedFunction (List Command))) → NamedMerged (List Command)
  WithParts t entries = record { top = t; records = map (record_of (starts_of functions) bound) functions; entries = entries }

  abbrev EntriesUpTo : ℕ → List (Option (NamedFunction (List Command)))
  EntriesUpTo count = entries_up_to count want (extents_of functions) (starts_of functions) functions

  -- the entries with one function more, which stands at this place
  filled_more : (place before number : ℕ) (f : NamedFunction (List Command)) → before ≡ place → number ≡ suc place → slice_get functions place ≡ Some f → is_shown want (extents_of functions) f.extent ≡ true
      → filled_at before (with_code f (numbered_commands (slice_index_or (named_inner_of (map (record_of (starts_of functions) bound) functions)) before []) f.code)) (EntriesUpTo place) ≡ EntriesUpTo number
  filled_more place before number f at e there is =
      ap (λ (k : ℕ). filled_at k (with_code f (numbered_commands (slice_index_or (named_inner_of (map (record_of (starts_of functions) bound) functions)) k []) f.code)) (EntriesUpTo place)) at
      ∙ (ap (λ (ns : List ℕ). filled_at place (with_code f (numbered_commands ns f.code)) (EntriesUpTo place)) (inner_there (starts_of functions) bound functions place f there)
      ∙ (ap (λ (cs : List Command). filled_at place (with_code f cs) (EntriesUpTo place)) (same_code (numbers_of (starts_of functions) f.inner) f.code)
      ∙ (entries_fill want (extents_of functions) (starts_of functions) place functions f (with_numbers (starts_of functions) f) there
      (ap (λ (b : Bool). if b then Some (with_numbers (starts_of functions) f) else None) is)
      ∙ ap EntriesUpTo (sym e))))

  -- ---- as values with texts

  pub none_shown : OutermostIsTop → all_lazy numbered_commands (initial bound top functions) ≡ shown_up_to 0 want bound top functions
  none_shown e =
      ap₂ (λ (t : NamedFunction (List Command)) (es : List (Option (NamedFunction (List Command)))). WithParts t es)
      (ap (λ (ns : List ℕ). with_code top (numbered_commands ns top.code)) e ∙ ap (with_code top) (same_code (numbers_of (starts_of functions) top.inner) top.code))
      (none_of (record_of (starts_of functions) bound) functions)

  pub one_shown : (place number : ℕ) (f : NamedFunction (List Command)) → number ≡ place + 1 → slice_get functions place ≡ Some f → is_shown want (extents_of functions) f.extent ≡ true
      → with_function numbered_commands number f (shown_up_to place want bound top functions) ≡ shown_up_to number want bound top functions
  one_shown place number f e there is =
      ap (λ (es : List (Option (NamedFunction (List Command)))). WithParts (with_numbers (starts_of functions) top) es) (filled_more place (number - 1) number f (omega (arith, e)) (omega (arith, e)) there is)

  pub one_lazy : (place number : ℕ) (f : NamedFunction (List Command)) → number ≡ place + 1 → slice_get functions place ≡ Some f → is_shown want (extents_of functions) f.extent ≡ false
      → shown_up_to place want bound top functions ≡ shown_up_to number want bound top functions
  one_lazy place number f e there is =
      let next : suc place ≡ number = omega (arith, e) in
      ap (λ (es : List (Option (NamedFunction (List Command)))). WithParts (with_numbers (starts_of functions) top) es)
      (entries_pass want (extents_of functions) (starts_of functions) place functions f there (ap (λ (b : Bool). if b then Some (with_numbers (starts_of functions) f) else None) is) ∙ ap EntriesUpTo next)

  pub all_shown : shown_up_to (length functions) want bound top functions ≡ shown want bound top functions
  all_shown = ap (λ (es : List (Option (NamedFunction (List Command)))). WithParts (with_numbers (starts_of functions) top) es) (entries_whole want (extents_of functions) (starts_of functions) functions)

  -- a function, and those after it
  one_from : (place number : ℕ) (f : NamedFunction (List Command)) (rest : List (NamedFunction (List Command))) (b : Bool) → number ≡ place + 1 → slice_get functions place ≡ Some f → is_shown want (extents_of functions) f.extent ≡ b
      → with_each (shown_from (suc number) want (extents_of functions) rest) (shown_up_to number want bound top functions) ≡ shown_up_to (length functions) want bound top functions
      → with_each (if b then (number, f) ∷ shown_from (suc number) want (extents_of functions) rest else shown_from (suc number) want (extents_of functions) rest) (shown_up_to place want bound top functions)
      ≡ shown_up_to (length functions) want bound top functions
  one_from place number f rest true e there is h = ap (with_each (shown_from (suc number) want (extents_of functions) rest)) (one_shown place number f e there is) ∙ h
  one_from place number f rest false e there is h = ap (with_each (shown_from (suc number) want (extents_of functions) rest)) (one_lazy place number f e there is) ∙ h

  all_from : (front rest : List (NamedFunction (List Command))) (place number : ℕ) → functions ≡ front ++ rest → place ≡ length front → number ≡ place + 1
      → with_each (shown_from number want (extents_of functions) rest) (shown_up_to place want bound top functions) ≡ shown_up_to (length functions) want bound top functions
  all_from front [] place number is at e =
      ap (λ (n : ℕ). shown_up_to n want bound top functions) (at ∙ ap (λ (l : List (NamedFunction (List Command))). length l) (sym (append-nil front) ∙ sym is))
  all_from front (f ∷ rest) place number is at e =
      let long = length-append front (f ∷ []) in
      let there : slice_get functions place ≡ Some f =
      ap (λ (l : List (NamedFunction (List Command))). slice_get l place) is ∙ (ap (λ (n : ℕ). slice_get (front ++ f ∷ rest) n) at ∙ between front f rest) in
      one_from place number f rest (is_shown want (extents_of functions) f.extent) e there refl
      (all_from (front ++ f ∷ []) rest number (suc number) (is ∙ sym (append_assoc front (f ∷ []) rest)) (omega (arith, at, e, long)) (omega arith))

  pub merged_is_shown : OutermostIsTop → with_each (shown_from 1 want (extents_of functions) functions) (all_lazy numbered_commands (initial bound top functions)) ≡ shown want bound top functions
  merged_is_shown e = ap (with_each (shown_from 1 want (extents_of functions) functions)) (none_shown e) ∙ (all_from [] functions 0 1 refl refl refl ∙ all_shown)

  -- the flag at a function's place
  pub flag_at : (place : ℕ) (f : NamedFunction (List Command)) → slice_get functions place ≡ Some f → slice_index_or (map (is_shown want (extents_of functions)) (extents_of functions)) place false ≡ is_shown want (extents_of functions) f.extent
  flag_at place f there = flag_there (is_shown want (extents_of functions)) functions place f there

  -- ---- as stencils that stand for them

  pub begins_shown : (parts : InitialView) (merged : MergedView) → OutermostIsTop → InitialStandsFor ShowsCommands parts (initial bound top functions) → Begins parts merged
      → MergedStandsFor ShowsCommands merged (shown_up_to 0 want bound top functions)
  begins_shown parts merged e stands begins = subst (MergedStandsFor ShowsCommands merged) (none_shown e) (begins.commands (initial bound top functions) stands)

  pub adds_shown : (place number : ℕ) (f : NamedFunction (List Command)) (stencil : FunctionView) (texts : List (List ℕ)) (old new : MergedView) → number ≡ place + 1 → slice_get functions place ≡ Some f
      → is_shown want (extents_of functions) f.extent ≡ true → FunctionStandsFor ShowsCommands texts stencil f → Adds number stencil texts old new
      → MergedStandsFor ShowsCommands old (shown_up_to place want bound top functions) → MergedStandsFor ShowsCommands new (shown_up_to number want bound top functions)
  adds_shown place number f stencil texts old new e there is stands adds so_far =
      subst (MergedStandsFor ShowsCommands new) (one_shown place number f e there is) (adds.commands (shown_up_to place want bound top functions) f so_far stands)

  pub passes_shown : (place number : ℕ) (f : NamedFunction (List Command)) (merged : MergedView) → number ≡ place + 1 → slice_get functions place ≡ Some f → is_shown want (extents_of functions) f.extent ≡ false
      → MergedStandsFor ShowsCommands merged (shown_up_to place want bound top functions) → MergedStandsFor ShowsCommands merged (shown_up_to number want bound top functions)
  passes_shown place number f merged e there is so_far = subst (MergedStandsFor ShowsCommands merged) (one_lazy place number f e there is) so_far

  pub ends_shown : (count : ℕ) (merged : MergedView) → count ≡ length functions → MergedStandsFor ShowsCommands merged (shown_up_to count want bound top functions) → MergedStandsFor ShowsCommands merged (shown want bound top functions)
  ends_shown count merged e so_far = subst (MergedStandsFor ShowsCommands merged) (ap (λ (n : ℕ). shown_up_to n want bound top functions) e ∙ all_shown) so_far

-- the function at a place, of those that compiling a script comes to
pub function_at : (all : List Site) (place : ℕ) (m : Site) → slice_get all place ≡ Some m → slice_get (map (λ (s : Site). (compiled_at s).part) all) place ≡ Some (compiled_at m).part
function_at all place m e = slice_get-map (λ (s : Site). (compiled_at s).part) all place ∙ ap (option_map (λ (s : Site). (compiled_at s).part)) e
