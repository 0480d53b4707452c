-- A merged stencil stands for one value, the one that is listed.
use Rattle.std.proofs.Common.{◌≡◌, ℕ, suc, option_map, ◌+◌, List, [], ◌∷◌, length, map, Option, Some, None, refl, ap, ap₂, sym, ◌∙◌}
use Rattle.std.specs.Prelude.{sum}
use Rattle.stencil_data.specs.declared.stencils.Entry.{Entry}
use Rattle.stencil_data.specs.declared.stencils.Entry.TheVariants as entry
use Rattle.stencil_data.specs.MergedView.{MergedView}
use Rattle.stencil_data.specs.Named.{NamedFunction, NamedMerged}
use Rattle.stencil_data.specs.StandsFor.{FunctionStandsFor, EntryStandsFor, EntriesStandFor, MergedStandsFor}
use Rattle.stencil_data.specs.Views.{FunctionView}
use Rattle.bytecode_buf.specs.Command.{Command, Listed, listed_from, ShowsCommands}
use Rattle.bytecode_buf.specs.Layout.{Numbered, instructions}
use Rattle.bytecode_buf.specs.Width.{width_of}
use Rattle.script_image.specs.Listed.{ShowsListed, listed_script, listed_entry, listed_stencil, entry_size}
use Rattle.script_image.specs.ScriptLines.{entry_instructions, instruction_count, listed_function, listed_merged}

function_is : (texts : List (List ℕ)) (part : FunctionView) (named : NamedFunction (List Listed)) → FunctionStandsFor ShowsListed texts part named → listed_script texts part ≡ named
function_is texts part named s = rw (s.extent, s.kind, s.name, s.params, s.scopes.are, s.code, s.notes, s.inner) refl

entry_is : (texts : List (List ℕ)) (e : Entry) (named : Option (NamedFunction (List Listed))) → EntryStandsFor ShowsListed texts e named → listed_entry texts e ≡ named
entry_is texts entry.Lazy None s = refl
entry_is texts entry.Lazy (Some named) s = absurd s
entry_is texts (entry.Compiled part) None s = absurd s
entry_is texts (entry.Compiled part) (Some named) s = ap (λ (f : NamedFunction (List Listed)). Some f) (function_is texts part named s)

entries_are : (texts : List (List ℕ)) (es : List Entry) (named : List (Option (NamedFunction (List Listed)))) → EntriesStandFor ShowsListed texts es named → map (listed_entry texts) es ≡ named
entries_are texts [] [] s = refl
entries_are texts [] (n ∷ named) s = absurd s
entries_are texts (e ∷ es) [] s = absurd s
entries_are texts (e ∷ es) (n ∷ named) s = ap₂ (λ (x : Option (NamedFunction (List Listed))) (xs : List (Option (NamedFunction (List Listed)))). x ∷ xs) (entry_is texts e n s.0) (entries_are texts es named s.1)

pub stencil_is : (merged : MergedView) (named : NamedMerged (List Listed)) → MergedStandsFor ShowsListed merged named → listed_stencil merged ≡ named
stencil_is merged named s = rw (function_is merged.texts merged.top named.top s.top, s.records.are, entries_are merged.texts merged.entries named.entries s.entries) refl

-- ---- how many instructions

length-listed_from : (texts : List (List ℕ)) (at : ℕ) (is : List Numbered) → length (listed_from texts at is) ≡ length is
length-listed_from texts at [] = refl
length-listed_from texts at (i ∷ is) = ap suc (length-listed_from texts (at + width_of i.op) is)

entry_counted : (texts : List (List ℕ)) (e : Entry) → entry_size e ≡ entry_instructions (listed_entry texts e)
entry_counted texts entry.Lazy = refl
entry_counted texts (entry.Compiled part) = sym (length-listed_from texts 0 (instructions part.code))

entries_counted : (texts : List (List ℕ)) (es : List Entry) → map entry_size es ≡ map entry_instructions (map (listed_entry texts) es)
entries_counted texts [] = refl
entries_counted texts (e ∷ es) = ap₂ (λ (n : ℕ) (ns : List ℕ). n ∷ ns) (entry_counted texts e) (entries_counted texts es)

-- the instructions of the top and those of all entries
pub all_counted : (merged : MergedView) (count : ℕ) → count ≡ length (instructions merged.top.code) + sum (map entry_size merged.entries) → (named : NamedMerged (List Listed)) → MergedStandsFor ShowsListed merged named → count ≡ instruction_count named
all_counted merged count is named s =
    is
    ∙ ap₂ (λ (m : ℕ) (n : ℕ). m + n) (sym (length-listed_from merged.texts 0 (instructions merged.top.code))) (ap sum (entries_counted merged.texts merged.entries))
    ∙ ap instruction_count (stencil_is merged named s)

-- ---- codes of commands

function_as_listed : (texts : List (List ℕ)) (part : FunctionView) (named : NamedFunction (List Command)) → FunctionStandsFor ShowsCommands texts part named → FunctionStandsFor ShowsListed texts part (listed_function named)
function_as_listed texts part named s = record { extent = s.extent; kind = s.kind; name_within = s.name_within; name = s.name; params = s.params; scopes = s.scopes; code = s.code.is; notes = s.notes; inner = s.inner }

entries_as_listed : (texts : List (List ℕ)) (es : List Entry) (named : List (Option (NamedFunction (List Command)))) → EntriesStandFor ShowsCommands texts es named → EntriesStandFor ShowsListed texts es (map (option_map listed_function) named)
entries_as_listed texts [] [] s = tt
entries_as_listed texts [] (n ∷ named) s = absurd s
entries_as_listed texts (e ∷ es) [] s = absurd s
entries_as_listed texts (entry.Lazy ∷ es) (None ∷ named) s = (tt, entries_as_listed texts es named s.1)
entries_as_listed texts (entry.Lazy ∷ es) (Some n ∷ named) s = absurd s.0
entries_as_listed texts (entry.Compiled part ∷ es) (None ∷ named) s = absurd s.0
entries_as_listed texts (entry.Compiled part ∷ es) (Some n ∷ named) s = (function_as_listed texts part n s.0, entries_as_listed texts es named s.1)

-- a merged stencil that stands for scripts of commands stands for them as they are listed
pub commands_as_listed : (merged : MergedView) (named : NamedMerged (List Command)) → MergedStandsFor ShowsCommands merged named → MergedStandsFor ShowsListed merged (listed_merged named)
commands_as_listed merged named s = record { top = function_as_listed merged.texts merged.top named.top s.top; records = s.records; entries = entries_as_listed merged.texts merged.entries named.entries s.entries }
