-- What merging keeps and adds, by what parts stand for. This project's own choice.
--
-- In a function that was compiled alone, and in a script that was compiled lazily, an inner function is named in code by its
-- place among those directly inside; in a merged stencil it is named by its number.
use Rattle.std.specs.Prelude.{◌≡◌, ℕ, zero, suc, ◌-◌, ◌^◌, ◌<◌, List, [], ◌∷◌, ◌++◌, length, map, Option, Some, None, slice_index_or}
use Rattle.stencil_data.specs.declared.stencils.Entry.{Entry}
use Rattle.stencil_data.specs.declared.stencils.Entry.TheVariants as entry
use Rattle.stencil_data.specs.MergedView.{MergedView}
use Rattle.stencil_data.specs.Named.{NamedFunction, NamedRecord, NamedInitial, NamedMerged}
use Rattle.stencil_data.specs.StandsFor.{FunctionStandsFor, InitialStandsFor, MergedStandsFor}
use Rattle.stencil_data.specs.Views.{FunctionView, InitialView}
use Rattle.bytecode_buf.specs.Command.{ShowsCommands, listed}
use Rattle.parser_atoms.specs.Places.{AreWithoutEquals}
use Rattle.stencil_merge.specs.Functions.{named_inner_of, numbers_in, outermost}
use Rattle.stencil_merge.specs.Instructions.{ShowsListed, numbered_list, numbered_commands}

-- ---- as values with texts

-- the same function, whose code is another
abbrev pub with_code : {Code : Type 0} → NamedFunction Code → Code → NamedFunction Code
with_code f code = record f { code = code }

-- a script none of whose functions is compiled
abbrev pub all_lazy : {Code : Type 0} → (List ℕ → Code → Code) → NamedInitial Code → NamedMerged Code
all_lazy numbered parts = record {
  top = with_code parts.top (numbered (outermost (named_inner_of parts.records)) parts.top.code);
  records = parts.records;
  entries = map (λ (lazy : NamedRecord). None) parts.records;
}

-- the list with this function at a place, where there is none yet
abbrev pub filled_at : {F : Type 0} → ℕ → F → List (Option F) → List (Option F)
filled_at place f [] = []
filled_at zero f (None ∷ entries) = Some f ∷ entries
filled_at zero f (Some g ∷ entries) = Some g ∷ entries
filled_at (suc place) f (e ∷ entries) = e ∷ filled_at place f entries

-- the script in which the function of this number is compiled too; where it was compiled already it stays as it is
abbrev pub with_function : {Code : Type 0} → (List ℕ → Code → Code) → ℕ → NamedFunction Code → NamedMerged Code → NamedMerged Code
with_function numbered number f merged = record merged {
  entries = filled_at (number - 1) (with_code f (numbered (numbers_in (named_inner_of merged.records) number) f.code)) merged.entries;
}

-- ---- what parts stand for, by a reading of code

-- whatever the parts stand for, the merged stencil stands for, none of its functions being compiled
abbrev pub BeginsBy : {Code : Type 0} → (List (List ℕ) → List ℕ → Code → Type 0) → (List ℕ → Code → Code) → InitialView → MergedView → Type 0
BeginsBy {Code} shows numbered parts merged =
    (named : NamedInitial Code) → InitialStandsFor shows parts named → MergedStandsFor shows merged (all_lazy numbered named)

-- whatever the old one stands for, the new one does
abbrev pub KeepsBy : {Code : Type 0} → (List (List ℕ) → List ℕ → Code → Type 0) → MergedView → MergedView → Type 0
KeepsBy {Code} shows old new = (named : NamedMerged Code) → MergedStandsFor shows old named → MergedStandsFor shows new named

-- whatever the old one stands for, and whatever the function of this number stands for by its own texts, the new one stands
-- for the script in which this function is compiled too
abbrev pub AddsBy : {Code : Type 0} → (List (List ℕ) → List ℕ → Code → Type 0) → (List ℕ → Code → Code)
    → ℕ → FunctionView → List (List ℕ) → MergedView → MergedView → Type 0
AddsBy {Code} shows numbered number stencil texts old new =
    (named : NamedMerged Code) (f : NamedFunction Code) → MergedStandsFor shows old named → FunctionStandsFor shows texts stencil f
    → MergedStandsFor shows new (with_function numbered number f named)

-- ---- the same by both readings of code: as any list of instructions with their offsets, and as commands with distances

pub record Begins (parts : InitialView) (merged : MergedView) : Type 0 where
  pub listed : BeginsBy ShowsListed numbered_list parts merged
  pub commands : BeginsBy ShowsCommands numbered_commands parts merged

pub record Keeps (old new : MergedView) : Type 0 where
  pub listed : KeepsBy ShowsListed old new
  pub commands : KeepsBy ShowsCommands old new

pub record Adds (number : ℕ) (stencil : FunctionView) (texts : List (List ℕ)) (old new : MergedView) : Type 0 where
  pub listed : AddsBy ShowsListed numbered_list number stencil texts old new
  pub commands : AddsBy ShowsCommands numbered_commands number stencil texts old new

-- ---- the parts themselves

-- the top, the records and the entries are the same
pub record SameParts (old new : MergedView) : Type 0 where
  pub top : new.top ≡ old.top
  pub records : new.records ≡ old.records
  pub entries : new.entries ≡ old.entries

abbrev pub IsCompiled : Entry → Type 0
IsCompiled entry.Lazy = ⊥
IsCompiled (entry.Compiled part) = Unit {0}

-- the function of this number is compiled
abbrev pub HasFunction : MergedView → ℕ → Type 0
HasFunction merged number = IsCompiled (slice_index_or merged.entries (number - 1) entry.Lazy)

-- ---- what a merger knows of its parts

-- whatever texts are put after these, up to their greatest count, the code stands for the same
abbrev pub IsSettled : List (List ℕ) → List ℕ → Type 0
IsSettled texts code = (more : List (List ℕ)) → length (texts ++ more) < 2 ^ 32 → listed (texts ++ more) code ≡ listed texts code

abbrev pub AreSettled : List (List ℕ) → List Entry → Type 0
AreSettled texts [] = Unit {0}
AreSettled texts (entry.Lazy ∷ entries) = AreSettled texts entries
AreSettled texts (entry.Compiled part ∷ entries) = IsSettled texts part.code × AreSettled texts entries

pub record IsMerging (merged : MergedView) : Type 0 where
  pub few : length merged.texts < 2 ^ 32
  pub apart : AreWithoutEquals merged.texts
  pub many : length merged.entries ≡ length merged.records
  pub top : IsSettled merged.texts merged.top.code
  pub entries : AreSettled merged.texts merged.entries
