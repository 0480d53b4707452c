-- A script merged whole: its parts, and functions of it that were compiled alone. This project's own choice.
use Rattle.std.specs.Prelude.{ℕ, ◌+◌, ◌≤◌, nat_eq, if◌then◌else◌, All, List, [], ◌∷◌, length, map, sum_by, Option, Some, None, option_map}
use Rattle.stencil_data.specs.Named.{NamedFunction, NamedInitial, NamedMerged}
use Rattle.stencil_data.specs.StandsFor.{FunctionStandsFor, InitialStandsFor, MergedStandsFor}
use Rattle.stencil_data.specs.Views.{InitialView}
use Rattle.stencil_data.specs.MergedView.{MergedView}
use Rattle.bytecode_buf.specs.Command.{ShowsCommands}
use Rattle.stencil_merge.specs.Functions.{named_inner_of, outermost}
use Rattle.stencil_merge.specs.Instructions.{ShowsListed, numbered_list, numbered_commands}
use Rattle.stencil_merge.specs.Merging.{with_code}
use Rattle.stencil_merge.specs.declared.whole.CompiledAlone.{CompiledAlone}

-- ---- as values with texts

-- the first of these functions that has this number
abbrev pub first_of : {F : Type 0} → ℕ → List ℕ → List F → Option F
first_of number [] fs = None
first_of number (n ∷ ns) [] = None
first_of number (n ∷ ns) (f ∷ fs) = if nat_eq n number then Some f else first_of number ns fs

-- Of each function from this number on, given the numbers of those directly in it: what the first of its number was compiled
-- to, if there is one.
abbrev pub entries_from : {Code : Type 0} → (List ℕ → Code → Code) → List ℕ → List (NamedFunction Code) → ℕ → List (List ℕ)
    → List (Option (NamedFunction Code))
entries_from numbered ns fs number [] = []
entries_from numbered ns fs number (inner ∷ rest) =
    option_map (λ f. with_code f (numbered inner f.code)) (first_of number ns fs) ∷ entries_from numbered ns fs (number + 1) rest

-- the script in which these functions are compiled, each by its number
abbrev pub merged_of : {Code : Type 0} → (List ℕ → Code → Code) → NamedInitial Code → List ℕ → List (NamedFunction Code) → NamedMerged Code
merged_of numbered parts ns fs = record {
  top = with_code parts.top (numbered (outermost (named_inner_of parts.records)) parts.top.code);
  records = parts.records;
  entries = entries_from numbered ns fs 1 (named_inner_of parts.records);
}

-- ---- what parts stand for

abbrev pub numbers_of : List CompiledAlone → List ℕ
numbers_of functions = map (λ (c : CompiledAlone). c.number) functions

-- each stands for its function by its own texts
abbrev pub EachStands : {Code : Type 0} → (List (List ℕ) → List ℕ → Code → Type 0) → List CompiledAlone → List (NamedFunction Code) → Type 0
EachStands shows [] [] = Unit {0}
EachStands shows [] (f ∷ fs) = ⊥
EachStands shows (c ∷ cs) [] = ⊥
EachStands shows (c ∷ cs) (f ∷ fs) = FunctionStandsFor shows c.texts.items c.stencil f × EachStands shows cs fs

abbrev pub MergesBy : {Code : Type 0} → (List (List ℕ) → List ℕ → Code → Type 0) → (List ℕ → Code → Code)
    → InitialView → List CompiledAlone → MergedView → Type 0
MergesBy {Code} shows numbered parts functions merged =
    (named : NamedInitial Code) (fs : List (NamedFunction Code)) → InitialStandsFor shows parts named → EachStands shows functions fs
    → MergedStandsFor shows merged (merged_of numbered named (numbers_of functions) fs)

-- whatever the parts and the functions stand for, the merged stencil stands for the script in which these are compiled
pub record Merges (parts : InitialView) (functions : List CompiledAlone) (merged : MergedView) : Type 0 where
  pub listed : MergesBy ShowsListed numbered_list parts functions merged
  pub commands : MergesBy ShowsCommands numbered_commands parts functions merged

-- ---- what is asked of them

-- each number is that of one of n functions
abbrev pub HaveNumbers : ℕ → List CompiledAlone → Type 0
HaveNumbers count functions = All (λ (c : CompiledAlone). (1 ≤ c.number) × (c.number ≤ count)) functions

abbrev pub text_count : List CompiledAlone → ℕ
text_count functions = sum_by (λ (c : CompiledAlone). length c.texts.items) functions
