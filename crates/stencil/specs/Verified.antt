-- Whether all code of a stencil is sound, by the definitions of bytecode_buf.
use Rattle.std.specs.Prelude.{◌≡◌, ℕ, ◌<◌, ◌≤◌, false, Some}
use Rattle.stencil_data.specs.declared.stencils.Entry.{Entry}
use Rattle.stencil_data.specs.declared.stencils.Entry.TheVariants as entry
use Rattle.stencil_data.specs.MergedView.{MergedView}
use Rattle.stencil_data.specs.Views.{FunctionView}
use Rattle.bytecode_buf.specs.Machine.{HasDepthTable, State, Reaches, is_stuck}
use Rattle.bytecode_buf.specs.Verdicts.{IsSound, IsVerified}
use Rattle.code_check.specs.declared.verdict.Verdict.{Verdict}
use Rattle.code_check.specs.declared.verdict.Verdict.TheVariants as verdict
use Rattle.code_check.specs.Parts.{part_of}
use Rattle.code_check.specs.Verdicts.{soundness}
use Rattle.stencil.specs.declared.verifying.Soundness.{Soundness}
use Rattle.stencil.specs.declared.verifying.Soundness.TheVariants as verified

-- the code of a part is sound, and its stack gets no deeper than this
abbrev pub IsWithin : ℕ → FunctionView → Type 0
IsWithin most part = (depth : ℕ) × IsSound part.code part.notes depth × (depth ≤ most)

-- The code of each part is sound and gets no deeper than this, and that of one part gets as deep.
pub record AreSound (m : MergedView) (depth : ℕ) : Type 0 where
  pub each : (number : ℕ) (part : FunctionView) → part_of m number ≡ Some part → IsWithin depth part
  pub number : ℕ
  pub part : FunctionView
  pub is : part_of m number ≡ Some part
  pub reached : IsSound part.code part.notes depth

-- The code of the part of this number has no depth table, and that of each part before it has one.
pub record IsFirstUnsound (m : MergedView) (number : ℕ) : Type 0 where
  pub part : FunctionView
  pub is : part_of m number ≡ Some part
  pub unsound : HasDepthTable part.code part.notes → ⊥
  pub before : (other : ℕ) (earlier : FunctionView) → other < number → part_of m other ≡ Some earlier → HasDepthTable earlier.code earlier.notes

-- what is said of all code of a stencil
abbrev pub IsVerdictOf : MergedView → Soundness → Type 0
IsVerdictOf m (verified.Sound depth) = AreSound m depth
IsVerdictOf m (verified.Unsound number) = IsFirstUnsound m number

-- no state that any number of steps of any of its code reaches is stuck
abbrev pub NeverStuck : MergedView → Soundness → Type 0
NeverStuck m (verified.Sound depth) =
    (number : ℕ) (part : FunctionView) → part_of m number ≡ Some part → (s : State) → Reaches part.code part.notes s → is_stuck part.code s ≡ false
NeverStuck m (verified.Unsound number) = Unit {0}

-- the code is sound
abbrev pub IsFine : Soundness → Type 0
IsFine (verified.Sound depth) = Unit {0}
IsFine (verified.Unsound number) = ⊥

-- the verdict on one code is that it is sound
abbrev pub IsFineVerdict : Verdict → Type 0
IsFineVerdict (verdict.Sound depth) = Unit {0}
IsFineVerdict verdict.Unsound = ⊥

-- what is said of the code of an entry, where a function that is not compiled has none
abbrev pub IsEntryVerdict : Entry → Verdict → Type 0
IsEntryVerdict entry.Lazy v = v ≡ verdict.Sound 0
IsEntryVerdict (entry.Compiled part) v = IsVerified part.code part.notes (soundness v)
