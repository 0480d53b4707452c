-- What the verifier says of code.
use Rattle.std.specs.Prelude.{◌≡◌, ℕ, false, List}
use Rattle.stencil_data.specs.declared.stencils.TryNote.{TryNote}
use Rattle.bytecode_buf.specs.Machine.{State, Reaches, is_stuck}
use Rattle.bytecode_buf.specs.Verdicts.{Soundness, Sound, Unsound}
use Rattle.code_check.specs.declared.verdict.Verdict.{Verdict}
use Rattle.code_check.specs.declared.verdict.Verdict.TheVariants as verdict

-- what a verdict says
abbrev pub soundness : Verdict → Soundness
soundness (verdict.Sound depth) = Sound depth
soundness verdict.Unsound = Unsound

-- no state that any number of steps reaches is stuck
abbrev pub IsNeverStuck : List ℕ → List TryNote → Verdict → Type 0
IsNeverStuck code notes (verdict.Sound depth) = (s : State) → Reaches code notes s → is_stuck code s ≡ false
IsNeverStuck code notes verdict.Unsound = Unit {0}
