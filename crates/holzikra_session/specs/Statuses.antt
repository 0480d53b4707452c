-- Which verdicts count as refusals, and what the program ends with: this project's own choice.
use Rattle.std.specs.Prelude.{◌≡◌, ℕ, Bool, true, false, ◌||◌}
use Rattle.holzikra_words.specs.declared.check.Unsupported.{Unsupported}
use Rattle.holzikra_words.specs.declared.check.Unsupported.TheVariants as choice
use Rattle.holzikra_session.specs.declared.verdict.Verdict.{Verdict}
use Rattle.holzikra_session.specs.declared.verdict.Verdict.TheVariants as verdict
use Rattle.holzikra_session.specs.declared.status.Status.{Status}
use Rattle.holzikra_session.specs.declared.status.Status.TheVariants as status
use Rattle.holzikra_session.specs.declared.status.Tally.{Tally}

abbrev pub is_refusal : Verdict → Bool
is_refusal (verdict.Script functions) = false
is_refusal (verdict.Refused reason) = true

-- a file with this verdict is counted: a refusal as one, unless forms outside the profile are let pass; nothing else as one
pub record IsCounted (chosen : Unsupported) (found : Verdict) (before after : Tally) : Type 0 where
  pub strict : chosen ≡ choice.Error → after.refused ≡ (before.refused || is_refusal found)
  pub script : is_refusal found ≡ false → after.refused ≡ before.refused
  pub kept : before.refused ≡ true → after.refused ≡ true
  pub failed : after.failed ≡ before.failed

-- 2 where something failed, else 1 where some verdict is a refusal, else 0
abbrev pub status_of : Bool → Bool → Status
status_of refused true = status.Trouble
status_of true false = status.Refused
status_of false false = status.Fine

abbrev pub number_of : Status → ℕ
number_of status.Fine = 0
number_of status.Refused = 1
number_of status.Trouble = 2
number_of status.NoMemory = 3
