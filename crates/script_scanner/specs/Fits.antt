-- Steps and pieces that lie within a text.
use Rattle.std.specs.Prelude.{ℕ, ◌<◌, ◌≤◌, ⊤}
use Rattle.script_scanner.specs.declared.escapes.Step.{Step}
use Rattle.script_scanner.specs.declared.escapes.Step.TheVariants.{Add, Skip, Close, Break}

-- The step takes one code point at least and no more than there are, and what it adds is at most 10FFFF.
abbrev pub StepFits : ℕ → Step → Type 0
StepFits room (Add code n) = (0 < n) × (n ≤ room) × (code ≤ 0x10_FFFF)
StepFits room (Skip n) = (0 < n) × (n ≤ room)
StepFits room (Close n) = (0 < n) × (n ≤ room)
StepFits room Break = ⊤
