use Rattle.std.proofs.Common.{◌-◌, length}
use Rattle.stencil_merge.proofs.Renumbering.{Renumbering}
use Rattle.stencil_merge.proofs.code.renumber_code.Given as goal

abbrev pub invariant-loop-step : goal.invariant-loop-step
invariant-loop-step l = Renumbering l.atoms l.numbers l.initial.code l.code l.at

abbrev pub decreases-loop-step : goal.decreases-loop-step
decreases-loop-step l = length l.initial.code - l.at
