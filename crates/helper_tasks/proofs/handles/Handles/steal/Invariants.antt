use Rattle.std.proofs.Common.{[]}
use Rattle.helper_tasks.specs.Hands.{Moved}
use Rattle.helper_tasks.proofs.handles.Handles.steal.Given as goal

abbrev pub invariant-loop-step : goal.invariant-loop-step
invariant-loop-step g l = Moved l.initial.self l.self [] []
