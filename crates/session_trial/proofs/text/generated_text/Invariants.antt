use Rattle.std.proofs.Common.{◌≡◌, ◌++◌, ◌-◌}
use Rattle.session_trial.specs.Generated.{generated, lines_from}
use Rattle.session_trial.proofs.text.generated_text.Given as goal

-- what stands there and the lines that are to come are the whole text
abbrev pub invariant-loop-index : goal.invariant-loop-index
invariant-loop-index l = l.out.items ++ lines_from (l.size - l.index) l.index l.state ≡ generated l.number l.size
