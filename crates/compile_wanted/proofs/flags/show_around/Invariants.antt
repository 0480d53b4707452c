use Rattle.compile_wanted.proofs.Showing.{Shown}
use Rattle.compile_wanted.proofs.flags.show_around.Given as goal

abbrev pub invariant-loop-left : goal.invariant-loop-left
invariant-loop-left l = Shown l.initial.flags l.ends l.flags l.least l.left

abbrev pub decreases-loop-left : goal.decreases-loop-left
decreases-loop-left l = l.left
