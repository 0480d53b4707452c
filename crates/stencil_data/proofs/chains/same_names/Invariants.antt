use Rattle.std.proofs.Common.{◌≡◌, length}
use Rattle.stencil_data.proofs.chains.same_names.Given as goal

-- the lists are equal exactly where what is left of them is
abbrev pub invariant-loop-first : goal.invariant-loop-first
invariant-loop-first l = (l.one ≡ l.two → l.fn.one ≡ l.fn.two) × (l.fn.one ≡ l.fn.two → l.one ≡ l.two)

abbrev pub decreases-loop-first : goal.decreases-loop-first
decreases-loop-first l = length l.one
