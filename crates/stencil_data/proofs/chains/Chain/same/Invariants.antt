use Rattle.std.proofs.Common.{◌≡◌, length}
use Rattle.stencil_data.proofs.chains.Chain.same.Given as goal

-- the chains are equal exactly where what is left of them is
abbrev pub invariant-loop-one : goal.invariant-loop-one
invariant-loop-one l = (l.one ≡ l.two → l.fn.self ≡ l.fn.other) × (l.fn.self ≡ l.fn.other → l.one ≡ l.two)

abbrev pub decreases-loop-one : goal.decreases-loop-one
decreases-loop-one l = length l.one
