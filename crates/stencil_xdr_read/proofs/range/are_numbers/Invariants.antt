use Rattle.std.proofs.Common.{ℕ}
use Rattle.stencil_xdr_read.specs.Within.{IsNumber}
use Rattle.stencil_xdr_read.proofs.Loops.{Reaches}
use Rattle.stencil_xdr_read.proofs.range.are_numbers.Given as goal

abbrev pub invariant-loop-at : goal.invariant-loop-at
invariant-loop-at l = Reaches (λ (at n : ℕ). IsNumber l.functions n) l.numbers l._at
