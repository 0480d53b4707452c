use Rattle.std.proofs.Common.{ℕ, length}
use Rattle.stencil_data.specs.Views.{RecordView}
use Rattle.stencil_xdr_read.specs.Within.{AreNumbers}
use Rattle.stencil_xdr_read.proofs.Loops.{Reaches}
use Rattle.stencil_xdr_read.proofs.range.have_numbers.Given as goal

abbrev pub invariant-loop-at : goal.invariant-loop-at
invariant-loop-at l = Reaches (λ (at : ℕ) (lazy : RecordView). AreNumbers (length l.records) lazy.inner) l.records l._at
