use Rattle.std.proofs.Common.{List, subst, arith}
use Rattle.stencil_xdr_specs.specs.Image.{Item}
use Rattle.stencil_xdr_laws.proofs.HeldCode.{of_bytes}
use Rattle.stencil_xdr_write.proofs.Handing.{at_any, at_last}
use Rattle.stencil_xdr_write.proofs.Whole.{items_of_code}
use Rattle.stencil_xdr_write.proofs.code.hand_code.Goals as goal

pub returns-clause-taken : goal.returns-clause-taken
returns-clause-taken g c =
    at_last c.hand_instructions.result c.hand_instructions.ensures (λ h.
    subst (λ (l : List Item). g.S.Sink.takes c.args.sink.now l c.hand_instructions.new.sink) (items_of_code c.args.code.now (of_bytes c.args.code.now (λ k. omega (arith, c.type_inv.code k))))
    (g.met.S.Sink.takes_both _ _ _ _ _ (rw c.whole_length.ensures at c.in_ok-number.ensures) h))

pub returns-clause-bytes : goal.returns-clause-bytes
returns-clause-bytes g c = at_any c.hand_instructions.result (of_bytes c.args.code.now (λ k. omega (arith, c.type_inv.code k)))
