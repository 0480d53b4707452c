use Rattle.std.proofs.Common.{◌≡◌, List, ap, sym, ◌∙◌, subst, arith}
use Rattle.bytecode_buf.specs.declared.opcode.OpRow.{OpRow}
use Rattle.bytecode_buf.specs.declared.opcode.Shape.TheVariants as shape
use Rattle.bytecode_buf.specs.Width.{shape_of}
use Rattle.stencil_xdr_specs.specs.Image.{Item}
use Rattle.stencil_xdr_write.proofs.CodeWalk.{stands, items_named, items_plain, before_next}
use Rattle.stencil_xdr_write.proofs.Handing.{at_last}
use Rattle.stencil_xdr_write.proofs.code.hand_instruction.Goals as goal

pub part_of-requires-clause-order : goal.part_of-requires-clause-order
part_of-requires-clause-order g c = before_next c.args.code.now c.args.at c.args.instr (stands c.args.code.now c.args.at c.args.instr (λ k. omega (arith, c.type_inv.code k)) c.requires)

pub part_of-requires-clause-inside : goal.part_of-requires-clause-inside
part_of-requires-clause-inside g c = (stands c.args.code.now c.args.at c.args.instr (λ k. omega (arith, c.type_inv.code k)) c.requires).inside

pub returns-in_ok-number-in-Atom : goal.returns-in_ok-number-in-Atom
returns-in_ok-number-in-Atom g c =
    let named : shape_of c.args.instr.op ≡ shape.Atom = sym (ap (λ (r : OpRow). r.shape) c.row.ensures) ∙ c.in-Atom.is in
    at_last c.atom.result c.atom.ensures (λ h. subst (λ (l : List Item). g.S.Sink.takes c.args.sink.now l c.atom.new.self)
    (items_named c.args.code.now c.args.at c.args.instr (stands c.args.code.now c.args.at c.args.instr (λ k. omega (arith, c.type_inv.code k)) c.requires) named)
    (g.met.S.Sink.takes_both _ _ _ _ _ (rw c.byte.ensures at c.in_ok-number-in-Atom.ensures) h))

pub returns-in_default : goal.returns-in_default
returns-in_default g c =
    at_last c.bytes.result (rw c.part_of.ensures at c.bytes.ensures) (λ h. subst (λ (l : List Item). g.S.Sink.takes c.args.sink.now l c.bytes.new.self)
    (items_plain c.args.code.now c.args.at c.args.instr (stands c.args.code.now c.args.at c.args.instr (λ k. omega (arith, c.type_inv.code k)) c.requires) (λ e. c.in_default.not-Atom (ap (λ (r : OpRow). r.shape) c.row.ensures ∙ e))) h)
