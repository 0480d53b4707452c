use Rattle.std.proofs.Common.{◌≡◌, ◌∙◌, ℕ, ◌+◌, ap, ap₂, arith}
use Rattle.bytecode_buf.specs.declared.opcode.OpRow.{OpRow}
use Rattle.bytecode_buf.specs.declared.opcode.Shape.{Shape}
use Rattle.bytecode_buf.specs.Width.{first_of, second_of, first_width, second_width, width_of}
use Rattle.stencil_merge.specs.declared.code.Step.{Step}
use Rattle.stencil_merge.proofs.Renumbering.{step_is_decoded}
use Rattle.stencil_merge.proofs.code.step_of.Goals as goal

pub returns : goal.returns
returns c =
    let o = c.args.op in
    let first : c.first_width.result ≡ first_of o = c.first_width.ensures ∙ ap (λ (r : OpRow). first_width r.shape) c.row-shape.ensures in
    let second : c.second_width.result ≡ second_of o = c.second_width.ensures ∙ ap (λ (r : OpRow). second_width r.shape) c.row-shape.ensures in
    let next : c.args.at + (1 + (c.first_width.result + c.second_width.result)) ≡ c.args.at + width_of o = omega (arith, first, second) in
    step_is_decoded o c.args.at c.args.behind.now (c.first_width.result + c.second_width.result) _ (ap₂ (λ (a b : ℕ). a + b) first second) c.if-behind-width.false
    (ap₂ (λ (s : Shape) (n : ℕ). let step : Step = record { op = o; shape = s; next = n } in step) (ap (λ (r : OpRow). r.shape) c.row-shape.ensures) next)
