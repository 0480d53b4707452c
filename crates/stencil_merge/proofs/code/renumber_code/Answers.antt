use Rattle.std.proofs.Common.{◌≡◌, ℕ, false, Option, Some, subst}
use Rattle.stencil_merge.specs.Instructions.{is_numbered, new_operand}
use Rattle.stencil_merge.proofs.Renumbering.{Renumbering, begins, begins_numbered, passes, makes, ends, no_step, step_falls, step_passes, step_ends}
use Rattle.stencil_merge.proofs.code.renumber_code.Goals as goal

pub loop-step-init : goal.loop-step-init
loop-step-init c = begins c.args.atoms.now c.args.numbers.now c.args.code.now

pub renumber-requires-clause-numbered : goal.renumber-requires-clause-numbered
renumber-requires-clause-numbered c =
    let instr = c.in-Some-decode_at.instr in
    let made : ◌≡◌ {A = Option ℕ} (Some c.in-Some-changed.operand) (new_operand c.args.atoms.now c.args.numbers.now c.in-Some-decode_at.instr.op c.in-Some-decode_at.instr.a) = cc in
    begins_numbered c.args.atoms.now c.args.numbers.now c.loop-step.code c.loop-step.at instr c.in-Some-changed.operand c.in-Some-decode_at.ensures.value made

pub loop-step-smaller-in-Some-changed : goal.loop-step-smaller-in-Some-changed
loop-step-smaller-in-Some-changed c = step_falls c.args.code.now c.loop-step.code c.loop-step.at c.in-Some.step c.in-Some.ensures c.loop-step.auto.code

pub loop-step-preserved-in-Some-changed : goal.loop-step-preserved-in-Some-changed
loop-step-preserved-in-Some-changed c =
    let instr = c.in-Some-decode_at.instr in
    let made : ◌≡◌ {A = Option ℕ} (Some c.from.result) (new_operand c.args.atoms.now c.args.numbers.now c.in-Some-decode_at.instr.op c.in-Some-decode_at.instr.a) = cc in
    subst (λ (n : ℕ). Renumbering c.args.atoms.now c.args.numbers.now c.args.code.now c.renumber.new.code n)
    (step_ends c.loop-step.code c.loop-step.at c.in-Some.step instr c.in-Some.ensures c.in-Some-decode_at.ensures.value)
    (makes c.args.atoms.now c.args.numbers.now c.args.code.now c.loop-step.code c.renumber.new.code c.loop-step.at instr c.from.result c.in-Some-decode_at.ensures.value made c.renumber.ensures.bytes c.renumber.ensures.operand c.loop-step.invariant)

pub loop-step-smaller-in_default-changed : goal.loop-step-smaller-in_default-changed
loop-step-smaller-in_default-changed c = step_falls c.args.code.now c.loop-step.code c.loop-step.at c.in-Some.step c.in-Some.ensures c.loop-step.auto.code

pub loop-step-preserved-in_default-changed : goal.loop-step-preserved-in_default-changed
loop-step-preserved-in_default-changed c =
    let instr = c.in-Some-decode_at.instr in
    subst (λ (n : ℕ). Renumbering c.args.atoms.now c.args.numbers.now c.args.code.now c.loop-step.code n)
    (step_ends c.loop-step.code c.loop-step.at c.in-Some.step instr c.in-Some.ensures c.in-Some-decode_at.ensures.value)
    (passes c.args.atoms.now c.args.numbers.now c.args.code.now c.loop-step.code c.loop-step.at instr c.in-Some-decode_at.ensures.value c.in_default-changed.ensures c.loop-step.invariant)

pub loop-step-smaller : goal.loop-step-smaller
loop-step-smaller c = step_falls c.args.code.now c.loop-step.code c.loop-step.at c.in-Some.step c.in-Some.ensures c.loop-step.auto.code

pub loop-step-preserved : goal.loop-step-preserved
loop-step-preserved c =
    let none : is_numbered c.in-Some.step.op c.in-Some.step.shape ≡ false = cc in
    step_passes c.args.atoms.now c.args.numbers.now c.args.code.now c.loop-step.code c.loop-step.at c.in-Some.step c.in-Some.ensures none c.loop-step.invariant

pub returns-clause-are : goal.returns-clause-are
returns-clause-are c = ends c.args.atoms.now c.args.numbers.now c.args.code.now c.loop-step.code c.loop-step.at (no_step c.loop-step.code c.loop-step.at c.in_default.ensures) c.loop-step.invariant
