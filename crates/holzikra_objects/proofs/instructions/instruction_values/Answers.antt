use Rattle.std.proofs.Common.{map, arith}
use Rattle.serde_json.specs.View.{view}
use Rattle.script_image.specs.ReadLines.{read_as}
use Rattle.script_image.proofs.CodeLoop.{reads_next, reads_none, reads_end}
use Rattle.holzikra_objects.specs.Objects.{instruction_data}
use Rattle.holzikra_objects.proofs.CodeSteps.{value_end, value_next}
use Rattle.holzikra_objects.proofs.ScriptSteps.{pushed}
use Rattle.holzikra_objects.proofs.instructions.instruction_values.Goals as goal

pub returns-in-None : goal.returns-in-None
returns-in-None c = value_end (instruction_data c.args.all.now c.args.texts.now c.args.notes.now) c.args.texts.now (map view c.loop.values.items) _ c.loop.at _ (reads_none c.args.code.now c.loop.at c.loop.counter c.loop-test.true c.in-None.ensures.value) c.loop.invariant

pub returns : goal.returns
returns c = value_end (instruction_data c.args.all.now c.args.texts.now c.args.notes.now) c.args.texts.now (map view c.loop.values.items) _ c.loop.at _ (reads_end c.args.code.now c.loop.at c.loop.counter c.loop-test.false) c.loop.invariant

pub loop-preserved : goal.loop-preserved
loop-preserved c =
    value_next (instruction_data c.args.all.now c.args.texts.now c.args.notes.now) c.args.texts.now c.args.code.now (map view c.loop.values.items) (map view c.push.new.self.items) _ c.loop.at c.loop.counter c.in-Some.instr
    (reads_next c.args.code.now c.loop.at c.loop.counter c.in-Some.instr (λ k. omega (arith, c.type_inv.code k)) c.loop-test.true c.in-Some.ensures.value)
    (pushed c.loop.values.items c.push.new.self.items c.in_ok-instruction_value-in-Some.field-0 (instruction_data c.args.all.now c.args.texts.now c.args.notes.now (read_as c.args.texts.now c.loop.at c.in-Some.instr)) c.in_ok-push-in-Some.ensures.items c.in_ok-instruction_value-in-Some.ensures)
    c.loop.invariant
