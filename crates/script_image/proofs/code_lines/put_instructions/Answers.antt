use Rattle.std.proofs.Common.{◌++◌, arith}
use Rattle.script_image.proofs.Walks.{walking_end, walking_next, walking_none, walking_start}
use Rattle.script_image.proofs.code_lines.put_instructions.Goals as goal

pub loop-init : goal.loop-init
loop-init c = walking_start c.args.texts.now c.args.code.now (c.args.out.now.items ++ c.args.chunk.now.items) c.args.from c.args.turn c.args.end c.requires.ends.0

pub returns-in-None : goal.returns-in-None
returns-in-None c = walking_none c.args.texts.now c.args.code.now (c.loop.out.items ++ c.loop.chunk.items) _ c.loop.at c.loop.counter c.args.end c.args.from _ c.in-None.ensures.value c.loop.invariant

pub loop-preserved : goal.loop-preserved
loop-preserved c =
    walking_next c.args.texts.now c.args.code.now (c.loop.out.items ++ c.loop.chunk.items) (c.put_line.new.out.items ++ c.put_line.new.chunk.items) _ c.loop.at c.loop.counter c.args.end c.args.from _ c.in-Some.instr
    (λ k. omega (arith, c.type_inv.code k)) c.loop-test.true c.requires.ends.1 c.in-Some.ensures.value c.in_ok-put_line-in-Some.ensures c.loop.invariant

pub returns : goal.returns
returns c = walking_end c.args.texts.now c.args.code.now (c.loop.out.items ++ c.loop.chunk.items) _ c.loop.at c.loop.counter c.args.end c.args.from _ c.loop-test.false c.loop.invariant
