use Rattle.std.proofs.Common.{arith, ap, sym, ◌∙◌, ◌≡◌, ◌-◌}
use Rattle.script_image.proofs.Walks.{goes_on, stays}
use Rattle.script_image.specs.Pieces.{walked}
use Rattle.script_image.proofs.code_lines.offset_behind.Goals as goal

pub returns-in-None : goal.returns-in-None
returns-in-None c = sym (stays c.args.code.now c.loop.at (c.args.count - c.loop.counter) c.in-None.ensures.value) ∙ c.loop.invariant.0

pub loop-preserved : goal.loop-preserved
loop-preserved c =
    let more = c.loop-test.true in
    (goes_on c.args.code.now c.loop.at c.loop.counter c.args.count c.args.from c.args.count c.in-Some.instr more c.in-Some.ensures.value c.loop.invariant.0, omega (arith, more))

pub returns : goal.returns
returns c =
    let past = c.loop-test.false in
    let none : c.args.count - c.loop.counter ≡ 0 = omega (arith, past) in
    ap (walked c.args.code.now c.loop.at) (sym none) ∙ c.loop.invariant.0
