use Rattle.std.proofs.Common.{drop_of_length-le, sym, ap, ◌∙◌}
use Rattle.parse_early_handler.specs.Firsts.{are_more}
use Rattle.parse_early_handler.proofs.Turns.{more_found, more_passed, next_of}
use Rattle.parse_early_handler.proofs.parts.are_more.Goals as goal

pub loop-param-preserved : goal.loop-param-preserved
loop-param-preserved g c =
    let xs = c.args.params.now in
    let k = c.loop-param.param-index in
    c.loop-param.invariant ∙ more_passed xs k c.param-item.result c.is_more.result (next_of xs k c.param-item.result c.loop-param-test.true c.param-item.is) c.is_more.ensures c.if-is_more.false

pub returns-then-is_more : goal.returns-then-is_more
returns-then-is_more g c =
    let xs = c.args.params.now in
    let k = c.loop-param.param-index in
    sym (c.loop-param.invariant ∙ more_found xs k c.param-item.result c.is_more.result (next_of xs k c.param-item.result c.loop-param-test.true c.param-item.is) c.is_more.ensures c.if-is_more.true)

pub returns : goal.returns
returns g c = sym (c.loop-param.invariant ∙ ap are_more (drop_of_length-le c.args.params.now c.loop-param-test.false))
