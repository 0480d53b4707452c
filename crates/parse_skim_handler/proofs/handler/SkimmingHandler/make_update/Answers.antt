use Rattle.script_grammar.specs.Tree as model
use Rattle.parse_skim_handler.proofs.Made.{expr-noted, unpacked-expr}
use Rattle.parse_skim_handler.proofs.handler.SkimmingHandler.make_update.Goals as goal

pub returns : goal.returns
returns c = λ i t h.
    let w = unpacked-expr i _ _ t c.whole-told.ensures h in
    expr-noted i _ _ c.in_ok-node.ensures (model.Update c.args.at c.args.op c.args.prefix t) w.0.says w.0.puts (c.in_ok-errors.ensures i t w.1)
