use Rattle.std.proofs.Common.{refl}
use Rattle.script_grammar.specs.Tree as model
use Rattle.parse_skim_handler.proofs.Made.{stmt-noted, unpacked-expr}
use Rattle.parse_skim_handler.proofs.handler.SkimmingHandler.make_value.Goals as goal

pub returns : goal.returns
returns c = λ i t h.
    let w = unpacked-expr i _ _ t c.whole-told.ensures h in
    stmt-noted i _ _ c.in_ok-node.ensures (model.Value t c.args.semi) (λ top. w.0.says) w.0.puts refl (c.in_ok-errors.ensures i t w.1)
