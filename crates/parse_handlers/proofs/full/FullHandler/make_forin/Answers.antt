use Rattle.std.proofs.Common.{◌∙◌, ap}
use Rattle.script_grammar.specs.Tree as model
use Rattle.script_grammar.specs.TreeOf.{expr_of, stmt_of}
use Rattle.parse_handlers.proofs.KeptShown.{if_ok, each_shown}
use Rattle.parse_handlers.proofs.full.FullHandler.make_forin.Goals as goal

pub returns : goal.returns
returns c = λ i n t b h g k. if_ok c.for_in.result (λ made p. p i ∙ ap (λ x. model.ForIn x (expr_of i c.args.over) (stmt_of i c.args.body)) (c.each.ensures i ∙ each_shown i c.args.each n h) ∙ ap (λ x. model.ForIn n x (stmt_of i c.args.body)) g ∙ ap (model.ForIn n t) k) c.for_in.ensures
