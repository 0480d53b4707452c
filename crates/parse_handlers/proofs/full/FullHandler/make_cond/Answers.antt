use Rattle.std.proofs.Common.{◌∙◌, ap}
use Rattle.script_grammar.specs.Tree as model
use Rattle.script_grammar.specs.TreeOf.{expr_of}
use Rattle.parse_handlers.proofs.KeptShown.{if_ok}
use Rattle.parse_handlers.proofs.full.FullHandler.make_cond.Goals as goal

pub returns : goal.returns
returns c = λ i t u v h g k. if_ok c.cond.result (λ made p. p i ∙ ap (λ x. model.Cond x (expr_of i c.args.yes) (expr_of i c.args.no)) h ∙ ap (λ x. model.Cond t x (expr_of i c.args.no)) g ∙ ap (model.Cond t u) k) c.cond.ensures
