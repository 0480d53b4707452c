use Rattle.std.proofs.Common.{◌∙◌, ap}
use Rattle.script_grammar.specs.Tree as model
use Rattle.script_grammar.specs.TreeOf.{expr_of}
use Rattle.parse_handlers.proofs.KeptShown.{if_ok}
use Rattle.parse_handlers.proofs.full.FullHandler.make_do.Goals as goal

pub returns : goal.returns
returns c = λ i b t h g. if_ok c.do_stmt.result (λ made p. p i ∙ ap (λ x. model.Do x (expr_of i c.args.test) c.args.semi) h ∙ ap (λ x. model.Do b x c.args.semi) g) c.do_stmt.ensures
