use Rattle.std.proofs.Common.{◌∙◌, ap}
use Rattle.script_grammar.specs.Tree as model
use Rattle.script_grammar.specs.TreeOf.{stmt_of}
use Rattle.parse_handlers.proofs.KeptShown.{if_ok}
use Rattle.parse_handlers.proofs.full.FullHandler.make_while.Goals as goal

pub returns : goal.returns
returns c = λ i t b h g. if_ok c.while_stmt.result (λ made p. p i ∙ ap (λ x. model.While x (stmt_of i c.args.body)) h ∙ ap (model.While t) g) c.while_stmt.ensures
