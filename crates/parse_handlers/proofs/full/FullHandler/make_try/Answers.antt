use Rattle.std.proofs.Common.{◌∙◌, ap, map}
use Rattle.script_grammar.specs.Interpretation.{maybe_named}
use Rattle.script_grammar.specs.Tree as model
use Rattle.script_grammar.specs.TreeLists.{stmts_of}
use Rattle.script_grammar.specs.TreeOf.{stmt_of}
use Rattle.parse_handlers.proofs.KeptShown.{if_ok, stmts_shown}
use Rattle.parse_handlers.proofs.full.FullHandler.make_try.Goals as goal

pub returns : goal.returns
returns c = λ i bs hs h g. if_ok c.try_stmt.result (λ made p. p i ∙ ap (λ xs. model.Try (stmts_of xs) (maybe_named i c.args.param) (stmts_of (map (stmt_of i) c.args.handler.items))) (stmts_shown i c.args.body.items bs h) ∙ ap (λ xs. model.Try (stmts_of bs) (maybe_named i c.args.param) (stmts_of xs)) (stmts_shown i c.args.handler.items hs g)) c.try_stmt.ensures
