use Rattle.std.proofs.Common.{refl}
use Rattle.script_grammar.specs.Interpretation.{maybe_named}
use Rattle.script_grammar.specs.Tree as model
use Rattle.script_grammar.specs.TreeLists.{stmts_of}
use Rattle.parse_early_handler.proofs.Made.{plain-made}
use Rattle.parse_early_handler.proofs.Parting.{same-first, then-first}
use Rattle.parse_early_handler.proofs.Statements.{stmts-first}
use Rattle.parse_early_handler.proofs.handler.EarlyErrorHandlerHandler.make_try.Goals as goal

pub returns : goal.returns
returns c = λ i bs hs h q. plain-made i c.plain.result (model.Try (stmts_of bs) (maybe_named i c.args._param) (stmts_of hs)) _ c.plain.ensures refl (λ e k. same-first c.sooner-first.ensures (then-first (same-first c.first_early-tried.ensures (stmts-first i e k c.args.body.items bs h)) (same-first c.first_early-handled.ensures (stmts-first i e k c.args.handler.items hs q))))
