use Rattle.std.proofs.Common.{false, refl}
use Rattle.script_grammar.specs.Interpretation.{maybe_named}
use Rattle.script_grammar.specs.Tree as model
use Rattle.script_grammar.specs.TreeLists.{stmts_of}
use Rattle.parse_skim_handler.proofs.Made.{stmt-made}
use Rattle.parse_skim_handler.proofs.Meanings.{adds-then, begun}
use Rattle.parse_skim_handler.proofs.StandingParts.{try-stands}
use Rattle.parse_skim_handler.proofs.handler.SkimmingHandler.make_try.Goals as goal

pub returns : goal.returns
returns c = λ i bs hs h q.
    stmt-made i c.in_ok-node.node (model.Try (stmts_of bs) (maybe_named i c.args.param) (stmts_of hs)) false c.in_ok-node.ensures refl refl (begun i (c.nothing.ensures i) (adds-then i (c.in_ok-tried.ensures i) (c.in_ok-kept.ensures i)))
    (λ top. try-stands i top c.args.param c.args.body.items c.args.handler.items bs hs h q)
