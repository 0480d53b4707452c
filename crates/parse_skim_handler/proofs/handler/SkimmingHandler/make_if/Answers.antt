use Rattle.std.proofs.Common.{false, refl}
use Rattle.script_grammar.specs.Tree as model
use Rattle.script_grammar.specs.TreeLists.{maybe_stmt_of}
use Rattle.parse_skim_handler.proofs.Made.{stmt-made}
use Rattle.parse_skim_handler.proofs.Meanings.{adds-then, from}
use Rattle.parse_skim_handler.proofs.Standing.{then-stands}
use Rattle.parse_skim_handler.proofs.StandingParts.{maybe_stmt-stands}
use Rattle.parse_skim_handler.proofs.handler.SkimmingHandler.make_if.Goals as goal

pub returns : goal.returns
returns c = λ i t u v h q r. stmt-made i c.in_ok-node.node (model.If t u (maybe_stmt_of v)) false c.in_ok-node.ensures refl refl (from i (c.of_expr.ensures i) (adds-then i (c.in_ok-chosen.ensures i) (c.in_ok-kept.ensures i))) (λ top. then-stands i h.stands (then-stands i (q.stands false) (maybe_stmt-stands i c.args.no v r)))
