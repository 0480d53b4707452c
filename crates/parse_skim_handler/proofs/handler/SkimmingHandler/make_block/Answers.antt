use Rattle.std.proofs.Common.{false, refl}
use Rattle.script_grammar.specs.Tree as model
use Rattle.script_grammar.specs.TreeLists.{stmts_of}
use Rattle.parse_skim_handler.proofs.Made.{stmt-made}
use Rattle.parse_skim_handler.proofs.Meanings.{begun}
use Rattle.parse_skim_handler.proofs.StandingParts.{block-stands}
use Rattle.parse_skim_handler.proofs.handler.SkimmingHandler.make_block.Goals as goal

pub returns : goal.returns
returns c = λ i ss h. stmt-made i c.in_ok-node.node (model.Block (stmts_of ss)) false c.in_ok-node.ensures refl refl (begun i (c.nothing.ensures i) (c.in_ok-kept.ensures i)) (λ top. block-stands i c.args.items.items ss h)
