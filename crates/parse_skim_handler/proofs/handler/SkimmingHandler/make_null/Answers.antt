use Rattle.std.proofs.Common.{refl}
use Rattle.script_grammar.specs.Tree as model
use Rattle.parse_track_pieces.proofs.Saying.{none-says}
use Rattle.parse_skim_handler.proofs.Made.{quiet-made}
use Rattle.parse_skim_handler.proofs.handler.SkimmingHandler.make_null.Goals as goal

pub returns : goal.returns
returns c = λ i. quiet-made i c.in_ok-node.node (model.Null c.args.at) c.in_ok-errors.errors c.in_ok-node.ensures none-says (λ r. refl) (c.in_ok-errors.ensures i)
