use Rattle.std.proofs.Common.{refl}
use Rattle.script_grammar.specs.Interpretation.{named, text_of}
use Rattle.script_grammar.specs.Tree as model
use Rattle.parse_track.specs.Tells as tell
use Rattle.parse_track_pieces.proofs.Saying.{tell-says}
use Rattle.parse_skim_handler.proofs.Made.{expr-noted}
use Rattle.parse_skim_handler.proofs.handler.SkimmingHandler.make_name.Goals as goal

pub returns : goal.returns
returns c = λ i. expr-noted i _ _ c.in_ok-node.ensures (model.Name (named i c.args.name)) (tell-says (tell.tells_use (text_of i c.args.name.atom))) (λ r. refl) (c.in_ok-errors.ensures i)
