use Rattle.std.proofs.Common.{codes}
use Rattle.script_grammar.specs.Tree as model
use Rattle.parse_track.specs.Tells as tell
use Rattle.parse_track_pieces.proofs.PieceEquations.{says-This}
use Rattle.parse_track_pieces.proofs.Saying.{same-says, tell-says}
use Rattle.parse_skim_handler.proofs.Made.{expr-noted}
use Rattle.parse_skim_handler.proofs.Meanings.{begun}
use Rattle.parse_skim_handler.proofs.handler.SkimmingHandler.make_this.Goals as goal

pub returns : goal.returns
returns c = λ i.
    let kept = begun i (c.nothing.ensures i) (c.in_ok-kept.ensures i) in
    expr-noted i _ _ c.in_ok-node.ensures (model.This c.args.at) (same-says kept.says (same-says (says-This i) (tell-says (tell.tells_use (codes ".this"))))) kept.puts (c.in_ok-errors.ensures i)
