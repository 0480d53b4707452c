use Rattle.std.proofs.Common.{ap, ◌∙◌}
use Rattle.parse_track_pieces.specs.Pieces.{pieces_say}
use Rattle.parse_track_pieces.proofs.Appending.{appended_as}
use Rattle.parse_skim_handler.proofs.Telling.{pieces-then}
use Rattle.parse_skim_handler.proofs.told.push_all.Goals as goal

pub returns-in_ok-append-clause-pieces : goal.returns-in_ok-append-clause-pieces
returns-in_ok-append-clause-pieces c = λ i rest.
    ap (λ l. pieces_say i l rest) c.in_ok-append.ensures.items ∙ pieces-then i c.args.parts.now.pieces.items c.args.pieces.items rest

pub returns-in_ok-push-clause-pieces : goal.returns-in_ok-push-clause-pieces
returns-in_ok-push-clause-pieces c = λ i rest. appended_as i c.args.parts.now.pieces.items _ c.push.new.parts.pieces.items (pieces_say i c.args.pieces.items) c.in_ok-push.ensures.pieces (c.in_ok-many.ensures i) rest
