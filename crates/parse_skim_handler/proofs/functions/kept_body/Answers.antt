use Rattle.std.proofs.Common.{[], ap, sym, ◌++◌, ◌∙◌, ◌∷◌}
use Rattle.parse_track_pieces.specs.Pieces.{Read, piece_says, pieces_say, says_read}
use Rattle.parse_track_pieces.proofs.PieceEquations.{says-Kept, says-Many}
use Rattle.parse_skim_handler.proofs.functions.kept_body.Goals as goal

pub returns-in-Many : goal.returns-in-Many
returns-in-Many c = λ i rest.
    let pieces = c.in-Many.pieces in
    says-Kept i pieces rest
    ∙ ap (λ r. record { told = r.told; bodies = Read ∷ r.bodies }) (sym (says-Many i pieces rest) ∙ ap (λ t. piece_says i t rest) (sym c.in-Many.is))

pub returns-in_ok-kept-in_default : goal.returns-in_ok-kept-in_default
returns-in_ok-kept-in_default c = λ i rest.
    let items = c.in_ok-push-in_default.ensures.items ∙ ap (λ l. l ++ (c.args.told ∷ [])) c.in_ok-pieces-in_default.ensures.items in
    c.in_ok-kept-in_default.ensures i rest ∙ ap (λ l. says_read (pieces_say i l) rest) items
