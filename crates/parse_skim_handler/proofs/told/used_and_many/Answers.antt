use Rattle.std.proofs.Common.{[], ap, ◌++◌, ◌∙◌, ◌∷◌}
use Rattle.parse_track_pieces.specs.Pieces.{piece_says, pieces_say}
use Rattle.parse_track_pieces.specs.declared.piece.Piece.TheVariants as piece
use Rattle.parse_track_pieces.proofs.PieceEquations.{says-Used}
use Rattle.parse_skim_handler.proofs.told.used_and_many.Goals as goal

pub returns : goal.returns
returns c =
    let used = piece.Used c.args.atom in
    let together = c.in_ok-together.together in
    let items =
    c.in_ok-push-2.ensures.items
    ∙ ap (λ l. l ++ (together ∷ [])) (c.in_ok-push.ensures.items ∙ ap (λ l. l ++ (used ∷ [])) c.in_ok-pieces.ensures.items) in
    record {
      says = λ i rest.
          ap (λ p. pieces_say i p.pieces.items rest) c.in_ok-boxed.ensures.ok
          ∙ (ap (λ l. pieces_say i l rest) items
          ∙ (ap (piece_says i used) (c.in_ok-together.ensures i rest) ∙ says-Used i c.args.atom (pieces_say i c.args.others.pieces.items rest)));
      found = ap (λ p. p.found.items) c.in_ok-boxed.ensures.ok;
    }
