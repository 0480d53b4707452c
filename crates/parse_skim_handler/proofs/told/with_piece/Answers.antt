use Rattle.std.proofs.Common.{[], ap, refl, sym, ◌++◌, ◌∙◌, ◌∷◌}
use Rattle.std.proofs.lemmas.List.{append-nil}
use Rattle.parse_track_pieces.specs.Pieces.{piece_says}
use Rattle.parse_track_pieces.proofs.Appending.{appended}
use Rattle.parse_skim_handler.proofs.Telling.{tells-more}
use Rattle.parse_skim_handler.proofs.told.with_piece.Goals as goal

pub returns : goal.returns
returns c =
    let opened = c.in_ok-parts.parts.value in
    let pieces = c.in_ok-push.ensures.pieces ∙ ap (λ p. p.pieces.items ++ (c.args.piece ∷ [])) c.deref_mut.ensures.value in
    let found = c.in_ok-push.ensures.found ∙ ap (λ p. p.found.items) c.deref_mut.ensures.value in
    tells-more c.args.told _ opened c.push.new.parts (λ i. piece_says i c.args.piece) [] c.in_ok-parts.ensures (record { says = λ i rest. refl; found = refl })
    (λ i rest. appended i opened.pieces.items c.args.piece c.push.new.parts.pieces.items pieces rest) (found ∙ sym (append-nil opened.found.items))
