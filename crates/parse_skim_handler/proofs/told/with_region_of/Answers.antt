use Rattle.std.proofs.Common.{[], ap, refl, ◌++◌, ◌∙◌, ◌∷◌}
use Rattle.script_grammar.specs.Interpretation.{Interpretation}
use Rattle.parse_track.specs.Log.{region_of}
use Rattle.track_log_laws.specs.Spelled.{region_text}
use Rattle.parse_track_pieces.specs.Pieces.{Rest, pieces_say, says_region}
use Rattle.parse_track_pieces.specs.declared.piece.Piece.TheVariants as piece
use Rattle.parse_track_pieces.proofs.Appending.{appended_as}
use Rattle.parse_skim_handler.proofs.Telling.{inside-says, tells-more}
use Rattle.parse_skim_handler.proofs.told.with_region_of.Goals as goal

pub returns : goal.returns
returns c =
    let opened = c.in_ok-parts.parts.value in
    let inside = c.args.inside in
    let says : Interpretation → Rest → Rest = λ i. says_region (region_text i (region_of c.args.kind)) 0 (pieces_say i inside.pieces.items) in
    let region = piece.Inside c.in_ok-region.region in
    let pieces =
    c.in_ok-find_all.ensures.pieces ∙ (ap (λ p. p.pieces.items) c.deref_mut-2.ensures.value
    ∙ (c.in_ok-push.ensures.pieces ∙ ap (λ p. p.pieces.items ++ (region ∷ [])) c.deref_mut.ensures.value)) in
    let found =
    c.in_ok-find_all.ensures.found ∙ (ap (λ p. p.found.items ++ inside.found.items) c.deref_mut-2.ensures.value
    ∙ ap (λ l. l ++ inside.found.items) (c.in_ok-push.ensures.found ∙ ap (λ p. p.found.items) c.deref_mut.ensures.value)) in
    tells-more c.args.told _ opened c.find_all.new.parts says inside.found.items c.in_ok-parts.ensures (record { says = λ i rest. refl; found = refl })
    (λ i rest. appended_as i opened.pieces.items _ c.find_all.new.parts.pieces.items (says i) pieces
    (inside-says i c.in_ok-region.region (record { kind = c.args.kind; at = 0 }) inside.pieces (pieces_say i inside.pieces.items) c.in_ok-region.ensures.ok (λ r. refl)) rest) found
