use Rattle.std.proofs.Common.{[], ap, refl, ◌++◌, ◌∙◌, ◌∷◌}
use Rattle.parse_track_pieces.proofs.Appending.{appended_as}
use Rattle.parse_skim_handler.specs.Telling.{function_says}
use Rattle.parse_skim_handler.proofs.Telling.{tells-more}
use Rattle.parse_skim_handler.proofs.told.function_after.Goals as goal

pub returns : goal.returns
returns c =
    let opened = c.in_ok-parts.parts.value in
    let one = c.args.function.found ∷ [] in
    let pieces =
    c.in_ok-find.ensures.pieces ∙ (ap (λ p. p.pieces.items) c.deref_mut-2.ensures.value
    ∙ (c.in_ok-push.ensures.pieces ∙ ap (λ p. p.pieces.items ++ (c.in_ok-piece.piece ∷ [])) c.deref_mut.ensures.value)) in
    let found =
    c.in_ok-find.ensures.found ∙ (ap (λ p. p.found.items ++ one) c.deref_mut-2.ensures.value
    ∙ ap (λ l. l ++ one) (c.in_ok-push.ensures.found ∙ ap (λ p. p.found.items) c.deref_mut.ensures.value)) in
    tells-more c.args.told _ opened c.find.new.parts (λ i. function_says i c.args.function) one c.in_ok-parts.ensures (record { says = λ i rest. refl; found = refl })
    (λ i rest. appended_as i opened.pieces.items _ c.find.new.parts.pieces.items (function_says i c.args.function) pieces (c.in_ok-piece.ensures i) rest) found
