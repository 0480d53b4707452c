use Rattle.std.proofs.Common.{ap, ◌++◌, ◌∙◌}
use Rattle.parse_track_pieces.specs.Pieces.{pieces_say}
use Rattle.parse_skim_handler.proofs.told.join.Goals as goal

pub returns : goal.returns
returns c =
    let some = c.args.parts.value in
    let others = c.into_inner-pieces.result in
    let same = c.into_inner-pieces.ensures in
    record {
      says = λ i rest.
          ap (λ l. pieces_say i l rest) (c.in_ok-find_all.ensures.pieces ∙ ap (λ p. p.pieces.items) c.deref_mut-2.ensures.value)
          ∙ (c.in_ok-push_all.ensures.pieces i rest
          ∙ (ap (λ p. pieces_say i p.pieces.items (pieces_say i others.pieces.items rest)) c.deref_mut.ensures.value
          ∙ ap (λ p. pieces_say i some.pieces.items (pieces_say i p.pieces.items rest)) same));
      found =
          c.in_ok-find_all.ensures.found ∙ (ap (λ p. p.found.items ++ others.found.items) c.deref_mut-2.ensures.value
          ∙ (ap (λ l. l ++ others.found.items) (c.in_ok-push_all.ensures.found ∙ ap (λ p. p.found.items) c.deref_mut.ensures.value)
          ∙ ap (λ p. some.found.items ++ p.found.items) same));
    }
