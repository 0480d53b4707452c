use Rattle.std.proofs.Common.{[], ap, ◌∙◌, ◌∷◌}
use Rattle.parse_track_pieces.specs.Pieces.{pieces_say}
use Rattle.parse_skim_handler.specs.Telling.{function_says}
use Rattle.parse_skim_handler.proofs.told.function_parts.Goals as goal

pub returns : goal.returns
returns c =
    let same = c.into_inner-pieces.ensures in
    record {
      says = λ i rest. ap (λ l. pieces_say i l rest) c.in_ok-pieces.ensures ∙ (c.in_ok-region.ensures i rest ∙ ap (λ f. function_says i f rest) same);
      found = c.in_ok-found.ensures ∙ ap (λ f. f.found ∷ []) same;
    }
