use Rattle.std.proofs.Common.{[], ap, not, ◌++◌, ◌∙◌, ◌∷◌}
use Rattle.parse_track.specs.EarlyErrors.{sooner}
use Rattle.parse_track.specs.Tells as tell
use Rattle.parse_handlers.specs.FoundOf.{before, founds_before}
use Rattle.parse_handlers.specs.Inner.{no_inner}
use Rattle.parse_early_handler.specs.Firsts.{are_more}
use Rattle.parse_track_pieces.specs.Pieces.{pieces_say}
use Rattle.parse_track_pieces.proofs.Appending.{region-same}
use Rattle.parse_skim_handler.specs.Kept.{inside_means}
use Rattle.parse_skim_handler.specs.Telling.{told_found, told_says}
use Rattle.parse_skim_handler.proofs.StandingFunctions.{found-puts}
use Rattle.parse_skim_handler.proofs.Telling.{founds-then}
use Rattle.parse_skim_handler.proofs.functions.skim_function.Goals as goal

pub returns : goal.returns
returns c = λ i.
    let func = c.args.func in
    let old = c.args.kept.told in
    let inside = c.in_ok-inside.ensures i in
    let parts = c.in_ok-pieces.ensures in
    let function = c.in_ok-function.ensures in
    let told = c.in_ok-told.ensures in
    let more = c.are_more-more.ensures ∙ ap are_more c.deref.ensures.value in
    let kind = tell.function_region func.form in
    record {
      says = λ rest.
          told.says i rest
          ∙ ap (told_says i old) (function.says i rest
          ∙ region-same kind func.start (pieces_say i c.in_ok-pieces.field-0.pieces.items) (inside_means i func.start func.params.items func.body).says (λ r. parts.says i r ∙ inside.says r) rest);
      puts = λ r.
          ap (λ l. founds_before i l r) (told.found ∙ ap (λ f. told_found old ++ (f ∷ [])) function.found)
          ∙ (founds-then i (told_found old) (c.found-found.result ∷ []) r
          ∙ ap (founds_before i (told_found old)) (ap (λ x. before (x ∷ []) r) (c.found-found.ensures i)
          ∙ found-puts func.start func.end _ _ _ _ _ _ _ _ _ _ r c.kind_of-kind.ensures (c.atom_of.ensures i) c.is_braced-braced.ensures (ap not more) (ap (λ l. founds_before i l no_inner) parts.found ∙ inside.puts no_inner)));
      first = c.sooner-first.ensures ∙ ap (sooner c.args.kept.first) inside.first;
    }
