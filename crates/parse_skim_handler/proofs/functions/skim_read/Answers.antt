use Rattle.std.proofs.Common.{ap, refl, ◌∙◌}
use Rattle.parse_track.specs.EarlyErrors.{sooner}
use Rattle.parse_early_handler.proofs.Sooner.{sooner_none}
use Rattle.parse_skim_handler.proofs.Meanings.{adds-same, adds-then, if_ok}
use Rattle.parse_skim_handler.proofs.functions.skim_read.Goals as goal

pub returns : goal.returns
returns c =
    if_ok c.with_said.result c.with_said.ensures (λ made h i.
    let body = c.args.body in
    adds-same i (c.in_ok-piece.ensures i) (λ r. refl)
    (sooner_none _ ∙ (c.sooner-error.ensures ∙ ap (λ o. sooner o body.errors.first) c.strict_error-strict.ensures)) (adds-then i (c.with_error-noted.ensures i) (h i)))
