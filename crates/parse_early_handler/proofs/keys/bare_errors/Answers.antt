use Rattle.std.proofs.Common.{map, drop_of_length-le, sym, ap, ◌∙◌}
use Rattle.parse_track.specs.EarlyErrors.{sooner}
use Rattle.parse_early_handler.specs.Firsts.{bare_error, first_of}
use Rattle.parse_early_handler.proofs.Sooner.{sooner_none}
use Rattle.parse_early_handler.proofs.Turns.{first_on, next_of}
use Rattle.parse_early_handler.proofs.keys.bare_errors.Goals as goal

pub loop-bind-preserved : goal.loop-bind-preserved
loop-bind-preserved g c =
    let xs = c.args.binds.now in
    let k = c.loop-bind.bind-index in
    first_on bare_error xs k c.bind-item.result c.loop-bind.first c.bare_error-error.result _ _ (next_of xs k c.bind-item.result c.loop-bind-test.true c.bind-item.is) c.bare_error-error.ensures c.sooner-first.ensures c.loop-bind.invariant

pub returns : goal.returns
returns g c =
    sym (sooner_none c.loop-bind.first)
    ∙ (ap (λ xs. sooner c.loop-bind.first (first_of (map bare_error xs))) (sym (drop_of_length-le c.args.binds.now c.loop-bind-test.false)) ∙ c.loop-bind.invariant)
