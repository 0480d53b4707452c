use Rattle.std.proofs.Common.{List, None, drop_of_length-le, get_or, sym, ap, ◌∙◌}
use Rattle.parse_track.specs.EarlyErrors.{sooner}
use Rattle.parse_early_handler.specs.declared.nodes.PropErrors.{PropErrors}
use Rattle.parse_early_handler.specs.Firsts.{protos_first}
use Rattle.parse_early_handler.proofs.Sooner.{sooner_none}
use Rattle.parse_early_handler.proofs.Turns.{next_at, protos_on}
use Rattle.parse_early_handler.proofs.keys.later_protos.Goals as goal

pub loop-prop-preserved : goal.loop-prop-preserved
loop-prop-preserved c =
    let none : PropErrors = record { first = None; proto = None } in
    let xs = c.args.props.now in
    let k = c.loop-prop.prop-index in
    protos_on xs k (get_or xs k none) c.loop-prop.seen c.is_seen-seen.result c.loop-prop.first c.proto_error-error.result _ _ (next_at xs k none c.loop-prop-test.true) c.proto_error-error.ensures c.sooner-first.ensures c.is_seen-seen.ensures c.loop-prop.invariant

pub returns : goal.returns
returns c =
    sym (sooner_none c.loop-prop.first)
    ∙ (ap (λ (xs : List PropErrors). sooner c.loop-prop.first (protos_first c.loop-prop.seen xs)) (sym (drop_of_length-le c.args.props.now c.loop-prop-test.false)) ∙ c.loop-prop.invariant)
