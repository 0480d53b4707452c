use Rattle.std.proofs.Common.{List, ap, map, sym, ◌∙◌}
use Rattle.parse_track.specs.EarlyErrors.{sooner}
use Rattle.parse_early_handler.specs.Firsts.{protos_first}
use Rattle.parse_early_handler.specs.declared.nodes.PropErrors.{PropErrors}
use Rattle.parse_early_handler.proofs.Sooner.{sooner_none}
use Rattle.parse_early_handler.proofs.Turns.{protos_on}
use Rattle.parse_skim_handler.specs.Packed.{prop_errors}
use Rattle.parse_skim_handler.proofs.Images.{ended_image, next_image}
use Rattle.parse_skim_handler.proofs.forms.later_protos.Goals as goal

pub loop-prop-preserved : goal.loop-prop-preserved
loop-prop-preserved c =
    let xs = c.args.props.now in
    let k = c.loop-prop.prop-index in
    let x = c.prop-item.result in
    protos_on (map prop_errors xs) k (prop_errors x) c.loop-prop.seen c.is_seen-seen.result c.loop-prop.first c.proto_error-error.result _ _ (next_image prop_errors xs k x c.loop-prop-test.true c.prop-item.is) c.proto_error-error.ensures c.sooner-first.ensures c.is_seen-seen.ensures c.loop-prop.invariant

pub returns : goal.returns
returns c =
    sym (sooner_none c.loop-prop.first)
    ∙ (ap (λ (xs : List PropErrors). sooner c.loop-prop.first (protos_first c.loop-prop.seen xs)) (sym (ended_image prop_errors c.args.props.now c.loop-prop.prop-index c.loop-prop-test.false)) ∙ c.loop-prop.invariant)
