use Rattle.std.proofs.Common.{ap, false, map, refl}
use Rattle.script_grammar.specs.Tree as model
use Rattle.script_grammar.specs.TreeLists.{props_of}
use Rattle.parse_track.specs.Notes.{later_protos}
use Rattle.parse_early_handler.specs.Firsts.{protos_first}
use Rattle.parse_early_handler.proofs.Parting.{same-first}
use Rattle.parse_early_handler.proofs.Properties.{protos-first}
use Rattle.parse_skim_handler.specs.Packed.{prop_errors}
use Rattle.parse_skim_handler.proofs.Made.{expr-made}
use Rattle.parse_skim_handler.proofs.Meanings.{from}
use Rattle.parse_skim_handler.proofs.Standing.{error-stands, then-stands}
use Rattle.parse_skim_handler.proofs.StandingParts.{prop_errors-shown, props-stand}
use Rattle.parse_skim_handler.proofs.handler.SkimmingHandler.make_object.Goals as goal

pub returns : goal.returns
returns c = λ i ps h.
    let later = error-stands i _ (later_protos false (props_of ps)) (λ e k. same-first c.later_protos-later.ensures (same-first (ap (λ l. protos_first false (map prop_errors l)) c.deref.ensures.value) (protos-first i e k false (map prop_errors c.args.props.items) ps (prop_errors-shown i c.args.props.items ps h)))) in
    expr-made i c.in_ok-node.node (model.Object c.args.at (props_of ps) c.args._comma) _ _ c.in_ok-node.ensures (from i (c.of_error.ensures i) (c.in_ok-kept.ensures i)) (then-stands i later (props-stand i c.args.props.items ps h)) (λ e k. (refl, refl))
