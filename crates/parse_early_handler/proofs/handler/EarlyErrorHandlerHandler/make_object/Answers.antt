use Rattle.std.proofs.Common.{ap, false, refl}
use Rattle.script_grammar.specs.Tree as model
use Rattle.script_grammar.specs.TreeLists.{props_of}
use Rattle.parse_early_handler.specs.Firsts.{protos_first}
use Rattle.parse_early_handler.proofs.Made.{other-made}
use Rattle.parse_early_handler.proofs.Parting.{same-first, then-first}
use Rattle.parse_early_handler.proofs.Properties.{props-first, protos-first}
use Rattle.parse_early_handler.proofs.handler.EarlyErrorHandlerHandler.make_object.Goals as goal

pub returns : goal.returns
returns c = λ i ps h. other-made i c.other.result (model.Object c.args.at (props_of ps) c.args._comma) _ _ c.other.ensures refl (λ e k. (same-first c.sooner-first.ensures (then-first (same-first c.later_protos-later.ensures (same-first (ap (protos_first false) c.deref.ensures.value) (protos-first i e k false c.args.props.items ps h))) (same-first c.first_early.ensures (props-first i e k c.args.props.items ps h))), refl))
