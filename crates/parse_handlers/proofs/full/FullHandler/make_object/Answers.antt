use Rattle.std.proofs.Common.{◌∙◌, ap}
use Rattle.script_grammar.specs.Tree as model
use Rattle.script_grammar.specs.TreeLists.{props_of}
use Rattle.script_grammar.specs.TreeOf.{prop_of}
use Rattle.parse_handlers.specs.Kept.{IsProp}
use Rattle.parse_handlers.proofs.KeptLists.{map-shown}
use Rattle.parse_handlers.proofs.full.FullHandler.make_object.Goals as goal

pub returns : goal.returns
returns c = λ i ps h. c.object.ensures i ∙ ap (λ xs. model.Object c.args.at (props_of xs) c.args.comma) (map-shown (IsProp i) (prop_of i) (λ p x e. e) c.args.props.items ps h)
