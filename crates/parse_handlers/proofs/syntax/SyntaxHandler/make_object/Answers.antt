use Rattle.std.proofs.Common.{◌++◌}
use Rattle.std.specs.List.{flat_map}
use Rattle.script_grammar.specs.TreeLists.{props_of}
use Rattle.parse_handlers.specs.Inner.{in_props}
use Rattle.parse_handlers.specs.Held.{held}
use Rattle.parse_handlers.proofs.Gathered.{then_put, put_nothing, puts-append, puts-nothing, puts-props, if_puts}
use Rattle.parse_handlers.proofs.syntax.SyntaxHandler.make_object.Goals as goal

pub returns : goal.returns
returns c = λ i ps h. if_puts i c.with.result (c.nothing.result.found.items ++ (flat_map held c.args.props.items)) (then_put put_nothing (in_props (props_of ps))) c.with.ensures (puts-append i c.nothing.result.found.items (flat_map held c.args.props.items) put_nothing (in_props (props_of ps)) (puts-nothing i c.nothing.result.found.items c.nothing.ensures) (puts-props i c.args.props.items ps h))
