use Rattle.std.proofs.Common.{◌++◌}
use Rattle.std.specs.List.{flat_map}
use Rattle.script_grammar.specs.TreeLists.{parts_of}
use Rattle.parse_handlers.specs.Inner.{in_parts}
use Rattle.parse_handlers.specs.Held.{held_part}
use Rattle.parse_handlers.proofs.Gathered.{then_put, put_nothing, puts-append, puts-nothing, puts-parts, if_puts}
use Rattle.parse_handlers.proofs.syntax.SyntaxHandler.make_template.Goals as goal

pub returns : goal.returns
returns c = λ i ps h. if_puts i c.with.result (c.nothing.result.found.items ++ (flat_map held_part c.args.parts.items)) (then_put put_nothing (in_parts (parts_of ps))) c.with.ensures (puts-append i c.nothing.result.found.items (flat_map held_part c.args.parts.items) put_nothing (in_parts (parts_of ps)) (puts-nothing i c.nothing.result.found.items c.nothing.ensures) (puts-parts i c.args.parts.items ps h))
