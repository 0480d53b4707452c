use Rattle.std.proofs.Common.{◌++◌}
use Rattle.std.specs.List.{flat_map}
use Rattle.script_grammar.specs.TreeLists.{items_of}
use Rattle.parse_handlers.specs.Inner.{in_items}
use Rattle.parse_handlers.specs.Held.{held, held_maybe}
use Rattle.parse_handlers.proofs.Gathered.{then_put, put_nothing, puts-append, puts-nothing, puts-items, if_puts}
use Rattle.parse_handlers.proofs.syntax.SyntaxHandler.make_array.Goals as goal

pub returns : goal.returns
returns c = λ i ts h. if_puts i c.with.result (c.nothing.result.found.items ++ (flat_map (held_maybe held) c.args.items.items)) (then_put put_nothing (in_items (items_of ts))) c.with.ensures (puts-append i c.nothing.result.found.items (flat_map (held_maybe held) c.args.items.items) put_nothing (in_items (items_of ts)) (puts-nothing i c.nothing.result.found.items c.nothing.ensures) (puts-items i c.args.items.items ts h))
