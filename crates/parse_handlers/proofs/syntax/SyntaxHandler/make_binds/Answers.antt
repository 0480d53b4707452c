use Rattle.std.proofs.Common.{◌++◌}
use Rattle.std.specs.List.{flat_map}
use Rattle.script_grammar.specs.TreeLists.{binds_of}
use Rattle.parse_handlers.specs.Inner.{in_binds}
use Rattle.parse_handlers.specs.Held.{held_bind}
use Rattle.parse_handlers.proofs.Gathered.{then_put, put_nothing, puts-append, puts-nothing, puts-binds, if_puts}
use Rattle.parse_handlers.proofs.syntax.SyntaxHandler.make_binds.Goals as goal

pub returns : goal.returns
returns c = λ i bs h. if_puts i c.with.result (c.nothing.result.found.items ++ (flat_map held_bind c.args.binds.items)) (then_put put_nothing (in_binds (binds_of bs))) c.with.ensures (puts-append i c.nothing.result.found.items (flat_map held_bind c.args.binds.items) put_nothing (in_binds (binds_of bs)) (puts-nothing i c.nothing.result.found.items c.nothing.ensures) (puts-binds i c.args.binds.items bs h))
