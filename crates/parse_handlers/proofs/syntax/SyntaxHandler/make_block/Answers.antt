use Rattle.std.proofs.Common.{◌++◌}
use Rattle.std.specs.List.{flat_map}
use Rattle.script_grammar.specs.TreeLists.{stmts_of}
use Rattle.parse_handlers.specs.Inner.{in_stmts}
use Rattle.parse_handlers.specs.Held.{held}
use Rattle.parse_handlers.proofs.Gathered.{then_put, put_nothing, puts-append, puts-nothing, puts-stmts, if_puts}
use Rattle.parse_handlers.proofs.syntax.SyntaxHandler.make_block.Goals as goal

pub returns : goal.returns
returns c = λ i ss h. if_puts i c.with.result (c.nothing.result.found.items ++ (flat_map held c.args.items.items)) (then_put put_nothing (in_stmts (stmts_of ss))) c.with.ensures (puts-append i c.nothing.result.found.items (flat_map held c.args.items.items) put_nothing (in_stmts (stmts_of ss)) (puts-nothing i c.nothing.result.found.items c.nothing.ensures) (puts-stmts i c.args.items.items ss h))
