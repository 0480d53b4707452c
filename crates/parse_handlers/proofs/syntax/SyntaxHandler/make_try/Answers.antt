use Rattle.std.proofs.Common.{◌++◌}
use Rattle.std.specs.List.{flat_map}
use Rattle.script_grammar.specs.TreeLists.{stmts_of}
use Rattle.parse_handlers.specs.Inner.{in_stmts}
use Rattle.parse_handlers.specs.Held.{held}
use Rattle.parse_handlers.proofs.Gathered.{then_put, put_nothing, puts-append, puts-same, puts-nothing, puts-stmts, if_puts}
use Rattle.parse_handlers.proofs.syntax.SyntaxHandler.make_try.Goals as goal

pub returns : goal.returns
returns c = λ i bs hs h g. if_puts i c.with-2.result (c.in_ok-node.node.found.items ++ (flat_map held c.args.handler.items)) (then_put (then_put put_nothing (in_stmts (stmts_of bs))) (in_stmts (stmts_of hs))) c.with-2.ensures (puts-append i c.in_ok-node.node.found.items (flat_map held c.args.handler.items) (then_put put_nothing (in_stmts (stmts_of bs))) (in_stmts (stmts_of hs)) (puts-same i c.in_ok-node.node.found.items (c.nothing.result.found.items ++ (flat_map held c.args.body.items)) (then_put put_nothing (in_stmts (stmts_of bs))) c.in_ok-node.ensures (puts-append i c.nothing.result.found.items (flat_map held c.args.body.items) put_nothing (in_stmts (stmts_of bs)) (puts-nothing i c.nothing.result.found.items c.nothing.ensures) (puts-stmts i c.args.body.items bs h))) (puts-stmts i c.args.handler.items hs g))
