use Rattle.std.proofs.Common.{◌++◌}
use Rattle.parse_handlers.specs.Inner.{in_expr, in_each, in_stmt}
use Rattle.parse_handlers.specs.Held.{held_each}
use Rattle.parse_handlers.proofs.Gathered.{then_put, put_nothing, puts-append, puts-same, puts-nothing, puts-each, if_puts}
use Rattle.parse_handlers.proofs.syntax.SyntaxHandler.make_forin.Goals as goal

pub returns : goal.returns
returns c = λ i n t b h g k. if_puts i c.with-3.result (c.in_ok-node-2.node.found.items ++ c.args.body.found.items) (then_put (then_put (then_put put_nothing (in_each n)) (in_expr t)) (in_stmt b)) c.with-3.ensures (puts-append i c.in_ok-node-2.node.found.items c.args.body.found.items (then_put (then_put put_nothing (in_each n)) (in_expr t)) (in_stmt b) (puts-same i c.in_ok-node-2.node.found.items (c.in_ok-node.node.found.items ++ c.args.over.found.items) (then_put (then_put put_nothing (in_each n)) (in_expr t)) c.in_ok-node-2.ensures (puts-append i c.in_ok-node.node.found.items c.args.over.found.items (then_put put_nothing (in_each n)) (in_expr t) (puts-same i c.in_ok-node.node.found.items (c.nothing.result.found.items ++ (held_each c.args.each)) (then_put put_nothing (in_each n)) c.in_ok-node.ensures (puts-append i c.nothing.result.found.items (held_each c.args.each) put_nothing (in_each n) (puts-nothing i c.nothing.result.found.items c.nothing.ensures) (puts-each i c.args.each n h))) g)) k)
