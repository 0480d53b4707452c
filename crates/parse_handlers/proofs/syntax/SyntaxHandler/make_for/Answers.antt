use Rattle.std.proofs.Common.{◌++◌}
use Rattle.script_grammar.specs.TreeLists.{maybe_expr_of}
use Rattle.parse_handlers.specs.Inner.{in_maybe_expr, in_init, in_stmt}
use Rattle.parse_handlers.specs.Held.{held, held_maybe, held_init}
use Rattle.parse_handlers.proofs.Gathered.{then_put, put_nothing, puts-append, puts-same, puts-nothing, puts-maybe_expr, puts-init, if_puts}
use Rattle.parse_handlers.proofs.syntax.SyntaxHandler.make_for.Goals as goal

pub returns : goal.returns
returns c = λ i n t u b h g k l. if_puts i c.with-4.result (c.in_ok-node-3.node.found.items ++ c.args.body.found.items) (then_put (then_put (then_put (then_put put_nothing (in_init n)) (in_maybe_expr (maybe_expr_of t))) (in_maybe_expr (maybe_expr_of u))) (in_stmt b)) c.with-4.ensures (puts-append i c.in_ok-node-3.node.found.items c.args.body.found.items (then_put (then_put (then_put put_nothing (in_init n)) (in_maybe_expr (maybe_expr_of t))) (in_maybe_expr (maybe_expr_of u))) (in_stmt b) (puts-same i c.in_ok-node-3.node.found.items (c.in_ok-node-2.node.found.items ++ (held_maybe held c.args.update)) (then_put (then_put (then_put put_nothing (in_init n)) (in_maybe_expr (maybe_expr_of t))) (in_maybe_expr (maybe_expr_of u))) c.in_ok-node-3.ensures (puts-append i c.in_ok-node-2.node.found.items (held_maybe held c.args.update) (then_put (then_put put_nothing (in_init n)) (in_maybe_expr (maybe_expr_of t))) (in_maybe_expr (maybe_expr_of u)) (puts-same i c.in_ok-node-2.node.found.items (c.in_ok-node.node.found.items ++ (held_maybe held c.args.test)) (then_put (then_put put_nothing (in_init n)) (in_maybe_expr (maybe_expr_of t))) c.in_ok-node-2.ensures (puts-append i c.in_ok-node.node.found.items (held_maybe held c.args.test) (then_put put_nothing (in_init n)) (in_maybe_expr (maybe_expr_of t)) (puts-same i c.in_ok-node.node.found.items (c.nothing.result.found.items ++ (held_init c.args.init)) (then_put put_nothing (in_init n)) c.in_ok-node.ensures (puts-append i c.nothing.result.found.items (held_init c.args.init) put_nothing (in_init n) (puts-nothing i c.nothing.result.found.items c.nothing.ensures) (puts-init i c.args.init n h))) (puts-maybe_expr i c.args.test t g))) (puts-maybe_expr i c.args.update u k))) l)
