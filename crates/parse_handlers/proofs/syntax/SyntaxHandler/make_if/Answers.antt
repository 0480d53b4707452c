use Rattle.std.proofs.Common.{◌++◌}
use Rattle.script_grammar.specs.TreeLists.{maybe_stmt_of}
use Rattle.parse_handlers.specs.Inner.{in_expr, in_stmt, in_maybe_stmt}
use Rattle.parse_handlers.specs.Held.{held, held_maybe}
use Rattle.parse_handlers.proofs.Gathered.{then_put, puts-append, puts-same, puts-maybe_stmt, if_puts}
use Rattle.parse_handlers.proofs.syntax.SyntaxHandler.make_if.Goals as goal

pub returns : goal.returns
returns c = λ i t u v h g k. if_puts i c.with-2.result (c.in_ok-node.node.found.items ++ (held_maybe held c.args.no)) (then_put (then_put (in_expr t) (in_stmt u)) (in_maybe_stmt (maybe_stmt_of v))) c.with-2.ensures (puts-append i c.in_ok-node.node.found.items (held_maybe held c.args.no) (then_put (in_expr t) (in_stmt u)) (in_maybe_stmt (maybe_stmt_of v)) (puts-same i c.in_ok-node.node.found.items (c.args.test.found.items ++ c.args.yes.found.items) (then_put (in_expr t) (in_stmt u)) c.in_ok-node.ensures (puts-append i c.args.test.found.items c.args.yes.found.items (in_expr t) (in_stmt u) h g)) (puts-maybe_stmt i c.args.no v k))
