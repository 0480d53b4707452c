use Rattle.std.proofs.Common.{◌++◌}
use Rattle.parse_handlers.specs.Inner.{in_expr}
use Rattle.parse_handlers.proofs.Gathered.{then_put, puts-append, puts-same, if_puts}
use Rattle.parse_handlers.proofs.syntax.SyntaxHandler.make_cond.Goals as goal

pub returns : goal.returns
returns c = λ i t u v h g k. if_puts i c.with-2.result (c.in_ok-node.node.found.items ++ c.args.no.found.items) (then_put (then_put (in_expr t) (in_expr u)) (in_expr v)) c.with-2.ensures (puts-append i c.in_ok-node.node.found.items c.args.no.found.items (then_put (in_expr t) (in_expr u)) (in_expr v) (puts-same i c.in_ok-node.node.found.items (c.args.test.found.items ++ c.args.yes.found.items) (then_put (in_expr t) (in_expr u)) c.in_ok-node.ensures (puts-append i c.args.test.found.items c.args.yes.found.items (in_expr t) (in_expr u) h g)) k)
