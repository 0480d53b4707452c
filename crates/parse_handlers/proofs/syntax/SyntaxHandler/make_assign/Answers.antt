use Rattle.std.proofs.Common.{◌++◌}
use Rattle.parse_handlers.specs.Inner.{in_expr}
use Rattle.parse_handlers.proofs.Gathered.{then_put, puts-append, if_puts}
use Rattle.parse_handlers.proofs.syntax.SyntaxHandler.make_assign.Goals as goal

pub returns : goal.returns
returns c = λ i t v h g. if_puts i c.with.result (c.args.target.found.items ++ c.args.value.found.items) (then_put (in_expr t) (in_expr v)) c.with.ensures (puts-append i c.args.target.found.items c.args.value.found.items (in_expr t) (in_expr v) h g)
