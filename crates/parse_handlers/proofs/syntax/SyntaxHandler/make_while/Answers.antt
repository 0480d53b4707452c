use Rattle.std.proofs.Common.{◌++◌}
use Rattle.parse_handlers.specs.Inner.{in_expr, in_stmt}
use Rattle.parse_handlers.proofs.Gathered.{then_put, puts-append, if_puts}
use Rattle.parse_handlers.proofs.syntax.SyntaxHandler.make_while.Goals as goal

pub returns : goal.returns
returns c = λ i t b h g. if_puts i c.with.result (c.args.test.found.items ++ c.args.body.found.items) (then_put (in_expr t) (in_stmt b)) c.with.ensures (puts-append i c.args.test.found.items c.args.body.found.items (in_expr t) (in_stmt b) h g)
