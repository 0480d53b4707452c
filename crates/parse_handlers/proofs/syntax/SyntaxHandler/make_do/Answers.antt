use Rattle.std.proofs.Common.{◌++◌}
use Rattle.parse_handlers.specs.Inner.{in_expr, in_stmt}
use Rattle.parse_handlers.proofs.Gathered.{then_put, puts-append, if_puts}
use Rattle.parse_handlers.proofs.syntax.SyntaxHandler.make_do.Goals as goal

pub returns : goal.returns
returns c = λ i b t h g. if_puts i c.with.result (c.args.body.found.items ++ c.args.test.found.items) (then_put (in_stmt b) (in_expr t)) c.with.ensures (puts-append i c.args.body.found.items c.args.test.found.items (in_stmt b) (in_expr t) h g)
