use Rattle.std.proofs.Common.{◌++◌, false}
use Rattle.parse_handlers.specs.Inner.{in_key, in_function}
use Rattle.parse_handlers.specs.Held.{held_key}
use Rattle.parse_handlers.proofs.Gathered.{then_put, put_nothing, puts-append, puts-same, puts-nothing, puts-key, if_puts}
use Rattle.parse_handlers.proofs.syntax.SyntaxHandler.make_method.Goals as goal

pub returns : goal.returns
returns c = λ i k f h g. if_puts i c.with-2.result (c.in_ok-node.node.found.items ++ c.in_ok-function.field-0.found.items) (then_put (then_put put_nothing (in_key k)) (in_function false f)) c.with-2.ensures (puts-append i c.in_ok-node.node.found.items c.in_ok-function.field-0.found.items (then_put put_nothing (in_key k)) (in_function false f) (puts-same i c.in_ok-node.node.found.items (c.nothing.result.found.items ++ (held_key c.args.key)) (then_put put_nothing (in_key k)) c.in_ok-node.ensures (puts-append i c.nothing.result.found.items (held_key c.args.key) put_nothing (in_key k) (puts-nothing i c.nothing.result.found.items c.nothing.ensures) (puts-key i c.args.key k h))) (c.in_ok-function.ensures i f g))
