use Rattle.std.proofs.Common.{◌++◌}
use Rattle.script_grammar.specs.TreeLists.{maybe_expr_of}
use Rattle.parse_handlers.specs.Inner.{in_maybe_expr}
use Rattle.parse_handlers.specs.Held.{held, held_maybe}
use Rattle.parse_handlers.proofs.Gathered.{then_put, put_nothing, puts-append, puts-nothing, puts-maybe_expr, if_puts}
use Rattle.parse_handlers.proofs.syntax.SyntaxHandler.make_return.Goals as goal

pub returns : goal.returns
returns c = λ i t h. if_puts i c.with.result (c.nothing.result.found.items ++ (held_maybe held c.args.value)) (then_put put_nothing (in_maybe_expr (maybe_expr_of t))) c.with.ensures (puts-append i c.nothing.result.found.items (held_maybe held c.args.value) put_nothing (in_maybe_expr (maybe_expr_of t)) (puts-nothing i c.nothing.result.found.items c.nothing.ensures) (puts-maybe_expr i c.args.value t h))
