use Rattle.std.proofs.Common.{◌++◌}
use Rattle.script_grammar.specs.TreeLists.{maybe_args_of}
use Rattle.parse_handlers.specs.Inner.{in_expr, in_maybe_args}
use Rattle.parse_handlers.specs.Held.{held_maybe, held_args}
use Rattle.parse_handlers.proofs.Gathered.{then_put, puts-append, puts-maybe_args, if_puts}
use Rattle.parse_handlers.proofs.syntax.SyntaxHandler.make_new.Goals as goal

pub returns : goal.returns
returns c = λ i t a h g. if_puts i c.with.result (c.args.callee.found.items ++ (held_maybe held_args c.args.args)) (then_put (in_expr t) (in_maybe_args (maybe_args_of a))) c.with.ensures (puts-append i c.args.callee.found.items (held_maybe held_args c.args.args) (in_expr t) (in_maybe_args (maybe_args_of a)) h (puts-maybe_args i c.args.args a g))
