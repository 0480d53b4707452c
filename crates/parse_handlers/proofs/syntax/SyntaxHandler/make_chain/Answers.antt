use Rattle.std.proofs.Common.{◌++◌}
use Rattle.std.specs.List.{flat_map}
use Rattle.script_grammar.specs.TreeLists.{tails_of}
use Rattle.parse_handlers.specs.Inner.{in_expr, in_tails}
use Rattle.parse_handlers.specs.Held.{held_tail}
use Rattle.parse_handlers.proofs.Gathered.{then_put, puts-append, puts-tails, if_puts}
use Rattle.parse_handlers.proofs.syntax.SyntaxHandler.make_chain.Goals as goal

pub returns : goal.returns
returns c = λ i t ts h g. if_puts i c.with.result (c.args.head.found.items ++ (flat_map held_tail c.args.tails.items)) (then_put (in_expr t) (in_tails (tails_of ts))) c.with.ensures (puts-append i c.args.head.found.items (flat_map held_tail c.args.tails.items) (in_expr t) (in_tails (tails_of ts)) h (puts-tails i c.args.tails.items ts g))
