use Rattle.std.proofs.Common.{◌++◌}
use Rattle.std.specs.List.{flat_map}
use Rattle.script_grammar.specs.TreeLists.{operands_of}
use Rattle.parse_handlers.specs.Inner.{in_expr, in_operands}
use Rattle.parse_handlers.specs.Held.{held_operand}
use Rattle.parse_handlers.proofs.Gathered.{then_put, puts-append, puts-operands, if_puts}
use Rattle.parse_handlers.proofs.syntax.SyntaxHandler.make_binary.Goals as goal

pub returns : goal.returns
returns c = λ i t os h g. if_puts i c.with.result (c.args.first.found.items ++ (flat_map held_operand c.args.rest.items)) (then_put (in_expr t) (in_operands (operands_of os))) c.with.ensures (puts-append i c.args.first.found.items (flat_map held_operand c.args.rest.items) (in_expr t) (in_operands (operands_of os)) h (puts-operands i c.args.rest.items os g))
