use Rattle.std.proofs.Common.{◌++◌}
use Rattle.std.specs.List.{flat_map}
use Rattle.script_grammar.specs.TreeLists.{clauses_of}
use Rattle.parse_handlers.specs.Inner.{in_expr, in_clauses}
use Rattle.parse_handlers.specs.Held.{held_clause}
use Rattle.parse_handlers.proofs.Gathered.{then_put, puts-append, puts-clauses, if_puts}
use Rattle.parse_handlers.proofs.syntax.SyntaxHandler.make_switch.Goals as goal

pub returns : goal.returns
returns c = λ i t cs h g. if_puts i c.with.result (c.args.of.found.items ++ (flat_map held_clause c.args.clauses.items)) (then_put (in_expr t) (in_clauses (clauses_of cs))) c.with.ensures (puts-append i c.args.of.found.items (flat_map held_clause c.args.clauses.items) (in_expr t) (in_clauses (clauses_of cs)) h (puts-clauses i c.args.clauses.items cs g))
