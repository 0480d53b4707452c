use Rattle.script_grammar.specs.Shows.{ShowAll}
use Rattle.parse_handlers.proofs.parts.converted.Given as goal

abbrev pub invariant-loop-node : goal.invariant-loop-node
invariant-loop-node g l = ShowAll (λ n t. g.F.Fn.post l.convert (n, tt) t) l.yielded l.made.items
