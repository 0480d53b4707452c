use Rattle.std.proofs.Common.{map, drop}
use Rattle.script_grammar.specs.TreeLists.{binds_of}
use Rattle.script_grammar.specs.TreeOf.{bind_of}
use Rattle.scope_analysis.specs.Functions.{inner_binds}
use Rattle.scope_inner.proofs.FindRows.{Going}
use Rattle.scope_inner.proofs.parts.find_binds.Given as goal

abbrev pub invariant-loop-bind : goal.invariant-loop-bind
invariant-loop-bind l = Going l.initial.found.items l.found.items l.chain (λ i. inner_binds (binds_of (map (bind_of i) l.binds))) (λ i. inner_binds (binds_of (map (bind_of i) (drop l.bind-index l.binds))))
