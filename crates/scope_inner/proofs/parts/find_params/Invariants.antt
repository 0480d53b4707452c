use Rattle.std.proofs.Common.{map, drop}
use Rattle.script_grammar.specs.TreeLists.{params_of}
use Rattle.script_grammar.specs.TreeOf.{param_of}
use Rattle.scope_analysis.specs.Functions.{inner_params}
use Rattle.scope_inner.proofs.FindRows.{Going}
use Rattle.scope_inner.proofs.parts.find_params.Given as goal

abbrev pub invariant-loop-param : goal.invariant-loop-param
invariant-loop-param l = Going l.initial.found.items l.found.items l.chain (λ i. inner_params (params_of (map (param_of i) l.params))) (λ i. inner_params (params_of (map (param_of i) (drop l.param-index l.params))))
