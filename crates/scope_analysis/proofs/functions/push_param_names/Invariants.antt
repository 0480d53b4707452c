use Rattle.std.proofs.Common.{◌≡◌, ◌++◌, map, drop}
use Rattle.script_grammar.specs.Interpretation.{Interpretation, text_of}
use Rattle.script_grammar.specs.TreeLists.{params_of}
use Rattle.script_grammar.specs.TreeOf.{param_of}
use Rattle.scope_analysis.specs.DeclaredNames.{param_names}
use Rattle.scope_analysis.proofs.functions.push_param_names.Given as goal

abbrev pub invariant-loop-param : goal.invariant-loop-param
invariant-loop-param l =
    (i : Interpretation) → map (text_of i) l.atoms.items ++ param_names (params_of (map (param_of i) (drop l.param-index l.params)))
    ≡ map (text_of i) l.fn.atoms.items ++ param_names (params_of (map (param_of i) l.params))
