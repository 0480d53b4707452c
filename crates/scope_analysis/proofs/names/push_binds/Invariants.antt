use Rattle.std.proofs.Common.{◌≡◌, ◌++◌, map, drop}
use Rattle.script_grammar.specs.Interpretation.{Interpretation}
use Rattle.script_grammar.specs.TreeLists.{binds_of}
use Rattle.script_grammar.specs.TreeOf.{bind_of}
use Rattle.scope_analysis.specs.DeclaredNames.{declarations, bound_names}
use Rattle.scope_analysis.specs.Kept.{declarations_in}
use Rattle.scope_analysis.proofs.names.push_binds.Given as goal

abbrev pub invariant-loop-bind : goal.invariant-loop-bind
invariant-loop-bind l =
    (i : Interpretation) → declarations_in i l.names.items ++ declarations l.kind (bound_names (binds_of (map (bind_of i) (drop l.bind-index l.binds))))
    ≡ declarations_in i l.fn.names.items ++ declarations l.kind (bound_names (binds_of (map (bind_of i) l.binds)))
