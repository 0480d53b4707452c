use Rattle.std.proofs.Common.{◌≡◌, ◌++◌, map, drop}
use Rattle.script_grammar.specs.Interpretation.{Interpretation, text_of}
use Rattle.script_grammar.specs.TreeLists.{binds_of}
use Rattle.script_grammar.specs.TreeOf.{bind_of}
use Rattle.scope_analysis.specs.DeclaredNames.{bound_names}
use Rattle.scope_analysis.proofs.names.push_bound.Given as goal

abbrev pub invariant-loop-bind : goal.invariant-loop-bind
invariant-loop-bind l =
    (i : Interpretation) → map (text_of i) l.atoms.items ++ bound_names (binds_of (map (bind_of i) (drop l.bind-index l.binds)))
    ≡ map (text_of i) l.fn.atoms.items ++ bound_names (binds_of (map (bind_of i) l.binds))
