use Rattle.std.proofs.Common.{◌≡◌, ◌++◌, map, drop}
use Rattle.script_grammar.specs.Interpretation.{Interpretation}
use Rattle.script_grammar.specs.TreeLists.{clauses_of}
use Rattle.script_grammar.specs.TreeOf.{clause_of}
use Rattle.scope_analysis.specs.DeclaredNames.{clauses_lexical_names}
use Rattle.scope_analysis.specs.Kept.{declarations_in}
use Rattle.scope_analysis.proofs.names.push_clauses_lexical_names.Given as goal

abbrev pub invariant-loop-clause : goal.invariant-loop-clause
invariant-loop-clause l =
    (i : Interpretation) → declarations_in i l.names.items ++ clauses_lexical_names (clauses_of (map (clause_of i) (drop l.clause-index l.clauses)))
    ≡ declarations_in i l.fn.names.items ++ clauses_lexical_names (clauses_of (map (clause_of i) l.clauses))
