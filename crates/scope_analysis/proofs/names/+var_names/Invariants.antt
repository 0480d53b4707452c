use Rattle.std.proofs.Common.{◌≡◌, ◌++◌, map, drop}
use Rattle.script_grammar.specs.Interpretation.{Interpretation, text_of}
use Rattle.script_grammar.specs.TreeLists.{stmts_of, clauses_of}
use Rattle.script_grammar.specs.TreeOf.{stmt_of, clause_of}
use Rattle.scope_analysis.specs.DeclaredNames.{var_names, clauses_var_names}
use Rattle.scope_analysis.proofs.names.+var_names.Given as goal

abbrev pub invariant-push_all_var_names-loop-item : goal.invariant-push_all_var_names-loop-item
invariant-push_all_var_names-loop-item l =
    (i : Interpretation) → map (text_of i) l.atoms.items ++ var_names (stmts_of (map (stmt_of i) (drop l.item-index l.items)))
    ≡ map (text_of i) l.fn.atoms.items ++ var_names (stmts_of (map (stmt_of i) l.items))

abbrev pub invariant-push_clauses_var_names-loop-clause : goal.invariant-push_clauses_var_names-loop-clause
invariant-push_clauses_var_names-loop-clause l =
    (i : Interpretation) → map (text_of i) l.atoms.items ++ clauses_var_names (clauses_of (map (clause_of i) (drop l.clause-index l.clauses)))
    ≡ map (text_of i) l.fn.atoms.items ++ clauses_var_names (clauses_of (map (clause_of i) l.clauses))
