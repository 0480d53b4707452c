use Rattle.std.proofs.Common.{◌≡◌, ℕ, map, drop}
use Rattle.script_grammar.specs.Tree.{Stmts}
use Rattle.script_grammar.specs.TreeLists.{stmts_of, clauses_of}
use Rattle.script_grammar.specs.TreeOf.{stmt_of, clause_of}
use Rattle.scope_analysis.specs.DeclaredNames.{has_text, var_names, clauses_var_names}
use Rattle.scope_analysis.specs.Kept.{under}
use Rattle.scope_functions.proofs.declared.+vars.Given as goal

abbrev pub invariant-is_var-loop-item : goal.invariant-is_var-loop-item
invariant-is_var-loop-item l = (bodies : ℕ → Stmts) → has_text (var_names (stmts_of (map (stmt_of (under l.wanted.texts.now bodies)) (drop l.item-index l.items)))) l.wanted.units.now ≡ has_text (var_names (stmts_of (map (stmt_of (under l.wanted.texts.now bodies)) l.items))) l.wanted.units.now

abbrev pub invariant-is_var_in_clauses-loop-clause : goal.invariant-is_var_in_clauses-loop-clause
invariant-is_var_in_clauses-loop-clause l = (bodies : ℕ → Stmts) → has_text (clauses_var_names (clauses_of (map (clause_of (under l.wanted.texts.now bodies)) (drop l.clause-index l.clauses)))) l.wanted.units.now ≡ has_text (clauses_var_names (clauses_of (map (clause_of (under l.wanted.texts.now bodies)) l.clauses))) l.wanted.units.now
