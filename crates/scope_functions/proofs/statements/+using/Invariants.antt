use Rattle.std.proofs.Common.{◌≡◌, ℕ, map, drop}
use Rattle.script_grammar.specs.Tree.{Stmts}
use Rattle.script_grammar.specs.TreeLists.{stmts_of, clauses_of}
use Rattle.script_grammar.specs.TreeOf.{stmt_of, clause_of}
use Rattle.scope_analysis.specs.DeclaredNames.{has_text}
use Rattle.scope_analysis.specs.Uses.{uses_stmts, uses_clauses}
use Rattle.scope_analysis.specs.Kept.{under}
use Rattle.scope_functions.proofs.statements.+using.Given as goal

abbrev pub invariant-uses_stmts-loop-item : goal.invariant-uses_stmts-loop-item
invariant-uses_stmts-loop-item l = (bodies : ℕ → Stmts) → has_text (uses_stmts (stmts_of (map (stmt_of (under l.wanted.texts.now bodies)) (drop l.item-index l.items)))).own l.wanted.units.now ≡ has_text (uses_stmts (stmts_of (map (stmt_of (under l.wanted.texts.now bodies)) l.items))).own l.wanted.units.now

abbrev pub invariant-uses_clauses-loop-clause : goal.invariant-uses_clauses-loop-clause
invariant-uses_clauses-loop-clause l = (bodies : ℕ → Stmts) → has_text (uses_clauses (clauses_of (map (clause_of (under l.wanted.texts.now bodies)) (drop l.clause-index l.clauses)))).own l.wanted.units.now ≡ has_text (uses_clauses (clauses_of (map (clause_of (under l.wanted.texts.now bodies)) l.clauses))).own l.wanted.units.now
