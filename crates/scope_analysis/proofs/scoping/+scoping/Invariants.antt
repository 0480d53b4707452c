use Rattle.std.proofs.Common.{ℕ, List, map, drop}
use Rattle.script_grammar.specs.Tree.{Stmts}
use Rattle.script_grammar.specs.TreeLists.{stmts_of, clauses_of}
use Rattle.script_grammar.specs.TreeOf.{stmt_of, clause_of}
use Rattle.stencil_data.specs.Views.{ScopeView}
use Rattle.scope_analysis.specs.Kept.{under}
use Rattle.scope_analysis.specs.Scopes.{count_stmts, count_clauses, scopes_stmts, scopes_clauses}
use Rattle.scope_analysis.specs.Walked.{Scoped}
use Rattle.scope_analysis.proofs.scoping.+scoping.Given as goal

abbrev pub invariant-add_stmts-loop-item : goal.invariant-add_stmts-loop-item
invariant-add_stmts-loop-item l =
    (bodies : ℕ → Stmts) (final : List ScopeView) (last : ℕ)
    → Scoped l.known.texts.now l.known.closed.now l.around l.made.scopes.items l.made.closed final last (count_stmts (stmts_of (map (stmt_of (under l.known.texts.now bodies)) (drop l.item-index l.items)))) (scopes_stmts (stmts_of (map (stmt_of (under l.known.texts.now bodies)) (drop l.item-index l.items))))
    → Scoped l.known.texts.now l.known.closed.now l.around l.fn.made.scopes.items l.fn.made.closed final last (count_stmts (stmts_of (map (stmt_of (under l.known.texts.now bodies)) l.items))) (scopes_stmts (stmts_of (map (stmt_of (under l.known.texts.now bodies)) l.items)))

abbrev pub invariant-add_clauses-loop-clause : goal.invariant-add_clauses-loop-clause
invariant-add_clauses-loop-clause l =
    (bodies : ℕ → Stmts) (final : List ScopeView) (last : ℕ)
    → Scoped l.known.texts.now l.known.closed.now l.around l.made.scopes.items l.made.closed final last (count_clauses (clauses_of (map (clause_of (under l.known.texts.now bodies)) (drop l.clause-index l.clauses)))) (scopes_clauses (clauses_of (map (clause_of (under l.known.texts.now bodies)) (drop l.clause-index l.clauses))))
    → Scoped l.known.texts.now l.known.closed.now l.around l.fn.made.scopes.items l.fn.made.closed final last (count_clauses (clauses_of (map (clause_of (under l.known.texts.now bodies)) l.clauses))) (scopes_clauses (clauses_of (map (clause_of (under l.known.texts.now bodies)) l.clauses)))
