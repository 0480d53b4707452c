use Rattle.std.proofs.Common.{◌+◌, ◌*◌, drop}
use Rattle.scope_analysis.specs.Functions.{inner_clauses, inner_stmts}
use Rattle.scope_analysis.specs.Scopes.{count_clauses, count_stmts}
use Rattle.scope_inner.specs.Spots.{spot_of}
use Rattle.scope_inner.specs.StmtFinds.{clauses_in, stmts_in}
use Rattle.scope_inner.proofs.StmtRows.{GoingIn}
use Rattle.scope_inner.proofs.stmts.+stmts.Given as goal

abbrev pub invariant-find_stmts-loop-item : goal.invariant-find_stmts-loop-item
invariant-find_stmts-loop-item l = GoingIn (spot_of l.place) l.fn.out.sites.items l.out.sites.items l.fn.out.next l.out.next (λ i. count_stmts (stmts_in i l.items)) (λ i. count_stmts (stmts_in i (drop l.item-index l.items))) (λ i. inner_stmts (stmts_in i l.items)) (λ i. inner_stmts (stmts_in i (drop l.item-index l.items)))

abbrev pub invariant-find_clauses-loop-clause : goal.invariant-find_clauses-loop-clause
invariant-find_clauses-loop-clause l = GoingIn (spot_of l.place) l.fn.out.sites.items l.out.sites.items l.fn.out.next l.out.next (λ i. count_clauses (clauses_in i l.clauses)) (λ i. count_clauses (clauses_in i (drop l.clause-index l.clauses))) (λ i. inner_clauses (clauses_in i l.clauses)) (λ i. inner_clauses (clauses_in i (drop l.clause-index l.clauses)))

abbrev pub decreases-find_stmt : goal.decreases-find_stmt
decreases-find_stmt l = 5 * goal.size-find_stmt l

abbrev pub decreases-find_stmts : goal.decreases-find_stmts
decreases-find_stmts l = 5 * goal.size-find_stmts l + 1

abbrev pub decreases-find_block : goal.decreases-find_block
decreases-find_block l = 5 * goal.size-find_block l + 2

abbrev pub decreases-find_handler : goal.decreases-find_handler
decreases-find_handler l = 5 * goal.size-find_handler l + 3

abbrev pub decreases-find_else : goal.decreases-find_else
decreases-find_else l = 5 * goal.size-find_else l + 1

abbrev pub decreases-find_for : goal.decreases-find_for
decreases-find_for l = 5 * goal.size-find_for l + 1

abbrev pub decreases-find_for_in : goal.decreases-find_for_in
decreases-find_for_in l = 5 * goal.size-find_for_in l + 1

abbrev pub decreases-find_clauses : goal.decreases-find_clauses
decreases-find_clauses l = 5 * goal.size-find_clauses l + 2

abbrev pub decreases-find_switch : goal.decreases-find_switch
decreases-find_switch l = 5 * goal.size-find_switch l + 3
