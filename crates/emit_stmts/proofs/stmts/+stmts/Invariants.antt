use Rattle.std.proofs.Common.{◌+◌, ◌*◌, drop, length}
use Rattle.emit_stmts.specs.Positions.{position_of, state}
use Rattle.emit_stmts.proofs.ClauseRows.{SwitchLeft}
use Rattle.emit_stmts.proofs.Writing.{StmtsLeft}
use Rattle.emit_stmts.proofs.stmts.+stmts.Given as goal

abbrev pub invariant-emit_stmts-loop-item : goal.invariant-emit_stmts-loop-item
invariant-emit_stmts-loop-item l = StmtsLeft (position_of l.site) (state l.initial.out l.initial.waits.items) (state l.out l.waits.items) l.initial.out.next l.out.next l.items (drop l.item-index l.items)

abbrev pub invariant-emit_clauses-loop-place : goal.invariant-emit_clauses-loop-place
invariant-emit_clauses-loop-place l = SwitchLeft (position_of l.inside) l.fn.out.code l.fn.out.notes.items l.out.code l.jumps l.inner.items l.out.notes.items l.fn.out.next l.out.next l.place (length l.site.frames.now) l.clauses (drop l.place l.clauses)

abbrev pub decreases-emit_stmt : goal.decreases-emit_stmt
decreases-emit_stmt l = 8 * goal.size-emit_stmt l

abbrev pub decreases-emit_stmts : goal.decreases-emit_stmts
decreases-emit_stmts l = 8 * goal.size-emit_stmts l + 1

abbrev pub decreases-emit_block : goal.decreases-emit_block
decreases-emit_block l = 8 * goal.size-emit_block l + 2

abbrev pub decreases-emit_guarded : goal.decreases-emit_guarded
decreases-emit_guarded l = 8 * goal.size-emit_guarded l + 3

abbrev pub decreases-emit_catch : goal.decreases-emit_catch
decreases-emit_catch l = 8 * goal.size-emit_catch l + 3

abbrev pub decreases-emit_handler : goal.decreases-emit_handler
decreases-emit_handler l = 8 * goal.size-emit_handler l + 4

abbrev pub decreases-emit_then : goal.decreases-emit_then
decreases-emit_then l = 8 * goal.size-emit_then l + 1

abbrev pub decreases-emit_first : goal.decreases-emit_first
decreases-emit_first l = 8 * goal.size-emit_first l + 1

abbrev pub decreases-emit_do : goal.decreases-emit_do
decreases-emit_do l = 8 * goal.size-emit_do l + 1

abbrev pub decreases-emit_while : goal.decreases-emit_while
decreases-emit_while l = 8 * goal.size-emit_while l + 1

abbrev pub decreases-emit_turns : goal.decreases-emit_turns
decreases-emit_turns l = 8 * goal.size-emit_turns l + 1

abbrev pub decreases-emit_for : goal.decreases-emit_for
decreases-emit_for l = 8 * goal.size-emit_for l + 2

abbrev pub decreases-emit_keys : goal.decreases-emit_keys
decreases-emit_keys l = 8 * goal.size-emit_keys l + 1

abbrev pub decreases-emit_for_in : goal.decreases-emit_for_in
decreases-emit_for_in l = 8 * goal.size-emit_for_in l + 2

abbrev pub decreases-emit_clauses : goal.decreases-emit_clauses
decreases-emit_clauses l = 8 * goal.size-emit_clauses l + 1

abbrev pub decreases-emit_switch : goal.decreases-emit_switch
decreases-emit_switch l = 8 * goal.size-emit_switch l + 2

abbrev pub decreases-emit_label : goal.decreases-emit_label
decreases-emit_label l = 8 * goal.size-emit_label l + 1
