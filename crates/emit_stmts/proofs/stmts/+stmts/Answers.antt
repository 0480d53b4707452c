use Rattle.std.proofs.Common.{List, Option, ap, drop_of_length-le, length, subst, sym, ℕ, ◌++◌, ◌<◌, ◌∙◌}
use Rattle.script_grammar.specs.declared.tree.Ident.{Ident}
use Rattle.script_grammar.specs.declared.tree.TryStatement.{out-TryStatement}
use Rattle.bytecode_buf.specs.Appends.{AllRoom}
use Rattle.bytecode_buf.specs.declared.opcode.Op.TheVariants as op
use Rattle.bytecode_buf.specs.declared.waits.Aim.TheVariants as aim
use Rattle.bytecode_buf.specs.declared.waits.Wait.{Wait}
use Rattle.bytecode_buf.specs.Emits.{LandsHere}
use Rattle.emit_exprs.proofs.Lists.{next_of}
use Rattle.emit_exprs.proofs.Writing as expr
use Rattle.emit_stmts.specs.declared.frames.Frame.{Frame}
use Rattle.emit_stmts.specs.Clauses.{NoClause}
use Rattle.emit_stmts.specs.PartCode.{HandlerWritten}
use Rattle.emit_stmts.specs.Positions.{framed, frames_in, position_of, state, within}
use Rattle.emit_stmts.proofs.ChoiceRows.{choice_row, first_row, first_turn, label_row, then_row, then_turn}
use Rattle.emit_stmts.proofs.Exits.{length-frames}
use Rattle.emit_stmts.proofs.ForRows.{for_in_plain, for_in_scoped, for_plain, for_scoped}
use Rattle.emit_stmts.proofs.LoopRows.{do_row, do_turn, for_turn, for_turns, keys_row, keys_turn, tail_some, turn_landed, turn_some, while_row, while_turn}
use Rattle.emit_stmts.proofs.Scoped.{block_plain, block_scoped, inner_is}
use Rattle.emit_stmts.proofs.ClauseRows.{switch_apart, switch_begin, switch_code_left, switch_next, switch_room}
use Rattle.emit_stmts.proofs.SwitchRows.{clauses_end, clauses_room, clauses_row, switch_plain, switch_scoped}
use Rattle.emit_stmts.proofs.TryRows.{catch_out, catch_row, guarded_room, guarded_row, handler_none, try_row}
use Rattle.emit_stmts.proofs.Writing.{written_both, written_from_none, written_plain, written_room, written_turn}
use Rattle.emit_stmts.proofs.Writing as list
use Rattle.emit_stmts.proofs.StmtArms as arm
use Rattle.emit_stmts.proofs.stmts.+stmts.Goals as goal

pub emit_block-returns-in_ok-leave_scope : goal.emit_block-returns-in_ok-leave_scope
emit_block-returns-in_ok-leave_scope t c = block_scoped c.args.site.now c.within_scope-inside.result c.args.items.now (λ w. c.block_declares.ensures (within (position_of c.args.site.now) w)) (sym c.may_enter.ensures ∙ c.if-may_enter.true) (inner_is c.args.site.now (position_of c.within_scope-inside.result) c.args.out.now.next c.in_ok-scope.scope.chain c.in_ok-scope.scope.frames.items c.within_scope-inside.ensures c.in_ok-scope.ensures.chain c.in_ok-scope.ensures.frames) c.in_ok-scope.ensures.code c.in_ok-scope.ensures.next c.in_ok-scope.ensures.notes c.in_ok-block_functions.ensures c.in_ok-emit_stmts.ensures c.in_ok-scope.ensures.number c.in_ok-leave_scope.ensures

pub emit_block-returns-in_ok-emit_stmts-2 : goal.emit_block-returns-in_ok-emit_stmts-2
emit_block-returns-in_ok-emit_stmts-2 t c = block_plain c.args.site.now c.args.items.now (λ w. c.block_declares.ensures (within (position_of c.args.site.now) w)) (sym c.may_enter.ensures ∙ c.if-may_enter.false) c.in_ok-block_functions-2.ensures c.in_ok-emit_stmts-2.ensures

pub emit_catch-returns-in_ok-leave_scope : goal.emit_catch-returns-in_ok-leave_scope
emit_catch-returns-in_ok-leave_scope t c = catch_row c.args.site.now c.within_scope-inside.result c.args.name c.args.items.now (inner_is c.args.site.now (position_of c.within_scope-inside.result) c.args.out.now.next c.in_ok-scope.scope.chain c.in_ok-scope.scope.frames.items c.within_scope-inside.ensures c.in_ok-scope.ensures.chain c.in_ok-scope.ensures.frames) c.in_ok-scope.ensures.code c.in_ok-scope.ensures.next c.in_ok-scope.ensures.notes c.in_ok-caught.ensures c.in_ok-emit_block.ensures c.in_ok-scope.ensures.number c.in_ok-leave_scope.ensures

pub emit_catch-returns-in_ok-emit_block-2 : goal.emit_catch-returns-in_ok-emit_block-2
emit_catch-returns-in_ok-emit_block-2 t c = catch_out c.args.site.now c.args.name c.args.items.now (sym c.may_enter.ensures ∙ c.if-may_enter.false) c.in_ok-emit_block-2.ensures

pub emit_clauses-loop-place-init : goal.emit_clauses-loop-place-init
emit_clauses-loop-place-init t c = switch_begin c.framed_site-inside.result c.args.out.now.notes.items c.args.out.now.next c.args.clauses.now _ _ _ c.new-tests.ensures.items c.in_ok-cases.ensures.code c.in_ok-cases.ensures.order c.new-otherwise.ensures.items c.in_ok-jump_to.ensures.jumps c.in_ok-jump_to.ensures.waits c.default_aim.ensures.is c.default_aim.ensures.among c.new-inner.ensures.items

pub emit_clauses-clause_target-requires : goal.emit_clauses-clause_target-requires
emit_clauses-clause_target-requires t c = switch_room (clauses_room c.loop-place.invariant.code) c.loop-place.invariant

pub emit_clauses-loop-place-preserved : goal.emit_clauses-loop-place-preserved
emit_clauses-loop-place-preserved t c = switch_next _ _ c.index-clauses-place.result c.deref-in-loop-place.result.now (next_of c.args.clauses.now c.loop-place.place c.index-clauses-place.result c.loop-place-test.true c.index-clauses-place.is) c.deref-in-loop-place.ensures.value c.in_ok-clause_target.ensures c.loop-place-test.true c.in_ok-emit_stmts.ensures c.loop-place.invariant

pub emit_clauses-target-requires : goal.emit_clauses-target-requires
emit_clauses-target-requires t c = subst (AllRoom (length c.loop-place.out.code)) (sym c.deref-3.ensures.value) (clauses_room (switch_code_left c.loop-place-test.false (c.in_ok-extend_from_slice.ensures.items ∙ ap (λ (l : List Wait). c.loop-place.jumps.otherwise.items ++ l) c.deref-2.ensures.value) c.loop-place.invariant))

pub emit_clauses-returns : goal.emit_clauses-returns
emit_clauses-returns t c = clauses_row c.args.site.now c.framed_site-inside.result c.args.clauses.now (c.framed_site-inside.ensures ∙ ap (λ (fs : List Frame). framed (frames_in c.args.site.now.exprs.texts.now fs) (position_of c.args.site.now)) (c.deref.ensures.value ∙ c.in_ok-frames.ensures)) (sym (length-frames c.args.site.now.exprs.texts.now c.args.site.now.frames.now)) (clauses_end _ (drop_of_length-le c.args.clauses.now c.loop-place-test.false) (subst NoClause (sym (c.in_ok-extend_from_slice.ensures.items ∙ ap (λ (l : List Wait). c.loop-place.jumps.otherwise.items ++ l) c.deref-2.ensures.value)) (switch_apart c.loop-place-test.false c.loop-place.invariant)) (switch_code_left c.loop-place-test.false (c.in_ok-extend_from_slice.ensures.items ∙ ap (λ (l : List Wait). c.loop-place.jumps.otherwise.items ++ l) c.deref-2.ensures.value) c.loop-place.invariant)) (subst (λ (ws : List Wait). LandsHere (aim.Break (length c.args.site.now.frames.now)) c.loop-place.out.code ws c.args.waits.now.items c.target.new.out c.target.new.waits.items) c.deref-3.ensures.value c.in_ok-target.ensures.lands)

pub emit_do-target-requires : goal.emit_do-target-requires
emit_do-target-requires t c = subst (AllRoom (length c.emit_stmt.new.out.code)) (sym c.deref-2.ensures.value) (written_room (do_turn c.framed_site-inside.result c.args.body.now c.new-inner.ensures.items (c.in_ok-plain.ensures c.framed_site-inside.result.exprs.texts.now) c.in_ok-emit_stmt.ensures))

pub emit_do-turn-requires-clause-start : goal.emit_do-turn-requires-clause-start
emit_do-turn-requires-clause-start t c = subst (λ (n : ℕ). n < length c.emit_expr.new.out) (sym c.len-start.ensures) (tail_some (turn_some (length c.args.site.now.frames.now) (do_turn c.framed_site-inside.result c.args.body.now c.new-inner.ensures.items (c.in_ok-plain.ensures c.framed_site-inside.result.exprs.texts.now) c.in_ok-emit_stmt.ensures) (subst (λ (ws : List Wait). LandsHere (aim.Continue (length c.args.site.now.frames.now)) c.emit_stmt.new.out.code ws c.new-turned.result.items c.target.new.out c.target.new.waits.items) c.deref-2.ensures.value c.in_ok-target.ensures.lands)) (written_plain c.framed_site-inside.result c.target.new.waits.items c.emit_stmt.new.out.notes.items c.emit_stmt.new.out.next c.in_ok-emit_expr.ensures.row.code))

pub emit_do-target-requires-2 : goal.emit_do-target-requires-2
emit_do-target-requires-2 t c = subst (AllRoom (length c.turn.new.out)) (sym c.deref-3.ensures.value) (written_room (written_turn op.JumpIfTrue c.len-start.result c.in_ok-turn.ensures (sym c.len-start.ensures) (written_both (turn_landed (length c.args.site.now.frames.now) (do_turn c.framed_site-inside.result c.args.body.now c.new-inner.ensures.items (c.in_ok-plain.ensures c.framed_site-inside.result.exprs.texts.now) c.in_ok-emit_stmt.ensures) c.new-turned.ensures.items (subst (λ (ws : List Wait). LandsHere (aim.Continue (length c.args.site.now.frames.now)) c.emit_stmt.new.out.code ws c.new-turned.result.items c.target.new.out c.target.new.waits.items) c.deref-2.ensures.value c.in_ok-target.ensures.lands)) (written_plain c.framed_site-inside.result c.target.new.waits.items c.emit_stmt.new.out.notes.items c.emit_stmt.new.out.next c.in_ok-emit_expr.ensures.row.code))))

pub emit_do-returns : goal.emit_do-returns
emit_do-returns t c = λ semi. do_row c.args.site.now c.framed_site-inside.result c.args.test.now c.args.body.now (length c.args.site.now.frames.now) semi (c.framed_site-inside.ensures ∙ ap (λ (fs : List Frame). framed (frames_in c.args.site.now.exprs.texts.now fs) (position_of c.args.site.now)) (c.deref.ensures.value ∙ c.in_ok-frames.ensures)) (sym (length-frames c.args.site.now.exprs.texts.now c.args.site.now.frames.now)) (sym c.len-start.ensures) (turn_landed (length c.args.site.now.frames.now) (do_turn c.framed_site-inside.result c.args.body.now c.new-inner.ensures.items (c.in_ok-plain.ensures c.framed_site-inside.result.exprs.texts.now) c.in_ok-emit_stmt.ensures) c.new-turned.ensures.items (subst (λ (ws : List Wait). LandsHere (aim.Continue (length c.args.site.now.frames.now)) c.emit_stmt.new.out.code ws c.new-turned.result.items c.target.new.out c.target.new.waits.items) c.deref-2.ensures.value c.in_ok-target.ensures.lands)) c.in_ok-emit_expr.ensures c.in_ok-turn.ensures (subst (λ (ws : List Wait). LandsHere (aim.Break (length c.args.site.now.frames.now)) c.turn.new.out ws c.args.waits.now.items c.target-2.new.out c.target-2.new.waits.items) c.deref-3.ensures.value c.in_ok-target-2.ensures.lands)

pub emit_first-target-requires : goal.emit_first-target-requires
emit_first-target-requires t c = subst (AllRoom (length c.jump_to-2.new.out)) (sym c.deref.ensures.value) (written_room (first_turn c.args.site.now c.args.test.now c.args.body.now (then_turn c.args.site.now c.args.test.now c.args.body.now c.new-inner.ensures.items c.in_ok-emit_expr.ensures c.in_ok-jump_to.ensures.jumps c.in_ok-emit_stmt.ensures) c.in_ok-jump_to-2.ensures.jumps))

pub emit_first-returns : goal.emit_first-returns
emit_first-returns t c = first_row c.args.site.now c.args.test.now c.args.body.now (then_turn c.args.site.now c.args.test.now c.args.body.now c.new-inner.ensures.items c.in_ok-emit_expr.ensures c.in_ok-jump_to.ensures.jumps c.in_ok-emit_stmt.ensures) c.in_ok-jump_to-2.ensures.jumps (subst (λ (ws : List Wait). LandsHere (aim.Otherwise) c.jump_to-2.new.out ws c.args.waits.now.items c.target.new.out c.target.new.waits.items) c.deref.ensures.value c.in_ok-target.ensures.lands)

pub emit_for-returns-in_ok-leave_scope : goal.emit_for-returns-in_ok-leave_scope
emit_for-returns-in_ok-leave_scope t c = for_scoped c.args.site.now c.within_scope-inside.result c.args.first.now c.args.test.now c.args.step.now c.args.body.now (λ w. c.init_declares.ensures (within (position_of c.args.site.now) w)) (sym c.may_enter.ensures ∙ c.if-may_enter.true) (inner_is c.args.site.now (position_of c.within_scope-inside.result) c.args.out.now.next c.in_ok-scope.scope.chain c.in_ok-scope.scope.frames.items c.within_scope-inside.ensures c.in_ok-scope.ensures.chain c.in_ok-scope.ensures.frames) c.in_ok-scope.ensures.code c.in_ok-scope.ensures.next c.in_ok-scope.ensures.notes c.in_ok-init.ensures c.in_ok-scope.ensures.number c.in_ok-freshen_head.ensures c.in_ok-emit_turns.ensures c.in_ok-leave_scope.ensures

pub emit_for-returns-in_ok-emit_turns-2 : goal.emit_for-returns-in_ok-emit_turns-2
emit_for-returns-in_ok-emit_turns-2 t c = for_plain c.args.site.now c.args.first.now c.args.test.now c.args.step.now c.args.body.now (λ w. c.init_declares.ensures (within (position_of c.args.site.now) w)) (sym c.may_enter.ensures ∙ c.if-may_enter.false) c.in_ok-init-2.ensures c.in_ok-emit_turns-2.ensures

pub emit_for_in-returns-in_ok-leave_scope : goal.emit_for_in-returns-in_ok-leave_scope
emit_for_in-returns-in_ok-leave_scope t c = for_in_scoped c.args.site.now c.within_scope-inside.result c.args.each.now c.args.over.now c.args.body.now (λ w. c.each_declares.ensures (within (position_of c.args.site.now) w)) (sym c.may_enter.ensures ∙ c.if-may_enter.true) (inner_is c.args.site.now (position_of c.within_scope-inside.result) c.args.out.now.next c.in_ok-scope.scope.chain c.in_ok-scope.scope.frames.items c.within_scope-inside.ensures c.in_ok-scope.ensures.chain c.in_ok-scope.ensures.frames) c.in_ok-scope.ensures.code c.in_ok-scope.ensures.next c.in_ok-scope.ensures.notes c.in_ok-scope.ensures.number c.in_ok-emit_keys.ensures c.in_ok-leave_scope.ensures

pub emit_for_in-returns-in_ok-emit_keys-2 : goal.emit_for_in-returns-in_ok-emit_keys-2
emit_for_in-returns-in_ok-emit_keys-2 t c = for_in_plain c.args.site.now c.args.each.now c.args.over.now c.args.body.now (λ w. c.each_declares.ensures (within (position_of c.args.site.now) w)) (sym c.may_enter.ensures ∙ c.if-may_enter.false) c.in_ok-emit_keys-2.ensures

pub emit_guarded-close_try-requires : goal.emit_guarded-close_try-requires
emit_guarded-close_try-requires t c = guarded_room c.args.out.now.notes.items _ (c.in_ok-number.ensures.notes c.args.site.now.exprs.texts.now) c.in_ok-number.ensures.number c.in_ok-emit_block.ensures

pub emit_guarded-returns : goal.emit_guarded-returns
emit_guarded-returns t c = guarded_row c.args.items.now c.in_ok-number.ensures.code (c.in_ok-number.ensures.notes c.args.site.now.exprs.texts.now) c.in_ok-number.ensures.next c.in_ok-emit_block.ensures c.in_ok-jump_to.ensures.jumps c.close_try.ensures.code c.close_try.ensures.notes c.in_ok-number.ensures.number c.close_try.ensures.next

pub emit_handler-returns-in_ok-emit_catch-in-Some : goal.emit_handler-returns-in_ok-emit_catch-in-Some
emit_handler-returns-in_ok-emit_catch-in-Some t c = subst (λ (o : Option Ident). HandlerWritten (position_of c.args.site.now) (state c.args.out.now c.args.waits.now.items) (state c.emit_catch.new.out c.emit_catch.new.waits.items) c.args.out.now.next c.emit_catch.new.out.next o c.args.items.now) (sym c.in-Some.is) c.in_ok-emit_catch-in-Some.ensures

pub emit_handler-returns-in_ok-emit_block-in-None : goal.emit_handler-returns-in_ok-emit_block-in-None
emit_handler-returns-in_ok-emit_block-in-None t c = handler_none c.args.site.now c.args.param c.args.items.now c.in-None.is (c.in_ok-dropped-in-None.ensures c.args.site.now.exprs.texts.now) c.in_ok-emit_block-in-None.ensures

pub emit_keys-target-requires : goal.emit_keys-target-requires
emit_keys-target-requires t c = subst (AllRoom (length c.emit_stmt.new.out.code)) (sym c.deref-2.ensures.value) (written_room (keys_turn c.framed_site-inside.result c.args.head c.args.each.now c.args.body.now (length c.args.site.now.frames.now) c.new-inner.ensures.items c.in_ok-keys_test.ensures c.in_ok-freshen_head.ensures (c.in_ok-plain-2.ensures c.framed_site-inside.result.exprs.texts.now) c.in_ok-store_each.ensures (c.in_ok-plain-3.ensures c.framed_site-inside.result.exprs.texts.now) c.in_ok-emit_stmt.ensures))

pub emit_keys-turn-requires-clause-start : goal.emit_keys-turn-requires-clause-start
emit_keys-turn-requires-clause-start t c = subst (λ (n : ℕ). n < length c.plain-4.new.out) (sym c.len-start.ensures) (tail_some (turn_some (length c.args.site.now.frames.now) (keys_turn c.framed_site-inside.result c.args.head c.args.each.now c.args.body.now (length c.args.site.now.frames.now) c.new-inner.ensures.items c.in_ok-keys_test.ensures c.in_ok-freshen_head.ensures (c.in_ok-plain-2.ensures c.framed_site-inside.result.exprs.texts.now) c.in_ok-store_each.ensures (c.in_ok-plain-3.ensures c.framed_site-inside.result.exprs.texts.now) c.in_ok-emit_stmt.ensures) (subst (λ (ws : List Wait). LandsHere (aim.Continue (length c.args.site.now.frames.now)) c.emit_stmt.new.out.code ws c.new-turned.result.items c.target.new.out c.target.new.waits.items) c.deref-2.ensures.value c.in_ok-target.ensures.lands)) (written_plain c.framed_site-inside.result c.target.new.waits.items c.emit_stmt.new.out.notes.items c.emit_stmt.new.out.next (expr.written_of (c.in_ok-plain-4.ensures c.framed_site-inside.result.exprs.texts.now))))

pub emit_keys-target-requires-2 : goal.emit_keys-target-requires-2
emit_keys-target-requires-2 t c = subst (AllRoom (length c.turn.new.out)) (sym c.deref-3.ensures.value) (written_room (written_turn op.Goto c.len-start.result c.in_ok-turn.ensures (sym c.len-start.ensures) (written_both (turn_landed (length c.args.site.now.frames.now) (keys_turn c.framed_site-inside.result c.args.head c.args.each.now c.args.body.now (length c.args.site.now.frames.now) c.new-inner.ensures.items c.in_ok-keys_test.ensures c.in_ok-freshen_head.ensures (c.in_ok-plain-2.ensures c.framed_site-inside.result.exprs.texts.now) c.in_ok-store_each.ensures (c.in_ok-plain-3.ensures c.framed_site-inside.result.exprs.texts.now) c.in_ok-emit_stmt.ensures) c.new-turned.ensures.items (subst (λ (ws : List Wait). LandsHere (aim.Continue (length c.args.site.now.frames.now)) c.emit_stmt.new.out.code ws c.new-turned.result.items c.target.new.out c.target.new.waits.items) c.deref-2.ensures.value c.in_ok-target.ensures.lands)) (written_plain c.framed_site-inside.result c.target.new.waits.items c.emit_stmt.new.out.notes.items c.emit_stmt.new.out.next (expr.written_of (c.in_ok-plain-4.ensures c.framed_site-inside.result.exprs.texts.now))))))

pub emit_keys-returns : goal.emit_keys-returns
emit_keys-returns t c = keys_row c.args.site.now c.framed_site-inside.result c.args.head c.args.each.now c.args.over.now c.args.body.now (length c.args.site.now.frames.now) (c.framed_site-inside.ensures ∙ ap (λ (fs : List Frame). framed (frames_in c.args.site.now.exprs.texts.now fs) (position_of c.args.site.now)) (c.deref.ensures.value ∙ c.in_ok-frames.ensures)) (sym (length-frames c.args.site.now.exprs.texts.now c.args.site.now.frames.now)) (sym c.len-start.ensures) c.in_ok-emit_expr.ensures (c.in_ok-plain.ensures c.args.site.now.exprs.texts.now) (turn_landed (length c.args.site.now.frames.now) (keys_turn c.framed_site-inside.result c.args.head c.args.each.now c.args.body.now (length c.args.site.now.frames.now) c.new-inner.ensures.items c.in_ok-keys_test.ensures c.in_ok-freshen_head.ensures (c.in_ok-plain-2.ensures c.framed_site-inside.result.exprs.texts.now) c.in_ok-store_each.ensures (c.in_ok-plain-3.ensures c.framed_site-inside.result.exprs.texts.now) c.in_ok-emit_stmt.ensures) c.new-turned.ensures.items (subst (λ (ws : List Wait). LandsHere (aim.Continue (length c.args.site.now.frames.now)) c.emit_stmt.new.out.code ws c.new-turned.result.items c.target.new.out c.target.new.waits.items) c.deref-2.ensures.value c.in_ok-target.ensures.lands)) (c.in_ok-plain-4.ensures c.framed_site-inside.result.exprs.texts.now) c.in_ok-turn.ensures (subst (λ (ws : List Wait). LandsHere (aim.Break (length c.args.site.now.frames.now)) c.turn.new.out ws c.args.waits.now.items c.target-2.new.out c.target-2.new.waits.items) c.deref-3.ensures.value c.in_ok-target-2.ensures.lands) (c.in_ok-plain-5.ensures c.args.site.now.exprs.texts.now)

pub emit_label-target-requires : goal.emit_label-target-requires
emit_label-target-requires t c = subst (AllRoom (length c.emit_stmt.new.out.code)) (sym c.deref-2.ensures.value) (written_room (written_from_none c.new-inner.ensures.items c.in_ok-emit_stmt.ensures.row.code))

pub emit_label-returns : goal.emit_label-returns
emit_label-returns t c = label_row c.args.site.now c.framed_site-inside.result c.args.name c.args.body.now (c.framed_site-inside.ensures ∙ ap (λ (fs : List Frame). framed (frames_in c.args.site.now.exprs.texts.now fs) (position_of c.args.site.now)) (c.deref.ensures.value ∙ c.in_ok-frames.ensures)) (sym (length-frames c.args.site.now.exprs.texts.now c.args.site.now.frames.now)) c.new-inner.ensures.items c.in_ok-emit_stmt.ensures (subst (λ (ws : List Wait). LandsHere (aim.Break (length c.args.site.now.frames.now)) c.emit_stmt.new.out.code ws c.args.waits.now.items c.target.new.out c.target.new.waits.items) c.deref-2.ensures.value c.in_ok-target.ensures.lands)

pub emit_stmts-loop-item-init : goal.emit_stmts-loop-item-init
emit_stmts-loop-item-init t c = list.stmts_begin _ _ _ _

pub emit_stmts-loop-item-preserved : goal.emit_stmts-loop-item-preserved
emit_stmts-loop-item-preserved t c = list.stmts_next _ _ c.item-item.result (next_of c.args.items.now c.loop-item.item-index c.item-item.result c.loop-item-test.true c.item-item.is) c.in_ok-emit_stmt.ensures c.loop-item.invariant

pub emit_stmts-returns : goal.emit_stmts-returns
emit_stmts-returns t c = list.stmts_end _ (drop_of_length-le c.args.items.now c.loop-item-test.false) c.loop-item.invariant

pub emit_switch-returns-in_ok-leave_scope : goal.emit_switch-returns-in_ok-leave_scope
emit_switch-returns-in_ok-leave_scope t c = switch_scoped c.args.site.now c.within_scope-inside.result c.args.of.now c.args.clauses.now c.in_ok-emit_expr.ensures (λ w. c.clauses_declare.ensures (within (position_of c.args.site.now) w)) (sym c.may_enter.ensures ∙ c.if-may_enter.true) (inner_is c.args.site.now (position_of c.within_scope-inside.result) c.args.out.now.next c.in_ok-scope.scope.chain c.in_ok-scope.scope.frames.items c.within_scope-inside.ensures c.in_ok-scope.ensures.chain c.in_ok-scope.ensures.frames) c.in_ok-scope.ensures.code c.in_ok-scope.ensures.next c.in_ok-scope.ensures.notes c.in_ok-clause_functions.ensures c.in_ok-emit_clauses.ensures c.in_ok-scope.ensures.number c.in_ok-leave_scope.ensures

pub emit_switch-returns-in_ok-emit_clauses-2 : goal.emit_switch-returns-in_ok-emit_clauses-2
emit_switch-returns-in_ok-emit_clauses-2 t c = switch_plain c.args.site.now c.args.of.now c.args.clauses.now c.in_ok-emit_expr.ensures (λ w. c.clauses_declare.ensures (within (position_of c.args.site.now) w)) (sym c.may_enter.ensures ∙ c.if-may_enter.false) c.in_ok-clause_functions-2.ensures c.in_ok-emit_clauses-2.ensures

pub emit_then-target-requires : goal.emit_then-target-requires
emit_then-target-requires t c = subst (AllRoom (length c.emit_stmt.new.out.code)) (sym c.deref.ensures.value) (written_room (then_turn c.args.site.now c.args.test.now c.args.body.now c.new-inner.ensures.items c.in_ok-emit_expr.ensures c.in_ok-jump_to.ensures.jumps c.in_ok-emit_stmt.ensures))

pub emit_then-returns : goal.emit_then-returns
emit_then-returns t c = then_row c.args.site.now c.args.test.now c.args.body.now (then_turn c.args.site.now c.args.test.now c.args.body.now c.new-inner.ensures.items c.in_ok-emit_expr.ensures c.in_ok-jump_to.ensures.jumps c.in_ok-emit_stmt.ensures) (subst (λ (ws : List Wait). LandsHere (aim.Otherwise) c.emit_stmt.new.out.code ws c.args.waits.now.items c.target.new.out c.target.new.waits.items) c.deref.ensures.value c.in_ok-target.ensures.lands)

pub emit_turns-target-requires : goal.emit_turns-target-requires
emit_turns-target-requires t c = subst (AllRoom (length c.emit_stmt.new.out.code)) (sym c.deref-2.ensures.value) (written_room (for_turn c.framed_site-inside.result c.args.test.now c.args.body.now (length c.args.site.now.frames.now) c.new-inner.ensures.items (c.in_ok-plain.ensures c.framed_site-inside.result.exprs.texts.now) c.in_ok-loop_test.ensures c.in_ok-emit_stmt.ensures))

pub emit_turns-turn-requires-clause-start : goal.emit_turns-turn-requires-clause-start
emit_turns-turn-requires-clause-start t c = subst (λ (n : ℕ). n < length c.update.new.out) (sym c.len-start.ensures) (tail_some (tail_some (turn_some (length c.args.site.now.frames.now) (for_turn c.framed_site-inside.result c.args.test.now c.args.body.now (length c.args.site.now.frames.now) c.new-inner.ensures.items (c.in_ok-plain.ensures c.framed_site-inside.result.exprs.texts.now) c.in_ok-loop_test.ensures c.in_ok-emit_stmt.ensures) (subst (λ (ws : List Wait). LandsHere (aim.Continue (length c.args.site.now.frames.now)) c.emit_stmt.new.out.code ws c.new-turned.result.items c.target.new.out c.target.new.waits.items) c.deref-2.ensures.value c.in_ok-target.ensures.lands)) (written_plain c.framed_site-inside.result c.target.new.waits.items c.emit_stmt.new.out.notes.items c.emit_stmt.new.out.next (expr.written_of c.in_ok-freshen_head.ensures))) (written_plain c.framed_site-inside.result c.target.new.waits.items c.emit_stmt.new.out.notes.items c.emit_stmt.new.out.next c.in_ok-update.ensures.made))

pub emit_turns-target-requires-2 : goal.emit_turns-target-requires-2
emit_turns-target-requires-2 t c = subst (AllRoom (length c.turn.new.out)) (sym c.deref-3.ensures.value) (written_room (written_turn op.Goto c.len-start.result c.in_ok-turn.ensures (sym c.len-start.ensures) (written_both (written_both (turn_landed (length c.args.site.now.frames.now) (for_turn c.framed_site-inside.result c.args.test.now c.args.body.now (length c.args.site.now.frames.now) c.new-inner.ensures.items (c.in_ok-plain.ensures c.framed_site-inside.result.exprs.texts.now) c.in_ok-loop_test.ensures c.in_ok-emit_stmt.ensures) c.new-turned.ensures.items (subst (λ (ws : List Wait). LandsHere (aim.Continue (length c.args.site.now.frames.now)) c.emit_stmt.new.out.code ws c.new-turned.result.items c.target.new.out c.target.new.waits.items) c.deref-2.ensures.value c.in_ok-target.ensures.lands)) (written_plain c.framed_site-inside.result c.target.new.waits.items c.emit_stmt.new.out.notes.items c.emit_stmt.new.out.next (expr.written_of c.in_ok-freshen_head.ensures))) (written_plain c.framed_site-inside.result c.target.new.waits.items c.emit_stmt.new.out.notes.items c.emit_stmt.new.out.next c.in_ok-update.ensures.made))))

pub emit_turns-returns : goal.emit_turns-returns
emit_turns-returns t c = for_turns c.args.site.now c.framed_site-inside.result c.args.head c.args.test.now c.args.step.now c.args.body.now (length c.args.site.now.frames.now) (c.framed_site-inside.ensures ∙ ap (λ (fs : List Frame). framed (frames_in c.args.site.now.exprs.texts.now fs) (position_of c.args.site.now)) (c.deref.ensures.value ∙ c.in_ok-frames.ensures)) (sym (length-frames c.args.site.now.exprs.texts.now c.args.site.now.frames.now)) (sym c.len-start.ensures) (turn_landed (length c.args.site.now.frames.now) (for_turn c.framed_site-inside.result c.args.test.now c.args.body.now (length c.args.site.now.frames.now) c.new-inner.ensures.items (c.in_ok-plain.ensures c.framed_site-inside.result.exprs.texts.now) c.in_ok-loop_test.ensures c.in_ok-emit_stmt.ensures) c.new-turned.ensures.items (subst (λ (ws : List Wait). LandsHere (aim.Continue (length c.args.site.now.frames.now)) c.emit_stmt.new.out.code ws c.new-turned.result.items c.target.new.out c.target.new.waits.items) c.deref-2.ensures.value c.in_ok-target.ensures.lands)) c.in_ok-freshen_head.ensures c.in_ok-update.ensures c.in_ok-turn.ensures (subst (λ (ws : List Wait). LandsHere (aim.Break (length c.args.site.now.frames.now)) c.turn.new.out ws c.args.waits.now.items c.target-2.new.out c.target-2.new.waits.items) c.deref-3.ensures.value c.in_ok-target-2.ensures.lands)

pub emit_while-target-requires : goal.emit_while-target-requires
emit_while-target-requires t c = subst (AllRoom (length c.emit_stmt.new.out.code)) (sym c.deref-2.ensures.value) (written_room (while_turn c.framed_site-inside.result c.args.test.now c.args.body.now (length c.args.site.now.frames.now) c.new-inner.ensures.items (c.in_ok-plain.ensures c.framed_site-inside.result.exprs.texts.now) c.in_ok-emit_expr.ensures c.in_ok-jump_to.ensures.jumps c.in_ok-emit_stmt.ensures))

pub emit_while-turn-requires-clause-start : goal.emit_while-turn-requires-clause-start
emit_while-turn-requires-clause-start t c = subst (λ (n : ℕ). n < length c.target.new.out) (sym c.len-start.ensures) (turn_some (length c.args.site.now.frames.now) (while_turn c.framed_site-inside.result c.args.test.now c.args.body.now (length c.args.site.now.frames.now) c.new-inner.ensures.items (c.in_ok-plain.ensures c.framed_site-inside.result.exprs.texts.now) c.in_ok-emit_expr.ensures c.in_ok-jump_to.ensures.jumps c.in_ok-emit_stmt.ensures) (subst (λ (ws : List Wait). LandsHere (aim.Continue (length c.args.site.now.frames.now)) c.emit_stmt.new.out.code ws c.new-turned.result.items c.target.new.out c.target.new.waits.items) c.deref-2.ensures.value c.in_ok-target.ensures.lands))

pub emit_while-target-requires-2 : goal.emit_while-target-requires-2
emit_while-target-requires-2 t c = subst (AllRoom (length c.turn.new.out)) (sym c.deref-3.ensures.value) (written_room (written_turn op.Goto c.len-start.result c.in_ok-turn.ensures (sym c.len-start.ensures) (turn_landed (length c.args.site.now.frames.now) (while_turn c.framed_site-inside.result c.args.test.now c.args.body.now (length c.args.site.now.frames.now) c.new-inner.ensures.items (c.in_ok-plain.ensures c.framed_site-inside.result.exprs.texts.now) c.in_ok-emit_expr.ensures c.in_ok-jump_to.ensures.jumps c.in_ok-emit_stmt.ensures) c.new-turned.ensures.items (subst (λ (ws : List Wait). LandsHere (aim.Continue (length c.args.site.now.frames.now)) c.emit_stmt.new.out.code ws c.new-turned.result.items c.target.new.out c.target.new.waits.items) c.deref-2.ensures.value c.in_ok-target.ensures.lands))))

pub emit_while-returns : goal.emit_while-returns
emit_while-returns t c = while_row c.args.site.now c.framed_site-inside.result c.args.test.now c.args.body.now (length c.args.site.now.frames.now) (c.framed_site-inside.ensures ∙ ap (λ (fs : List Frame). framed (frames_in c.args.site.now.exprs.texts.now fs) (position_of c.args.site.now)) (c.deref.ensures.value ∙ c.in_ok-frames.ensures)) (sym (length-frames c.args.site.now.exprs.texts.now c.args.site.now.frames.now)) (sym c.len-start.ensures) (turn_landed (length c.args.site.now.frames.now) (while_turn c.framed_site-inside.result c.args.test.now c.args.body.now (length c.args.site.now.frames.now) c.new-inner.ensures.items (c.in_ok-plain.ensures c.framed_site-inside.result.exprs.texts.now) c.in_ok-emit_expr.ensures c.in_ok-jump_to.ensures.jumps c.in_ok-emit_stmt.ensures) c.new-turned.ensures.items (subst (λ (ws : List Wait). LandsHere (aim.Continue (length c.args.site.now.frames.now)) c.emit_stmt.new.out.code ws c.new-turned.result.items c.target.new.out c.target.new.waits.items) c.deref-2.ensures.value c.in_ok-target.ensures.lands)) c.in_ok-turn.ensures (subst (λ (ws : List Wait). LandsHere (aim.Break (length c.args.site.now.frames.now)) c.turn.new.out ws c.args.waits.now.items c.target-2.new.out c.target-2.new.waits.items) c.deref-3.ensures.value c.in_ok-target-2.ensures.lands)

pub emit_stmt-returns-in_ok-emit_block-in-Block : goal.emit_stmt-returns-in_ok-emit_block-in-Block
emit_stmt-returns-in_ok-emit_block-in-Block t c = arm.at_block _ c.in-Block.items c.deref.result.now c.in-Block.is c.deref.ensures.value c.in_ok-emit_block-in-Block.ensures

pub emit_stmt-returns-in-Empty : goal.emit_stmt-returns-in-Empty
emit_stmt-returns-in-Empty t c = arm.at_empty _ c.in-Empty.is

pub emit_stmt-returns-in_ok-debugger_stmt-in-Debugger : goal.emit_stmt-returns-in_ok-debugger_stmt-in-Debugger
emit_stmt-returns-in_ok-debugger_stmt-in-Debugger t c = arm.at_debugger _ c.in-Debugger.semi c.in-Debugger.is (c.in_ok-debugger_stmt-in-Debugger.ensures c.args.waits.now.items c.in-Debugger.semi)

pub emit_stmt-returns-in_ok-binding_stmt-in-Binds : goal.emit_stmt-returns-in_ok-binding_stmt-in-Binds
emit_stmt-returns-in_ok-binding_stmt-in-Binds t c = arm.at_binds _ c.in-Binds.decl c.in-Binds.binds c.in-Binds.semi c.deref-in-Binds.result.now c.in-Binds.is c.deref-in-Binds.ensures.value (c.in_ok-binding_stmt-in-Binds.ensures c.args.waits.now.items c.in-Binds.semi)

pub emit_stmt-returns-in_ok-value_stmt-in-Value : goal.emit_stmt-returns-in_ok-value_stmt-in-Value
emit_stmt-returns-in_ok-value_stmt-in-Value t c = arm.at_value _ c.in-Value.value c.in-Value.semi c.in-Value.is (c.in_ok-value_stmt-in-Value.ensures c.args.waits.now.items c.in-Value.semi)

pub emit_stmt-returns-in_ok-emit_then-in-None : goal.emit_stmt-returns-in_ok-emit_then-in-None
emit_stmt-returns-in_ok-emit_then-in-None t c = arm.at_then _ c.in-If.boxed c.deref-statement.result.now c.in-If.is c.deref-statement.ensures c.in-None.is c.in_ok-emit_then-in-None.ensures

pub emit_stmt-returns-in_ok-emit_do-in-Do : goal.emit_stmt-returns-in_ok-emit_do-in-Do
emit_stmt-returns-in_ok-emit_do-in-Do t c = arm.at_do _ c.in-Do.body c.in-Do.test c.in-Do.semi c.deref-in-Do.result.now c.in-Do.is c.deref-in-Do.ensures (c.in_ok-emit_do-in-Do.ensures c.in-Do.semi)

pub emit_stmt-returns-in_ok-emit_while-in-While : goal.emit_stmt-returns-in_ok-emit_while-in-While
emit_stmt-returns-in_ok-emit_while-in-While t c = arm.at_while _ c.in-While.test c.in-While.body c.deref-in-While.result.now c.in-While.is c.deref-in-While.ensures c.in_ok-emit_while-in-While.ensures

pub emit_stmt-returns-in_ok-emit_for-in-For : goal.emit_stmt-returns-in_ok-emit_for-in-For
emit_stmt-returns-in_ok-emit_for-in-For t c = arm.at_for _ c.in-For.boxed c.deref-statement-in-For.result.now c.in-For.is c.deref-statement-in-For.ensures c.in_ok-emit_for-in-For.ensures

pub emit_stmt-returns-in_ok-emit_for_in-in-ForIn : goal.emit_stmt-returns-in_ok-emit_for_in-in-ForIn
emit_stmt-returns-in_ok-emit_for_in-in-ForIn t c = arm.at_for_in _ c.in-ForIn.boxed c.deref-statement-in-ForIn.result.now c.in-ForIn.is c.deref-statement-in-ForIn.ensures c.in_ok-emit_for_in-in-ForIn.ensures

pub emit_stmt-returns-in_ok-continue_stmt-in-Continue : goal.emit_stmt-returns-in_ok-continue_stmt-in-Continue
emit_stmt-returns-in_ok-continue_stmt-in-Continue t c = arm.at_continue _ c.in-Continue.at c.in-Continue.label c.in-Continue.semi c.in-Continue.is (c.in_ok-continue_stmt-in-Continue.ensures c.in-Continue.at c.in-Continue.semi)

pub emit_stmt-returns-in_ok-break_stmt-in-Break : goal.emit_stmt-returns-in_ok-break_stmt-in-Break
emit_stmt-returns-in_ok-break_stmt-in-Break t c = arm.at_break _ c.in-Break.at c.in-Break.label c.in-Break.semi c.in-Break.is (c.in_ok-break_stmt-in-Break.ensures c.in-Break.at c.in-Break.semi)

pub emit_stmt-returns-in_ok-return_stmt-in-Return : goal.emit_stmt-returns-in_ok-return_stmt-in-Return
emit_stmt-returns-in_ok-return_stmt-in-Return t c = arm.at_return _ c.in-Return.value c.in-Return.semi c.in-Return.is (c.in_ok-return_stmt-in-Return.ensures c.args.waits.now.items c.in-Return.semi)

pub emit_stmt-returns-in_ok-throw_stmt-in-Throw : goal.emit_stmt-returns-in_ok-throw_stmt-in-Throw
emit_stmt-returns-in_ok-throw_stmt-in-Throw t c = arm.at_throw _ c.in-Throw.value c.in-Throw.semi c.in-Throw.is (c.in_ok-throw_stmt-in-Throw.ensures c.args.waits.now.items c.in-Throw.semi)

pub emit_stmt-returns-in_ok-emit_switch-in-Switch : goal.emit_stmt-returns-in_ok-emit_switch-in-Switch
emit_stmt-returns-in_ok-emit_switch-in-Switch t c = arm.at_switch _ c.in-Switch.boxed c.deref-statement-in-Switch.result.now c.deref-in-Switch.result.now c.in-Switch.is c.deref-statement-in-Switch.ensures c.deref-in-Switch.ensures.value c.in_ok-emit_switch-in-Switch.ensures

pub emit_stmt-returns-in_ok-emit_label-in-Label : goal.emit_stmt-returns-in_ok-emit_label-in-Label
emit_stmt-returns-in_ok-emit_label-in-Label t c = arm.at_label _ c.in-Label.name c.in-Label.body c.deref-in-Label.result.now c.in-Label.is c.deref-in-Label.ensures c.in_ok-emit_label-in-Label.ensures

pub emit_stmt-returns-in-Func : goal.emit_stmt-returns-in-Func
emit_stmt-returns-in-Func t c = arm.at_func _ c.in-Func.field-0 c.in-Func.is

pub emit_stmt-target-requires : goal.emit_stmt-target-requires
emit_stmt-target-requires t c = subst (AllRoom (length c.emit_stmt.new.out.code)) (sym c.deref-in-Some.ensures.value) (written_room (written_from_none c.new-ends.ensures.items (written_both c.in_ok-emit_first-in-Some.ensures.code c.in_ok-emit_stmt-in-Some.ensures.row.code)))

pub emit_stmt-returns-in_ok-target-in-Some : goal.emit_stmt-returns-in_ok-target-in-Some
emit_stmt-returns-in_ok-target-in-Some t c = arm.at_choice _ c.in-If.boxed c.deref-statement.result.now c.in-Some.second c.deref-last.result.now c.in-If.is c.deref-statement.ensures c.in-Some.is c.deref-last.ensures (choice_row c.args.site.now c.deref-statement.result.now.test c.deref-statement.result.now.yes c.deref-last.result.now c.new-ends.ensures.items c.in_ok-emit_first-in-Some.ensures c.in_ok-emit_stmt-in-Some.ensures (subst (λ (ws : List Wait). LandsHere (aim.After) c.emit_stmt.new.out.code ws c.args.waits.now.items c.target.new.out c.target.new.waits.items) c.deref-in-Some.ensures.value c.in_ok-target-in-Some.ensures.lands))

pub emit_stmt-target-requires-in-Try : goal.emit_stmt-target-requires-in-Try
emit_stmt-target-requires-in-Try t c = subst (AllRoom (length c.emit_handler.new.out.code)) (sym c.deref-in-Try-3.ensures.value) (written_room (written_from_none c.new-ends-in-Try.ensures.items (written_both (written_both c.in_ok-emit_guarded-in-Try.ensures.code (written_plain c.args.site.now c.emit_guarded.new.waits.items c.emit_guarded.new.out.notes.items c.emit_guarded.new.out.next (expr.written_of (c.in_ok-plain-in-Try.ensures c.args.site.now.exprs.texts.now)))) c.in_ok-emit_handler-in-Try.ensures.code)))

pub emit_stmt-returns-in_ok-target-in-Try : goal.emit_stmt-returns-in_ok-target-in-Try
emit_stmt-returns-in_ok-target-in-Try t c = arm.at_try _ c.in-Try.boxed c.deref-statement-in-Try.result.now c.deref-in-Try.result.now c.deref-in-Try-2.result.now c.in-Try.is c.deref-statement-in-Try.ensures c.deref-in-Try.ensures.value c.deref-in-Try-2.ensures.value (try_row c.args.site.now c.deref-in-Try.result.now (out-TryStatement c.deref-statement-in-Try.result.now).param c.deref-in-Try-2.result.now c.new-ends-in-Try.ensures.items c.in_ok-emit_guarded-in-Try.ensures (c.in_ok-plain-in-Try.ensures c.args.site.now.exprs.texts.now) c.in_ok-emit_handler-in-Try.ensures (subst (λ (ws : List Wait). LandsHere (aim.After) c.emit_handler.new.out.code ws c.args.waits.now.items c.target-in-Try.new.out c.target-in-Try.new.waits.items) c.deref-in-Try-3.ensures.value c.in_ok-target-in-Try.ensures.lands))
