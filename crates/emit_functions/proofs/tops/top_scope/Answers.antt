use Rattle.std.proofs.Common.{sym, ◌∙◌}
use Rattle.emit_stmts.specs.Positions.{position_of, within}
use Rattle.emit_stmts.proofs.Scoped.{inner_is}
use Rattle.emit_functions.proofs.TopRows.{top_scoped, top_plain}
use Rattle.emit_functions.proofs.tops.top_scope.Goals as goal

pub returns-in_ok-leave_scope : goal.returns-in_ok-leave_scope
returns-in_ok-leave_scope c = top_scoped c.args.site.now c.within_scope-inside.result c.args.items.now (λ w. c.top_declares.ensures (within (position_of c.args.site.now) w)) (sym c.may_enter.ensures ∙ c.if-may_enter.true) (inner_is c.args.site.now (position_of c.within_scope-inside.result) c.args.out.now.next c.in_ok-scope.scope.chain c.in_ok-scope.scope.frames.items c.within_scope-inside.ensures c.in_ok-scope.ensures.chain c.in_ok-scope.ensures.frames) c.in_ok-scope.ensures.code c.in_ok-scope.ensures.next c.in_ok-scope.ensures.notes c.in_ok-top_functions.ensures c.in_ok-emit_stmts.ensures c.in_ok-scope.ensures.number c.in_ok-leave_scope.ensures

pub returns-in_ok-emit_stmts-2 : goal.returns-in_ok-emit_stmts-2
returns-in_ok-emit_stmts-2 c = top_plain c.args.site.now c.args.items.now (λ w. c.top_declares.ensures (within (position_of c.args.site.now) w)) (sym c.may_enter.ensures ∙ c.if-may_enter.false) c.in_ok-top_functions-2.ensures c.in_ok-emit_stmts-2.ensures
