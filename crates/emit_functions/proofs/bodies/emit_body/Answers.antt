use Rattle.emit_functions.proofs.BodyRows.{body_braced, body_short, body_passed}
use Rattle.emit_stmts.specs.Positions.{position_of, state}
use Rattle.emit_functions.proofs.bodies.emit_body.Goals as goal

pub returns-in_ok-braced_body-in-Braced : goal.returns-in_ok-braced_body-in-Braced
returns-in_ok-braced_body-in-Braced c = body_braced c.args.body.now c.in-Braced.items c.deref.result.now c.in-Braced.is c.deref.ensures.value c.in_ok-braced_body-in-Braced.ensures

pub returns-in_ok-plain-in-Short : goal.returns-in_ok-plain-in-Short
returns-in_ok-plain-in-Short c = body_short c.args.site.now c.args.params.now c.args.body.now c.in-Short.value _ c.args.waits.now.items c.args.out.now.notes.items c.in-Short.is c.deref-in-Short.ensures c.in_ok-emit_expr-in-Short.ensures (c.in_ok-plain-in-Short.ensures c.args.site.now.exprs.texts.now)

pub returns-in-Passed : goal.returns-in-Passed
returns-in-Passed c = body_passed (position_of c.args.site.now) (state c.args.out.now c.args.waits.now.items) c.args.out.now.next c.args.params.now c.args.body.now c.in-Passed.is
