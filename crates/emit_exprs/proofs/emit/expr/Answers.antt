use Rattle.std.proofs.Common.{refl}
use Rattle.emit_exprs.proofs.Writing.{expr_under}
use Rattle.emit_exprs.proofs.emit.expr.Goals as goal

pub returns-clause-code : goal.returns-clause-code
returns-clause-code c = expr_under _ _ _ _ refl c.deref-2.ensures.value c.deref.ensures.value c.in_ok-emit_expr.ensures
