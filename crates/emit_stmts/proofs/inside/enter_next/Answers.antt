use Rattle.std.proofs.Common.{ℕ, subst}
use Rattle.bytecode_buf.proofs.AppendLemmas.{emits_both}
use Rattle.emit_exprs.specs.Sites.{EmitsAt}
use Rattle.emit_stmts.specs.Scoping.{scope_in}
use Rattle.emit_stmts.specs.Stmts.{hiding, hidden_slots}
use Rattle.emit_stmts.proofs.inside.enter_next.Goals as goal

pub returns-clause-code : goal.returns-clause-code
returns-clause-code c = λ w. emits_both c.in_ok-scope.ensures.code (subst (λ (n : ℕ). EmitsAt c.args.site.now.exprs c.push_next.new.out.code c.hide_scope.new.out (hiding (hidden_slots (scope_in c.args.site.now n).bindings))) c.in_ok-scope.ensures.number c.in_ok-hide_scope.ensures)
