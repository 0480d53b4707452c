use Rattle.std.proofs.Common.{Option, subst, sym}
use Rattle.script_grammar.specs.declared.tree.Expr.{Expr}
use Rattle.emit_stmts.specs.Stmts.{update_code}
use Rattle.emit_stmts.specs.ValueCode.{ValueEmits}
use Rattle.emit_stmts.proofs.Values.{update_some, update_none}
use Rattle.emit_stmts.proofs.bindings.update.Goals as goal

pub returns-in_ok-plain-in-Some : goal.returns-in_ok-plain-in-Some
returns-in_ok-plain-in-Some c = subst (λ (v : Option Expr). ValueEmits c.args.site.now c.args.out.now c.plain.new.out v update_code) (sym c.in-Some.is) (update_some c.in_ok-emit_expr-in-Some.ensures (c.in_ok-plain-in-Some.ensures c.args.site.now.texts.now))

pub returns-in-None : goal.returns-in-None
returns-in-None c = subst (λ (v : Option Expr). ValueEmits c.args.site.now c.args.out.now c.args.out.now v update_code) (sym c.in-None.is) (update_none c.args.site.now c.args.out.now)
