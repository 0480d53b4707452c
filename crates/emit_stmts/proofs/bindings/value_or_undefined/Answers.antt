use Rattle.std.proofs.Common.{Option, subst, sym}
use Rattle.script_grammar.specs.declared.tree.Expr.{Expr}
use Rattle.emit_stmts.specs.Stmts.{value_or_undefined}
use Rattle.emit_stmts.specs.ValueCode.{ValueEmits}
use Rattle.emit_stmts.proofs.Values.{value_some, value_none}
use Rattle.emit_stmts.proofs.bindings.value_or_undefined.Goals as goal

pub returns-in_ok-emit_expr-in-Some : goal.returns-in_ok-emit_expr-in-Some
returns-in_ok-emit_expr-in-Some c = subst (λ (v : Option Expr). ValueEmits c.args.site.now c.args.out.now c.emit_expr.new.out v value_or_undefined) (sym c.in-Some.is) (value_some c.in_ok-emit_expr-in-Some.ensures)

pub returns-in_ok-plain-in-None : goal.returns-in_ok-plain-in-None
returns-in_ok-plain-in-None c = subst (λ (v : Option Expr). ValueEmits c.args.site.now c.args.out.now c.plain.new.out v value_or_undefined) (sym c.in-None.is) (value_none (c.in_ok-plain-in-None.ensures c.args.site.now.texts.now))
