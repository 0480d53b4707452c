use Rattle.std.proofs.Common.{Option, subst, sym}
use Rattle.script_grammar.specs.declared.tree.Expr.{Expr}
use Rattle.emit_stmts.specs.ValueCode.{ValueEmits, var_of, named_in}
use Rattle.emit_stmts.proofs.Values.{var_some, var_none}
use Rattle.emit_stmts.proofs.bindings.bind_var.Goals as goal

pub returns-in_ok-plain-in-Some : goal.returns-in_ok-plain-in-Some
returns-in_ok-plain-in-Some c = subst (λ (v : Option Expr). ValueEmits c.args.site.now c.args.out.now c.plain.new.out v (var_of (named_in c.args.site.now c.args.name))) (sym c.in-Some.is) (var_some c.args.name c.in_ok-basing-in-Some.ensures c.in_ok-emit_expr-in-Some.ensures c.in_ok-writing-in-Some.ensures (c.in_ok-plain-in-Some.ensures c.args.site.now.texts.now))

pub returns-in-None : goal.returns-in-None
returns-in-None c = subst (λ (v : Option Expr). ValueEmits c.args.site.now c.args.out.now c.args.out.now v (var_of (named_in c.args.site.now c.args.name))) (sym c.in-None.is) (var_none c.args.site.now c.args.out.now c.args.name)
