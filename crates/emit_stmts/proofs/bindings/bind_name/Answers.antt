use Rattle.std.proofs.Common.{subst, sym}
use Rattle.script_grammar.specs.declared.token.Decl.{Decl}
use Rattle.emit_stmts.specs.ValueCode.{ValueEmits, bind_of_decl, named_in}
use Rattle.emit_stmts.proofs.bindings.bind_name.Goals as goal

pub returns-in_ok-bind_var-in-Var : goal.returns-in_ok-bind_var-in-Var
returns-in_ok-bind_var-in-Var c = subst (λ (d : Decl). ValueEmits c.args.site.now c.args.out.now c.bind_var.new.out c.args.value.now (bind_of_decl d (named_in c.args.site.now c.args.name))) (sym c.in-Var.is) c.in_ok-bind_var-in-Var.ensures

pub returns-in_ok-bind_lexical-in-Let : goal.returns-in_ok-bind_lexical-in-Let
returns-in_ok-bind_lexical-in-Let c = subst (λ (d : Decl). ValueEmits c.args.site.now c.args.out.now c.bind_lexical.new.out c.args.value.now (bind_of_decl d (named_in c.args.site.now c.args.name))) (sym c.in-Let.is) c.in_ok-bind_lexical-in-Let.ensures

pub returns-in_ok-bind_lexical-in-Const : goal.returns-in_ok-bind_lexical-in-Const
returns-in_ok-bind_lexical-in-Const c = subst (λ (d : Decl). ValueEmits c.args.site.now c.args.out.now c.bind_lexical-in-Const.new.out c.args.value.now (bind_of_decl d (named_in c.args.site.now c.args.name))) (sym c.in-Const.is) c.in_ok-bind_lexical-in-Const.ensures
