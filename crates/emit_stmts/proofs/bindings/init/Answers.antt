use Rattle.emit_stmts.proofs.Values.{init_nothing, init_value, init_binds}
use Rattle.emit_stmts.proofs.bindings.init.Goals as goal

pub returns-in-Nothing : goal.returns-in-Nothing
returns-in-Nothing c = init_nothing c.args.site.now c.args.out.now _ c.in-Nothing.is

pub returns-in_ok-plain-in-Value : goal.returns-in_ok-plain-in-Value
returns-in_ok-plain-in-Value c = init_value _ c.in-Value.value c.in-Value.is c.in_ok-emit_expr-in-Value.ensures (c.in_ok-plain-in-Value.ensures c.args.site.now.texts.now)

pub returns-in_ok-bind_names-in-Binds : goal.returns-in_ok-bind_names-in-Binds
returns-in_ok-bind_names-in-Binds c = init_binds _ c.in-Binds.decl c.in-Binds.binds _ c.in-Binds.is c.deref.ensures.value c.in_ok-bind_names-in-Binds.ensures
