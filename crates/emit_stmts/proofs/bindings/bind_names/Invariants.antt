use Rattle.std.proofs.Common.{drop}
use Rattle.emit_stmts.proofs.Values.{BindsLeft}
use Rattle.emit_stmts.proofs.bindings.bind_names.Given as goal

abbrev pub invariant-loop-bind : goal.invariant-loop-bind
invariant-loop-bind l = BindsLeft l.site l.initial.out l.out l.decl l.binds (drop l.bind-index l.binds)
