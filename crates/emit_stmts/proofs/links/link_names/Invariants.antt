use Rattle.std.proofs.Common.{◌≡◌, ◌++◌, drop}
use Rattle.stencil_data.specs.StandsFor.{named_bindings}
use Rattle.emit_stmts.proofs.links.link_names.Given as goal

abbrev pub invariant-loop-binding : goal.invariant-loop-binding
invariant-loop-binding l = l.names.items ++ named_bindings l.texts (drop l.binding-index l.bindings) ≡ named_bindings l.texts l.bindings
