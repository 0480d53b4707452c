use Rattle.std.proofs.Common.{◌≡◌, ℕ, List, ◌++◌, drop}
use Rattle.stencil_data.specs.StandsFor.{named_bindings}
use Rattle.emit_stmts.specs.Stmts.{hidden_slots}
use Rattle.emit_stmts.proofs.entering.hidden_slots.Given as goal

abbrev pub invariant-loop-binding : goal.invariant-loop-binding
invariant-loop-binding l = (texts : List (List ℕ)) → l.slots.items ++ hidden_slots (named_bindings texts (drop l.binding-index l.bindings)) ≡ hidden_slots (named_bindings texts l.bindings)
