use Rattle.std.proofs.Common.{ℕ, List, drop}
use Rattle.stencil_data.specs.LinkView.{LinkView}
use Rattle.emit_functions.specs.CopyCode.{Passes}
use Rattle.emit_functions.proofs.CopyRows.{CopiesLeft}
use Rattle.emit_functions.proofs.copies.copies.Given as goal

abbrev pub invariant-loop-binding : goal.invariant-loop-binding
invariant-loop-binding l = (hops : ℕ) (outer : List LinkView) → Passes l.passing hops outer → CopiesLeft l.inside hops outer l.initial.out l.out l.params l.bindings (drop l.binding-index l.bindings)
