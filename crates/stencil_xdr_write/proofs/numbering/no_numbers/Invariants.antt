use Rattle.stencil_xdr_write.proofs.Naming.{Emptied}
use Rattle.stencil_xdr_write.proofs.numbering.no_numbers.Given as goal

abbrev pub invariant-loop-text : goal.invariant-loop-text
invariant-loop-text l = Emptied l.texts l.table.items l.text-index
