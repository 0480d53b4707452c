use Rattle.stencil_xdr_read.proofs.Steps.{ReadsItems}
use Rattle.stencil_xdr_read.proofs.list.read_items.Given as goal

abbrev pub invariant-loop : goal.invariant-loop
invariant-loop g l = ReadsItems g.P.Part.bytes g.P.Part.fits l.initial.reader l.reader l.items.items l.counter
