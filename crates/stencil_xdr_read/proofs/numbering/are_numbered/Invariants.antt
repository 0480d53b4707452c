use Rattle.std.proofs.Common.{◌≡◌, ◌≤◌, drop}
use Rattle.stencil_xdr_read.specs.Atoms.{seen_after}
use Rattle.stencil_xdr_read.proofs.numbering.are_numbered.Given as goal

abbrev pub invariant-loop-at : goal.invariant-loop-at
invariant-loop-at l = (seen_after 0 l.atoms ≡ seen_after l.seen (drop l._at l.atoms)) × (l.seen ≤ l._at)
