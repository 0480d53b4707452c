use Rattle.std.proofs.Common.{◌≡◌, take}
use Rattle.parser_atoms.specs.Places.{AreWithoutEquals}
use Rattle.stencil_xdr_read.proofs.numbering.are_apart.Given as goal

abbrev pub invariant-loop-number : goal.invariant-loop-number
invariant-loop-number l = (l.atoms ≡ take l.number l.texts) × AreWithoutEquals l.atoms
