use Rattle.atom_table.proofs.Probes.{Probing}
use Rattle.atom_table.proofs.atoms.AtomTable.intern.Given as goal

abbrev pub invariant-loop-place : goal.invariant-loop-place
invariant-loop-place l = Probing l.fn.desk l.desk l.self.list l.text l.place
