use Rattle.atom_table.proofs.Probes.{one_atom}
use Rattle.atom_table.proofs.atoms.AtomTable.text_no.Goals as goal

pub returns-clause-one : goal.returns-clause-one
returns-clause-one c = one_atom c.look-word.new.desk c.look-word.ensures.coherent
