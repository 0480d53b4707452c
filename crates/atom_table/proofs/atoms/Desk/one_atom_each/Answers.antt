use Rattle.atom_table.proofs.Probes.{one_atom}
use Rattle.atom_table.proofs.atoms.Desk.one_atom_each.Goals as goal

pub returns : goal.returns
returns c = one_atom c.args.self.now c.coherent.ensures
