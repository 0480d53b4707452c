use Rattle.std.proofs.Common.{List, sym, subst}
use Rattle.atom_table.specs.declared.atoms.Atom.{Atom}
use Rattle.stencil_instance.specs.Instances.{InstanceView, AreSeen, IsInstanceBy}
use Rattle.stencil_instance.proofs.Seen.{had_back}
use Rattle.stencil_instance.proofs.instance.Instance.into_stencil.Goals as goal

pub returns-clause-stencil : goal.returns-clause-stencil
returns-clause-stencil c given h =
    let instance : InstanceView = record { atoms = c.self.inside.atoms.items; top = c.self.inside.top; records = c.self.inside.records.items; entries = c.self.inside.entries.items } in
    had_back c.args.desk.now c.texts_of.new.desk instance c.in_ok-texts.texts.items given c.in_ok-texts.ensures.table c.in_ok-texts.ensures.still c.one_atom_each.ensures
    (subst (λ (atoms : List Atom). AreSeen c.texts_of.new.desk atoms c.in_ok-texts.texts.items) c.deref.ensures.value c.in_ok-texts.ensures.texts)
    (subst (λ (i : InstanceView). IsInstanceBy c.args.desk.now i given) (sym c.self.view_is) h)
