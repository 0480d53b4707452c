use Rattle.std.proofs.Common.{◌<◌, sym, ◌∙◌, ap, subst}
use Rattle.atom_table.specs.DeskView.{TableName, DeskView}
use Rattle.atom_table.specs.Words.{places}
use Rattle.atom_table.proofs.Steps.{look_allows}
use Rattle.atom_table.proofs.atoms.AtomTable.look.Goals as goal

pub load-requires : goal.load-requires
load-requires c =
    let belongs = ap (λ (d : DeskView). d.table) c.desk.view_is ∙ c.requires.belongs ∙ sym c.self.view_is in
    let list = ap (λ (t : TableName). t.list) c.self.view_is in (
      ap (λ (t : TableName). t.id) belongs,
      subst (λ n. c.args.place < n) (sym c.self.invariant.1) (subst (λ t. c.args.place < places t) (sym list) c.requires.place),
      look_allows c.self.inside.table.shared.key c.self.inside.table.shared.table_id.slots c.desk.inside.seat.id c.desk.inside.seat.me c.args.place (ap (λ (t : TableName). t.list) belongs ∙ sym c.self.invariant.0),
    )
