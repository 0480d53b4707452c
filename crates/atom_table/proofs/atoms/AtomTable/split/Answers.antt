use Rattle.std.proofs.Common.{◌<◌, sym, ◌∙◌, ap, subst, arith}
use Rattle.atom_table.specs.DeskView.{TableName, DeskView}
use Rattle.atom_table.proofs.Steps.{splits}
use Rattle.atom_table.proofs.atoms.AtomTable.split.Goals as goal

pub split_seat-seat-requires : goal.split_seat-seat-requires
split_seat-seat-requires c =
    let belongs = ap (λ (d : DeskView). d.table) c.desk.view_is ∙ c.requires ∙ sym c.self.view_is in (
      ap (λ (t : TableName). t.id) belongs,
      subst (λ n. 0 < n) (sym c.self.invariant.1) (omega arith),
      splits c.self.inside.table.shared.key c.desk.inside.seat.id c.desk.inside.seat.me.0,
    )
