use Rattle.std.proofs.Common.{ℕ, ◌<◌, List, sym, ◌∙◌, ap, subst, arith}
use Rattle.atomic_table.specs.Table.{Me}
use Rattle.atom_table.specs.declared.rule.Seen.{Seen}
use Rattle.atom_table.specs.ListView.{ListView}
use Rattle.atom_table.specs.DeskView.{TableName, DeskView}
use Rattle.atom_table.specs.Words.{Has, Coherent}
use Rattle.atom_table.proofs.Steps.{joins, look_allows, has_left, has_right}
use Rattle.atom_table.proofs.Probes.{still_gained, one_atom}
use Rattle.atom_table.proofs.atoms.AtomTable.meet.Goals as goal

pub join_seat-requires : goal.join_seat-requires
join_seat-requires c =
    let one = ap (λ (d : DeskView). d.table) c.one.view_is ∙ c.requires.one ∙ sym c.self.view_is in
    let two = ap (λ (d : DeskView). d.table) c.two.view_is ∙ c.requires.two ∙ sym c.self.view_is in (
      ap (λ (t : TableName). t.id) one,
      ap (λ (t : TableName). t.id) two,
      c.two.invariant.0,
      subst (λ n. 0 < n) (sym c.self.invariant.1) (omega arith),
      joins c.self.inside.table.shared.key c.one.inside.seat.id c.one.inside.seat.me.0 c.two.inside.seat.id c.two.inside.seat.me.0,
    )

pub load-first-requires : goal.load-first-requires
load-first-requires c =
    let one = ap (λ (d : DeskView). d.table) c.one.view_is ∙ c.requires.one ∙ sym c.self.view_is in
    let list = ap (λ (me : Me (Unit {0}) Seen). me.0.list) c.join_seat.ensures.2 ∙ ap (λ (t : TableName). t.list) one ∙ sym c.self.invariant.0 in (
      c.join_seat.ensures.0 ∙ ap (λ (t : TableName). t.id) one,
      subst (λ n. 0 < n) (sym c.self.invariant.1) (omega arith),
      look_allows c.self.inside.table.shared.key c.self.inside.table.shared.table_id.slots c.join_seat.new.seat.id c.join_seat.new.seat.me 0 list,
    )

pub returns-clause-still_one : goal.returns-clause-still_one
returns-clause-still_one c x h =
    let joined = ap (λ (me : Me (Unit {0}) Seen). me.0.words) c.join_seat.ensures.2 in
    still_gained 0 c.load-first.result c.join_seat.new.seat.me.0.words c.load-first.new.seat.me.0.words c.load-first.ensures.2.2 x
    (subst (λ (l : List (ℕ × ℕ)). Has l x) (sym joined) (has_left c.one.inside.seat.me.0.words c.two.inside.seat.me.0.words x (subst (λ (d : DeskView). Has d.seen x) (sym c.one.view_is) h)))

pub returns-clause-still_two : goal.returns-clause-still_two
returns-clause-still_two c x h =
    let joined = ap (λ (me : Me (Unit {0}) Seen). me.0.words) c.join_seat.ensures.2 in
    still_gained 0 c.load-first.result c.join_seat.new.seat.me.0.words c.load-first.new.seat.me.0.words c.load-first.ensures.2.2 x
    (subst (λ (l : List (ℕ × ℕ)). Has l x) (sym joined) (has_right c.one.inside.seat.me.0.words c.two.inside.seat.me.0.words x (subst (λ (d : DeskView). Has d.seen x) (sym c.two.view_is) h)))

pub returns-clause-one : goal.returns-clause-one
returns-clause-one c =
    let desk : DeskView = record { table = record { id = c.load-first.new.seat.table_id; list = c.load-first.new.seat.me.0.list }; seen = c.load-first.new.seat.me.0.words } in
    one_atom desk (subst (λ (t : ListView). Coherent t c.load-first.new.seat.me.0.words) (sym c.load-first.ensures.2.1) c.load-first.ensures.2.3)
