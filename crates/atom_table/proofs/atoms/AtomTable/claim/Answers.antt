use Rattle.std.proofs.Common.{◌<◌, ◌≤◌, [], length, slice_index_or, sym, ◌∙◌, ap, subst}
use Rattle.atom_table.specs.ListView.{ListView}
use Rattle.atom_table.specs.DeskView.{TableName, DeskView}
use Rattle.atom_table.specs.Words.{places, home_of, Passed}
use Rattle.atom_table.proofs.Steps.{claim_allows}
use Rattle.atom_table.proofs.atoms.AtomTable.claim.Goals as goal

pub compare_exchange-found-requires : goal.compare_exchange-found-requires
compare_exchange-found-requires c =
    let belongs = ap (λ (d : DeskView). d.table) c.desk.view_is ∙ c.requires.belongs ∙ sym c.self.view_is in
    let list = ap (λ (t : TableName). t.list) c.self.view_is in
    let key = sym (c.self.invariant.0 ∙ list) in (
      ap (λ (t : TableName). t.id) belongs,
      subst (λ n. c.args.place < n) (sym c.self.invariant.1) (subst (λ t. c.args.place < places t) (sym list) c.requires.place),
      claim_allows c.self.inside.table.shared.key c.self.inside.table.shared.table_id.slots c.desk.inside.seat.id c.desk.inside.seat.me c.args.place c.args.number (ap (λ (t : TableName). t.list) belongs ∙ sym c.self.invariant.0)
          (subst (λ (t : ListView). c.args.number < length t.texts) key c.requires.number)
          (subst (λ t. c.args.place < places t) key c.requires.place)
          (subst (λ t. home_of t (slice_index_or t.texts c.args.number []) ≤ c.args.place) key c.requires.home)
          (subst (λ t. Passed c.desk.inside.seat.me.0.words t (slice_index_or t.texts c.args.number []) c.args.place) key
          (subst (λ (d : DeskView). Passed d.seen c.args.self.now.list (slice_index_or c.args.self.now.list.texts c.args.number []) c.args.place) (sym c.desk.view_is) c.requires.passed)),
    )
