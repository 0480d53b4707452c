use Rattle.std.proofs.Common.{◌≢◌, ℕ, ◌+◌, ◌≤◌, List, [], length, slice_index_or, sym, ◌∙◌, ap, subst}
use mathlib.Core.Bool.{true≢false}
use Rattle.std.specs.Cmp.Lexicographic.{bytes_decides}
use Rattle.atom_table.specs.DeskView.{TableName}
use Rattle.atom_table.specs.Words.{named, Passed, Coherent}
use Rattle.atom_table.proofs.Probes.{has_first, passed_more, still_more, crowded, sees_text, one_atom}
use Rattle.atom_table.proofs.atoms.AtomTable.intern.Goals as goal

pub settle-word-requires-clause-passed : goal.settle-word-requires-clause-passed
settle-word-requires-clause-passed c =
    let text = c.text-text.ensures ∙ ap (λ (t : TableName). slice_index_or t.list.texts c.args.number []) c.self.view_is in
    subst (λ (t : List ℕ). Passed c.loop-place.desk.seen c.args.self.now.list t c.loop-place.place) text c.loop-place.invariant.passed

pub named-requires-clause-some : goal.named-requires-clause-some
named-requires-clause-some c =
    (c.settle-word.ensures.coherent.range (c.loop-place.place, c.settle-word.result) (has_first (c.loop-place.place, c.settle-word.result) c.loop-place.desk.seen c.settle-word.new.desk.seen c.settle-word.ensures.seen)).1

pub named-requires-clause-range : goal.named-requires-clause-range
named-requires-clause-range c =
    let table = c.settle-word.ensures.table ∙ c.loop-place.invariant.table ∙ c.requires.belongs ∙ sym c.self.view_is in
    subst (λ (t : TableName). c.settle-word.result ≤ length t.list.texts) table
    ((c.settle-word.ensures.coherent.range (c.loop-place.place, c.settle-word.result) (has_first (c.loop-place.place, c.settle-word.result) c.loop-place.desk.seen c.settle-word.new.desk.seen c.settle-word.ensures.seen)).2)

pub returns-then-eq-clause-seen : goal.returns-then-eq-clause-seen
returns-then-eq-clause-seen c =
    let table = c.settle-word.ensures.table ∙ c.loop-place.invariant.table ∙ c.requires.belongs ∙ sym c.self.view_is in
    let equal = (bytes_decides c.named.result.now c.text-text.result.now).0 (sym c.eq.ensures ∙ c.if-eq.true) in
    let text = c.text-text.ensures ∙ ap (λ (t : TableName). slice_index_or t.list.texts c.args.number []) c.self.view_is in
    sees_text c.settle-word.new.desk (record { place = c.loop-place.place }) c.settle-word.result (slice_index_or c.args.self.now.list.texts c.args.number []) c.settle-word.ensures.coherent
    (has_first (c.loop-place.place, c.settle-word.result) c.loop-place.desk.seen c.settle-word.new.desk.seen c.settle-word.ensures.seen)
    (ap (λ (t : TableName). named t.list c.settle-word.result) table ∙ sym c.named.ensures ∙ equal ∙ text)

pub returns-then-eq-clause-one : goal.returns-then-eq-clause-one
returns-then-eq-clause-one c = one_atom c.settle-word.new.desk c.settle-word.ensures.coherent

pub loop-place-preserved : goal.loop-place-preserved
loop-place-preserved c =
    let other : named c.args.self.now.list c.settle-word.result ≢ c.text-text.result.now = λ e.
    let same = (bytes_decides c.named.result.now c.text-text.result.now).1 (c.named.ensures ∙ ap (λ (t : TableName). named t.list c.settle-word.result) c.self.view_is ∙ e) in
    true≢false (sym same ∙ sym c.eq.ensures ∙ c.if-eq.false) in
    record {
      table = c.settle-word.ensures.table ∙ c.loop-place.invariant.table;
      still = λ x h. still_more (c.loop-place.place, c.settle-word.result) c.loop-place.desk.seen c.settle-word.new.desk.seen c.settle-word.ensures.seen x (c.loop-place.invariant.still x h);
      passed = passed_more c.loop-place.desk.seen c.settle-word.new.desk.seen c.args.self.now.list c.text-text.result.now c.loop-place.place c.settle-word.result c.settle-word.ensures.seen other c.loop-place.invariant.passed;
    }

pub unreachable-requires : goal.unreachable-requires
unreachable-requires c =
    let view = c.self.view_is in
    let table = c.loop-place.invariant.table ∙ c.requires.belongs ∙ sym view in
    crowded c.self.inside.list c.text-text.result.now c.loop-place.desk.seen c.loop-place.place
    (subst (λ (t : TableName). Coherent t.list c.loop-place.desk.seen) table c.coherent.ensures)
    (subst (λ home. home + length c.self.inside.list.texts + 1 ≤ c.loop-place.place) c.home-home.ensures (subst (λ count. c.home-home.result + count + 1 ≤ c.loop-place.place) c.count.ensures.count c.loop-place-test.false))
    (subst (λ (t : TableName). Passed c.loop-place.desk.seen t.list c.text-text.result.now c.loop-place.place) (sym view) c.loop-place.invariant.passed)
