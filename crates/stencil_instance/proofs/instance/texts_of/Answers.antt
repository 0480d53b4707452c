use Rattle.std.proofs.Common.{◌+◌, List, ℕ, [], slice_index_or, sym, ◌∙◌, ap, subst}
use Rattle.atom_table.specs.declared.atoms.Atom.{Atom}
use Rattle.atom_table.specs.ListView.{ListView}
use Rattle.atom_table.specs.Views.{SeesText}
use Rattle.stencil_instance.proofs.Seen.{seen_at, read_next}
use Rattle.stencil_instance.proofs.instance.texts_of.Goals as goal

pub text_no-number-requires-clause-seen : goal.text_no-number-requires-clause-seen
text_no-number-requires-clause-seen c =
    let atom : Atom = slice_index_or c.args.atoms.now c.loop-atom.atom-index (record { place = 0 }) in
    let seen = seen_at c.args.desk.now c.args.atoms.now c.requires.seen.0 c.loop-atom.atom-index (record { place = 0 }) c.requires.seen.1 c.loop-atom-test.true in
    (seen.0, c.loop-atom.invariant.still (atom.place, seen.0 + 1) seen.1)

pub loop-atom-preserved : goal.loop-atom-preserved
loop-atom-preserved c =
    let atom : Atom = slice_index_or c.args.atoms.now c.loop-atom.atom-index (record { place = 0 }) in
    let same = c.in_ok-copy.ensures ∙ (c.text.ensures ∙ ap (λ (list : ListView). slice_index_or list.texts c.text_no-number.result []) c.list.ensures) in
    read_next c.args.desk.now c.loop-atom.desk c.text_no-number.new.desk c.args.atoms.now c.loop-atom.texts.items c.push.new.self.items c.loop-atom.atom-index (record { place = 0 }) c.in_ok-copy.field-0
    c.loop-atom-test.true c.in_ok-push.ensures.items c.text_no-number.ensures.table c.text_no-number.ensures.still
    (subst (λ (text : List ℕ). SeesText c.loop-atom.desk atom text) (sym same) c.text_no-number.ensures.text) c.loop-atom.invariant
