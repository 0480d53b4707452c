use Rattle.std.proofs.Common.{[], ◌∷◌, ◌++◌, ◌+◌, refl, sym, subst}
use Rattle.stencil_merge.specs.Atoms.{TakesIn}
use Rattle.stencil_merge.proofs.Interning.{Interned, interned_none, interned_next, interned_all, taken_so_far, room_for_one}
use Rattle.stencil_merge.proofs.atoms.intern_all.Goals as goal

pub loop-text-init : goal.loop-text-init
loop-text-init c = subst (Interned c.args.atoms.now [] c.args.atoms.now) (sym c.in_ok-numbers.ensures.items) (interned_none c.args.atoms.now c.requires.apart)

pub returns-in_err-numbers-clause-texts : goal.returns-in_err-numbers-clause-texts
returns-in_err-numbers-clause-texts c = taken_so_far c.args.atoms.now c.args.texts.now c.args.atoms.now [] 0 (interned_none c.args.atoms.now c.requires.apart)

pub intern_text-requires-clause-apart : goal.intern_text-requires-clause-apart
intern_text-requires-clause-apart c = c.loop-text.invariant.taken.apart

pub intern_text-requires-clause-few : goal.intern_text-requires-clause-few
intern_text-requires-clause-few c = room_for_one c.args.atoms.now c.args.texts.now c.loop-text.atoms c.loop-text.numbers.items c.loop-text.text-index c.loop-text-test.true c.requires.few c.loop-text.invariant

pub loop-text-preserved : goal.loop-text-preserved
loop-text-preserved c =
    interned_next c.args.atoms.now c.args.texts.now c.loop-text.atoms c.intern_text.new.atoms c.loop-text.numbers.items c.push.new.self.items c.loop-text.text-index c.text-item.result c.units.result.now c.in_ok-number.number
    c.loop-text-test.true c.text-item.is c.units.ensures c.loop-text.invariant c.in_ok-number.ensures.ok c.in_ok-number.ensures.apart c.in_ok-push.ensures.items

pub returns-clause-numbers : goal.returns-clause-numbers
returns-clause-numbers c = (interned_all c.args.atoms.now c.args.texts.now c.loop-text.atoms c.loop-text.numbers.items c.loop-text.text-index c.loop-text-test.false c.loop-text.invariant).numbers

pub returns-clause-texts : goal.returns-clause-texts
returns-clause-texts c = (interned_all c.args.atoms.now c.args.texts.now c.loop-text.atoms c.loop-text.numbers.items c.loop-text.text-index c.loop-text-test.false c.loop-text.invariant).taken

pub returns-clause-few : goal.returns-clause-few
returns-clause-few c = (interned_all c.args.atoms.now c.args.texts.now c.loop-text.atoms c.loop-text.numbers.items c.loop-text.text-index c.loop-text-test.false c.loop-text.invariant).few

pub returns-in_err-number-clause-texts : goal.returns-in_err-number-clause-texts
returns-in_err-number-clause-texts c =
    subst (TakesIn c.args.atoms.now c.args.texts.now) (sym c.in_err-number.ensures.err) (taken_so_far c.args.atoms.now c.args.texts.now c.loop-text.atoms c.loop-text.numbers.items c.loop-text.text-index c.loop-text.invariant)

pub returns-in_err-push-clause-texts : goal.returns-in_err-push-clause-texts
returns-in_err-push-clause-texts c =
    taken_so_far c.args.atoms.now c.args.texts.now c.intern_text.new.atoms (c.loop-text.numbers.items ++ c.in_ok-number.number ∷ []) (c.loop-text.text-index + 1)
    (interned_next c.args.atoms.now c.args.texts.now c.loop-text.atoms c.intern_text.new.atoms c.loop-text.numbers.items (c.loop-text.numbers.items ++ c.in_ok-number.number ∷ []) c.loop-text.text-index c.text-item.result c.units.result.now c.in_ok-number.number
    c.loop-text-test.true c.text-item.is c.units.ensures c.loop-text.invariant c.in_ok-number.ensures.ok c.in_ok-number.ensures.apart refl)
