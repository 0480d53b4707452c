use Rattle.std.proofs.Common.{length, arith}
use Rattle.lazy_compile.proofs.OwnTexts.{atom_within, first_names, next_name, takes_few}
use Rattle.lazy_compile.proofs.own_texts.own_closed.Goals as goal

pub loop-name-init : goal.loop-name-init
loop-name-init c = first_names c.args.texts.now c.args.atoms.now c.in_ok-own.own.items c.in_ok-own.ensures.items c.requires.apart

pub own_atom-requires-clause-within : goal.own_atom-requires-clause-within
own_atom-requires-clause-within c = atom_within (length c.args.texts.now) c.args.closed.now c.loop-name.name-index c.requires.within c.loop-name-test.true

pub own_atom-requires-clause-few : goal.own_atom-requires-clause-few
own_atom-requires-clause-few c =
    let most = takes_few c.args.texts.now c.args.atoms.now c.loop-name.atoms c.loop-name.invariant.0 in
    let few = c.requires.few in
    omega (arith, most, few)

pub loop-name-preserved : goal.loop-name-preserved
loop-name-preserved c =
    next_name c.args.texts.now c.args.atoms.now c.loop-name.atoms c.own_atom.new.atoms c.args.closed.now c.loop-name.own.items c.push.new.self.items c.loop-name.name-index c.in_ok-atom.atom
    c.requires.within c.loop-name-test.true c.loop-name.invariant c.in_ok-atom.ensures.interned c.in_ok-atom.ensures.apart c.in_ok-push.ensures.items
