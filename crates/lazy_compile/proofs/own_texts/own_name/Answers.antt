use Rattle.std.proofs.Common.{Option, Some, ℕ, sym, subst}
use Rattle.lazy_compile.specs.OwnTexts.{IsOwnName}
use Rattle.stencil_data.specs.StandsFor.{NameWithin}
use Rattle.lazy_compile.proofs.OwnTexts.{one_name, takes_none, takes_one}
use Rattle.std.proofs.Common.{length}
use Rattle.lazy_compile.proofs.own_texts.own_name.Goals as goal

pub returns-in-None-clause-taken : goal.returns-in-None-clause-taken
returns-in-None-clause-taken c = takes_none c.args.texts.now c.args.atoms.now c.requires.apart

pub returns-in_ok-own_atom-in-Some-clause-name : goal.returns-in_ok-own_atom-in-Some-clause-name
returns-in_ok-own_atom-in-Some-clause-name c =
    subst (λ (o : Option ℕ). IsOwnName c.args.texts.now c.own_atom.new.atoms o (Some c.in_ok-own_atom-in-Some.field-0)) (sym c.in-Some.is)
    (one_name c.args.texts.now c.args.atoms.now c.own_atom.new.atoms c.in-Some.atom c.in_ok-own_atom-in-Some.field-0 c.in_ok-own_atom-in-Some.ensures.interned)

pub returns-in_ok-own_atom-in-Some-clause-taken : goal.returns-in_ok-own_atom-in-Some-clause-taken
returns-in_ok-own_atom-in-Some-clause-taken c =
    takes_one c.args.texts.now c.args.atoms.now c.own_atom.new.atoms c.in-Some.atom c.in_ok-own_atom-in-Some.field-0
    (subst (NameWithin (length c.args.texts.now)) c.in-Some.is c.requires.within) c.in_ok-own_atom-in-Some.ensures.interned c.in_ok-own_atom-in-Some.ensures.apart
