use Rattle.std.proofs.Common.{[], sym, subst}
use Rattle.std.proofs.lemmas.Result.{on_ok_weaker, on_err_weaker}
use Rattle.stencil_merge.specs.Atoms.{AreAtoms, TakesIn}
use Rattle.stencil_merge.specs.Merging.{Keeps, SameParts}
use Rattle.stencil_merge.proofs.Interning.{takes_among, takes_none}
use Rattle.stencil_merge.proofs.Mergers.{adds_after, adds_already, lacks_still, number_still}
use Rattle.stencil_merge.proofs.merger.Merger.add.Goals as goal

pub returns-then-has_function-clause-adds : goal.returns-then-has_function-clause-adds
returns-then-has_function-clause-adds c = adds_already c.args.self.now c.args.number c.args.stencil.now c.args.texts.now (c.has_function.ensures.is.0 c.if-has_function.true)

pub put-requires-clause-function : goal.put-requires-clause-function
put-requires-clause-function c = number_still c.args.self.now c.intern.new.self c.args.number c.in_ok-atoms.ensures.parts c.requires.function

pub put-requires-clause-lacking : goal.put-requires-clause-lacking
put-requires-clause-lacking c = lacks_still c.args.self.now c.intern.new.self c.args.number c.has_function.result c.if-has_function.false c.has_function.ensures.is c.in_ok-atoms.ensures.parts

pub put-requires-clause-atoms : goal.put-requires-clause-atoms
put-requires-clause-atoms c = (c.args.texts.now, (subst (AreAtoms c.args.texts.now c.intern.new.self.texts) (sym c.deref.ensures.value) c.in_ok-atoms.ensures.atoms))

pub returns-clause-adds : goal.returns-clause-adds
returns-clause-adds c =
    on_ok_weaker c.put.result
    (λ given. adds_after c.args.number c.args.stencil.now c.args.texts.now c.args.self.now c.intern.new.self c.put.new.self c.in_ok-atoms.ensures.keeps
    (given c.args.texts.now (subst (AreAtoms c.args.texts.now c.intern.new.self.texts) (sym c.deref.ensures.value) c.in_ok-atoms.ensures.atoms)))
    c.put.ensures.adds

pub returns-clause-error : goal.returns-clause-error
returns-clause-error c = on_err_weaker c.put.result (λ same. subst (SameParts c.args.self.now) (sym same) c.in_ok-atoms.ensures.parts) c.put.ensures.error

pub returns-clause-keeps : goal.returns-clause-keeps
returns-clause-keeps c = on_err_weaker c.put.result (λ same. subst (Keeps c.args.self.now) (sym same) c.in_ok-atoms.ensures.keeps) c.put.ensures.error

pub returns-clause-texts : goal.returns-clause-texts
returns-clause-texts c = subst (TakesIn c.args.self.now.texts c.args.texts.now) (sym c.put.ensures.texts) c.in_ok-atoms.ensures.texts

pub returns-then-has_function-clause-texts : goal.returns-then-has_function-clause-texts
returns-then-has_function-clause-texts c = takes_among c.args.self.now.texts [] c.args.texts.now c.args.self.now.texts (takes_none c.args.self.now.texts c.has_function.ensures.apart)
