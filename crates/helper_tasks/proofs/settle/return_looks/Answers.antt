use Rattle.std.proofs.Common.{refl, ap, ◌∙◌, arith}
use Rattle.helper_tasks.specs.Hands.{places}
use Rattle.helper_tasks.proofs.Settling.{return_fits, return_step, returned_parts}
use Rattle.helper_tasks.proofs.settle.return_looks.Goals as goal

pub bring_back-requires-clause-deques : goal.bring_back-requires-clause-deques
bring_back-requires-clause-deques g c =
    ap (λ v. places v.items) c.replace-looks.ensures.value
    ∙ (return_fits c.args.helpers.now c.loop-at.helpers c.loop-at.at c.index-helpers-at.result c.replace-looks.new.dest (omega arith) c.requires.count c.loop-at.invariant).0

pub bring_back-requires-clause-parts : goal.bring_back-requires-clause-parts
bring_back-requires-clause-parts g c =
    (return_fits c.args.helpers.now c.loop-at.helpers c.loop-at.at c.index-helpers-at.result c.replace-looks.new.dest (omega arith) c.requires.count c.loop-at.invariant).1

pub loop-at-preserved : goal.loop-at-preserved
loop-at-preserved g c =
    return_step c.args.helpers.now c.loop-at.helpers c.bring_back.new.helpers c.loop-at.at _ c.index-helpers-at.result c.replace-looks.new.dest c.replace-looks.result.items refl (omega arith) c.requires.count
    (ap (λ v. v.items) c.replace-looks.ensures.after ∙ c.new.ensures.items) c.loop-at.invariant c.bring_back.ensures (ap (λ v. v.items) c.replace-looks.ensures.value)

pub returns-clause-parts : goal.returns-clause-parts
returns-clause-parts g c = returned_parts _ _ c.loop-at.at (omega arith) c.requires.count c.loop-at.invariant
