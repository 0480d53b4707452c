use Rattle.std.proofs.Common.{ap, subst}
use Rattle.stencil_data.specs.MergedView.{MergedView}
use Rattle.stencil_merge.specs.Merging.{Keeps}
use Rattle.stencil_merge.proofs.Mergers.{view, grown, keeps, few_after}
use Rattle.stencil_merge.proofs.merger.Merger.intern.Goals as goal

pub invariant_of-self : goal.invariant_of-self
invariant_of-self c =
    grown c.self.inside.texts c.intern_all.new.self c.args.texts.now c.self.inside.top c.self.inside.records.items c.self.inside.entries.items c.self.invariant c.intern_all.ensures.texts
    (few_after c.args.self.now c.self.inside.texts c.intern_all.new.self c.args.texts.now (ap (λ (m : MergedView). m.texts) c.self.view_is) c.requires.few c.intern_all.ensures.few)

pub returns-clause-keeps : goal.returns-clause-keeps
returns-clause-keeps c =
    subst (λ (m : MergedView). Keeps m (view c.intern_all.new.self c.self.inside.top c.self.inside.records.items c.self.inside.entries.items)) c.self.view_is
    (keeps c.self.inside.texts c.intern_all.new.self c.args.texts.now c.self.inside.top c.self.inside.records.items c.self.inside.entries.items c.self.invariant c.intern_all.ensures.texts
    (few_after c.args.self.now c.self.inside.texts c.intern_all.new.self c.args.texts.now (ap (λ (m : MergedView). m.texts) c.self.view_is) c.requires.few c.intern_all.ensures.few))
