use Rattle.std.proofs.Common.{◌-◌, ◌<◌, ◌∙◌, ℕ, List, length, sym, ap, subst}
use Rattle.std.proofs.Math.ListN.{set}
use Rattle.stencil_data.specs.declared.stencils.Entry.TheVariants as entry
use Rattle.stencil_data.specs.MergedView.{MergedView}
use Rattle.stencil_data.specs.Views.{RecordView}
use Rattle.stencil_merge.specs.Atoms.{AreAtoms}
use Rattle.stencil_merge.specs.Merging.{Adds, HasFunction}
use Rattle.stencil_merge.specs.Parts.{IsFunctionBy}
use Rattle.stencil_merge.proofs.Mergers.{view, merging_more, adds, numbers_are, place_within}
use Rattle.stencil_merge.proofs.merger.Merger.put.Goals as goal

pub invariant_of-self : goal.invariant_of-self
invariant_of-self c =
    let lt : c.args.number - 1 < length c.self.inside.records.items = place_within c.args.self.now c.self.inside.records.items c.args.number (ap (λ (m : MergedView). m.records) c.self.view_is) c.requires.function in
    merging_more c.self.inside.texts c.requires.atoms.0 c.self.inside.top c.self.inside.records.items c.self.inside.entries.items c.self.invariant c.args.number c.args.stencil.now c.in_ok-compiled.compiled c.args.atoms.now
    (subst (λ (m : MergedView). AreAtoms c.requires.atoms.0 m.texts c.args.atoms.now) (sym c.self.view_is) c.requires.atoms.1)
    (subst (λ (ns : List ℕ). IsFunctionBy c.args.atoms.now ns c.args.stencil.now c.in_ok-compiled.compiled)
    (numbers_are c.self.inside.records.items c.args.number c.index.result.now c.deref.result.now lt c.index.ensures (c.deref.ensures.value ∙ ap (λ (l : RecordView). l.inner) c.behind-self.view_is)) c.in_ok-compiled.ensures)

pub returns-clause-adds : goal.returns-clause-adds
returns-clause-adds c = λ own are.
    let lt : c.args.number - 1 < length c.self.inside.records.items = place_within c.args.self.now c.self.inside.records.items c.args.number (ap (λ (m : MergedView). m.records) c.self.view_is) c.requires.function in
    subst (λ (m : MergedView). Adds c.args.number c.args.stencil.now own m (view c.self.inside.texts c.self.inside.top c.self.inside.records.items (set c.self.inside.entries.items (c.args.number - 1) (entry.Compiled c.in_ok-compiled.compiled)))) c.self.view_is
    (adds c.self.inside.texts own c.self.inside.top c.self.inside.records.items c.self.inside.entries.items c.self.invariant c.args.number c.args.stencil.now c.in_ok-compiled.compiled c.args.atoms.now
    (subst (λ (m : MergedView). AreAtoms own m.texts c.args.atoms.now) (sym c.self.view_is) are)
    (subst (λ (ns : List ℕ). IsFunctionBy c.args.atoms.now ns c.args.stencil.now c.in_ok-compiled.compiled)
    (numbers_are c.self.inside.records.items c.args.number c.index.result.now c.deref.result.now lt c.index.ensures (c.deref.ensures.value ∙ ap (λ (l : RecordView). l.inner) c.behind-self.view_is)) c.in_ok-compiled.ensures)
    (λ compiled. c.requires.lacking (subst (λ (m : MergedView). HasFunction m c.args.number) c.self.view_is compiled)))
