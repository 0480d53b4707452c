use Rattle.std.proofs.Common.{◌∙◌, ap}
use Rattle.stencil_data.specs.Views.{InitialView}
use Rattle.stencil_merge.proofs.Mergers.{both_begun}
use Rattle.stencil_merge.proofs.merger.begin.Goals as goal

pub invariant_of-result : goal.invariant_of-result
invariant_of-result c = (both_begun c.args.parts.now c.args.texts c.args.atoms.now c.deref-2.result.now c.parts.inside.top c.in_ok-top.top c.deref.result.now c.deref-3.result.now c.in_ok-records.records.items c.in_ok-entries.entries.items c.len.result
    (ap (λ (p : InitialView). p.top) c.parts.view_is) (c.deref.ensures.value ∙ ap (λ (p : InitialView). p.records) c.parts.view_is) (c.deref-3.ensures.value ∙ ap (λ (p : InitialView). p.records) c.parts.view_is) (c.deref-2.ensures.value ∙ c.in_ok-outermost.ensures)
    c.requires.few c.requires.apart c.requires.atoms c.in_ok-top.ensures c.in_ok-records.ensures c.in_ok-entries.ensures (c.len.ensures ∙ c.in_ok-records.records.ok.0)).0

pub returns-clause-begins : goal.returns-clause-begins
returns-clause-begins c = (both_begun c.args.parts.now c.args.texts c.args.atoms.now c.deref-2.result.now c.parts.inside.top c.in_ok-top.top c.deref.result.now c.deref-3.result.now c.in_ok-records.records.items c.in_ok-entries.entries.items c.len.result
    (ap (λ (p : InitialView). p.top) c.parts.view_is) (c.deref.ensures.value ∙ ap (λ (p : InitialView). p.records) c.parts.view_is) (c.deref-3.ensures.value ∙ ap (λ (p : InitialView). p.records) c.parts.view_is) (c.deref-2.ensures.value ∙ c.in_ok-outermost.ensures)
    c.requires.few c.requires.apart c.requires.atoms c.in_ok-top.ensures c.in_ok-records.ensures c.in_ok-entries.ensures (c.len.ensures ∙ c.in_ok-records.records.ok.0)).1
