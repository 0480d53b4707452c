use Rattle.std.proofs.Common.{◌-◌, ◌<◌, ℕ, length, sym, ap, subst}
use Rattle.stencil_data.specs.MergedView.{MergedView}
use Rattle.parser_atoms.specs.Places.{AreWithoutEquals}
use Rattle.stencil_merge.proofs.Mergers.{view, tells_here, place_within}
use Rattle.stencil_merge.proofs.merger.Merger.has_function.Goals as goal

pub returns-clause-is : goal.returns-clause-is
returns-clause-is c =
    let lt : c.args.number - 1 < length c.self.inside.records.items = place_within c.args.self.now c.self.inside.records.items c.args.number (ap (λ (m : MergedView). m.records) c.self.view_is) c.requires in
    let there : c.args.number - 1 < length c.self.inside.entries.items = subst (λ (n : ℕ). c.args.number - 1 < n) (sym c.self.invariant.many) lt in
    tells_here c.args.self.now (view c.self.inside.texts c.self.inside.top c.self.inside.records.items c.self.inside.entries.items) c.args.number c.index.result.now c.is_compiled.result c.self.view_is there c.index.ensures c.is_compiled.ensures

pub returns-clause-apart : goal.returns-clause-apart
returns-clause-apart c = subst (λ (m : MergedView). AreWithoutEquals m.texts) c.self.view_is c.self.invariant.apart
