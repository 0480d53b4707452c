use Rattle.std.proofs.Common.{◌≡◌, length, arith}
use Rattle.stencil_data.specs.StandsFor.{text_at}
use Rattle.scope_analysis.specs.DeclaredNames.{Text}
use Rattle.scope_analysis.specs.TextSets.{has_later}
use Rattle.scope_analysis.proofs.NameTexts.{stands_first, still_free}
use Rattle.scope_analysis.proofs.text_set.TextSet.insert.Goals as goal

pub returns-in_ok-fresh-in-Some-clause-place : goal.returns-in_ok-fresh-in-Some-clause-place
returns-in_ok-fresh-in-Some-clause-place c =
    let cells = c.args.self.now.cells.items in
    let t : Text = text_at c.args.texts.now c.args.atom in
    let long : c.len.result ≡ length cells = omega (arith, c.args.self.now.cells.ok.0, c.len.ensures) in
    record {
      some = c.requires.some;
      taken = still_free cells (has_later c.args.texts.now c.args.self.now.later.cells.items c.args.self.now.later.others) (has_later c.args.texts.now c.insert.new.self.cells.items c.insert.new.self.others) t c.in-Some.first
          (stands_first cells t c.units_of-units.result.now c.len.result c.first_cell-cell.result c.in-Some.first c.index.result.now c.units_of-units.ensures long c.first_cell-cell.ensures.is c.first_cell-cell.ensures.within c.index.ensures c.in-Some.is)
          c.in_ok-fresh-in-Some.ensures.has c.requires.taken;
      later = c.in_ok-fresh-in-Some.ensures.place;
    }
