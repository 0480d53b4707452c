use Rattle.std.proofs.Common.{◌∙◌, ◌-◌, length, Some, sym, ap, arith}
use Rattle.std.proofs.lemmas.List.{length-map}
use Rattle.once_cell.specs.Once.{cell_name}
use Rattle.stencil_board.specs.Views.{BoardView, PassView}
use Rattle.stencil_board.proofs.Notes.{named_alike, note_changed}
use Rattle.stencil_board.proofs.board.Board.offer.Goals as goal

pub get_or_init_as-requires-clause-cell : goal.get_or_init_as-requires-clause-cell
get_or_init_as-requires-clause-cell g c =
    let cells = ap (λ (b : BoardView). length b.cells) c.self.view_is in
    let long = length-map c.self.inside.cells.items cell_name in
    let low = c.requires.number.0 in
    let high = c.requires.number.1 in
    named_alike (λ n. n.cell) cell_name c.pass.inside.notes.items c.self.inside.cells.items (c.args.number - 1) c.index_mut-note.result.now c.index-cell.result.now
    (ap (λ (p : PassView). p.cells) c.pass.view_is ∙ c.requires.belongs.cells ∙ sym (ap (λ (b : BoardView). b.cells) c.self.view_is))
    (omega (arith, cells, long, low, high)) c.index_mut-note.ensures.value c.index-cell.ensures

pub returns-clause-pass : goal.returns-clause-pass
returns-clause-pass g c =
    note_changed (λ n. n.cell) (λ n. n.known) c.pass.inside.file c.pass.inside.notes.items c.pass.inside.own.items c.args.pass.now c.args.number c.get_or_init_as.new.note c.index_mut-note.result.now
    (Some c.get_or_init_as.result.now) c.pass.view_is (c.get_or_init_as.ensures.cell ∙ ap (λ n. n.cell) c.index_mut-note.ensures.value) c.get_or_init_as.ensures.value.0
