use Rattle.std.proofs.Common.{◌∙◌, length, sym, ap, arith}
use Rattle.std.proofs.lemmas.List.{length-map}
use Rattle.stencil_board.specs.Views.{PassView}
use Rattle.stencil_board.proofs.Notes.{named_alike}
use Rattle.stencil_board.proofs.known.compare.Goals as goal

pub compare-requires : goal.compare-requires
compare-requires g c =
    let cells = ap (λ (p : PassView). length p.cells) c.one.view_is in
    let long = length-map c.one.inside.notes.items (λ n. n.cell) in
    let place = c.requires.place in
    ap (λ n. n.cell) c.again-other.ensures.1
    ∙ named_alike (λ n. n.cell) (λ n. n.cell) c.two.inside.notes.items c.one.inside.notes.items c.args.place c.index_mut.result.now c.index_mut-2.result.now
    (ap (λ (p : PassView). p.cells) c.two.view_is ∙ sym c.requires.same ∙ sym (ap (λ (p : PassView). p.cells) c.one.view_is))
    (omega (arith, cells, long, place)) c.index_mut.ensures.value c.index_mut-2.ensures.value
