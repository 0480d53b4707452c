use Rattle.std.proofs.Common.{◌∙◌, ap}
use Rattle.compile_initial.specs.declared.Nesting.{Nesting}
use Rattle.compile_initial.specs.declared.InitialStencil.{InitialStencil}
use Rattle.lazy_function.specs.Numbered.{around_in}
use Rattle.relazy_board.specs.BoardView.{BoardView}
use Rattle.relazy_board.proofs.Depths.{deeper_by}
use Rattle.relazy_board.proofs.Upward.{upward}
use Rattle.relazy_board.proofs.board.RelazyBoard.outer.Goals as goal

pub returns-clause-depth : goal.returns-clause-depth
returns-clause-depth c =
    let initial = c.args.self.now.initial in
    let seen = ap (λ (v : BoardView). v.initial) c.self.view_is in
    let stands = ap (λ (a : Nesting). a.number) c.around_of.ensures.is ∙ ap (λ (i : InitialStencil). (around_in i c.args.number).number) seen in
    deeper_by initial c.args.number c.around_of.result.number (upward c.args.self.now.bytes initial c.requires.initial) c.requires.number stands
