use Rattle.compile_initial.specs.declared.InitialStencil.{InitialStencil}
use Rattle.compile_initial.specs.Initial.{IsInitialOf}
use Rattle.std.proofs.Common.{◌≡◌, ◌∙◌, ℕ, List, length, sym, ap, subst}
use Rattle.stencil_board.specs.Files.{File, file_at}
use Rattle.stencil_board.specs.Passes.{IsBoard, IsMadeOf}
use Rattle.stencil_board.specs.Views.{BoardView}
use Rattle.test_threads.proofs.board.small_board.Goals as goal

made_board : (files : List File) (file : ℕ) (bytes : List ℕ) (initial : InitialStencil) (board : BoardView) → IsMadeOf file bytes initial board → file_at files file ≡ record { bytes = bytes; texts = initial.parts.texts } → IsInitialOf bytes initial → IsBoard files board
made_board files file bytes initial board m picked is = record {
  picked = ap (file_at files) m.file_is ∙ (picked ∙ ap (λ (b : List ℕ). record { bytes = b; texts = initial.parts.texts }) (sym m.bytes_are) ∙ ap (λ (i : InitialStencil). record { bytes = board.bytes; texts = i.parts.texts }) (sym m.initial_is));
  initial = subst (λ (b : List ℕ). IsInitialOf b board.initial) (sym m.bytes_are) (subst (λ (i : InitialStencil). IsInitialOf bytes i) (sym m.initial_is) is);
  cells = m.cells ∙ ap (λ (i : InitialStencil). length i.parts.records) (sym m.initial_is);
}

pub returns-clause-board : goal.returns-clause-board
returns-clause-board g c = made_board g.N.Sources.files 0 c.args.bytes.now c.args.initial.now c.in_ok-board.board c.in_ok-board.ensures c.requires.picked c.requires.initial
