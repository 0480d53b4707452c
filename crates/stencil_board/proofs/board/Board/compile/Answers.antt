use Rattle.std.proofs.Common.{sym, subst}
use Rattle.lazy_compile.specs.Delazified.{all_texts}
use Rattle.lazy_function.specs.Numbered.{IsChainOf, IsCompiledFunction}
use Rattle.lazy_function.specs.Texts.{AreAmong}
use Rattle.stencil_board.specs.Files.{file_at}
use Rattle.stencil_board.specs.Views.{BoardView}
use Rattle.stencil_board.proofs.FilledFacts.{filled}
use Rattle.stencil_board.proofs.board.Board.compile.Goals as goal

pub returns-clause-filled : goal.returns-clause-filled
returns-clause-filled g c =
    let board = c.args.self.now in
    filled (file_at g.N.Sources.files board.file) board.bytes board.initial.parts.texts c.requires.board.picked c.args.number c.in_ok-made.made _ c.in_ok-shared.ensures.ok
    (subst (λ (b : BoardView). IsCompiledFunction b.bytes c.args.number c.in_ok-made.made) c.self.view_is c.in_ok-made.ensures.compiled)
    (subst (λ (b : BoardView). AreAmong b.initial.parts.texts (all_texts c.in_ok-made.made)) c.self.view_is c.in_ok-made.ensures.texts)

pub compile_numbered-requires-clause-chain : goal.compile_numbered-requires-clause-chain
compile_numbered-requires-clause-chain g c = subst (λ (b : BoardView). IsChainOf b.bytes b.initial c.args.number c.args.chain.now) (sym c.self.view_is) c.requires.chain
