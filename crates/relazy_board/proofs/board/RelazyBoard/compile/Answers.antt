use Rattle.std.proofs.Common.{sym, subst}
use Rattle.std.specs.Arc.{arc_value}
use Rattle.lazy_compile.specs.declared.Delazified.{Delazified}
use Rattle.lazy_function.specs.Numbered.{IsChainOf, IsCompiledFunction}
use Rattle.relazy_board.specs.BoardView.{BoardView}
use Rattle.relazy_board.proofs.board.RelazyBoard.compile.Goals as goal

pub compile_numbered-requires-clause-chain : goal.compile_numbered-requires-clause-chain
compile_numbered-requires-clause-chain c =
    subst (λ (v : BoardView). IsChainOf v.bytes v.initial c.args.number c.args.chain.now) (sym c.self.view_is) c.requires.chain

pub returns : goal.returns
returns c =
    subst (λ (v : BoardView). IsCompiledFunction v.bytes c.args.number (arc_value c.in_ok-made-2.made)) c.self.view_is
    (subst (λ (d : Delazified). IsCompiledFunction c.self.inside.bytes.now c.args.number d) (sym c.in_ok-made-2.ensures.ok) c.in_ok-made.ensures.compiled)
