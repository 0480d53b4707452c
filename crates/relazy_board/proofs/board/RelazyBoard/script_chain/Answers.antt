use Rattle.std.proofs.Common.{ap, subst}
use Rattle.compile_initial.specs.declared.InitialStencil.{InitialStencil}
use Rattle.lazy_function.specs.Numbered.{IsChainOf}
use Rattle.relazy_board.specs.BoardView.{BoardView}
use Rattle.relazy_board.proofs.board.RelazyBoard.script_chain.Goals as goal

pub returns : goal.returns
returns c =
    let bytes = c.args.self.now.bytes in
    subst (λ (i : InitialStencil). IsChainOf bytes i c.args.number c.chain_in_script.result.now) (ap (λ (v : BoardView). v.initial) c.self.view_is) (c.chain_in_script.ensures bytes)
