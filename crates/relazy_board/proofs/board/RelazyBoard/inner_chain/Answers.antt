use Rattle.std.proofs.Common.{sym, ap, subst}
use Rattle.compile_initial.specs.declared.InitialStencil.{InitialStencil}
use Rattle.compile_initial.specs.Initial.{IsInitialOf}
use Rattle.lazy_function.specs.Numbered.{IsChainOf}
use Rattle.relazy_board.specs.BoardView.{BoardView}
use Rattle.relazy_board.proofs.Results.{compiled_around}
use Rattle.relazy_board.proofs.board.RelazyBoard.inner_chain.Goals as goal

pub chain_inside-requires-clause-made : goal.chain_inside-requires-clause-made
chain_inside-requires-clause-made c =
    let bytes = c.args.self.now.bytes in
    let seen = sym (ap (λ (v : BoardView). v.initial) c.self.view_is) in (
      bytes,
      subst (λ (i : InitialStencil). IsInitialOf bytes i) seen c.requires.initial,
      compiled_around bytes c.args.number c.args.self.now.initial c.self.inside.initial.now c.args.around.now c.value.result.now seen (sym c.value.ensures) c.requires.around,
    )

pub returns : goal.returns
returns c =
    let bytes = c.args.self.now.bytes in
    let seen = ap (λ (v : BoardView). v.initial) c.self.view_is in
    let around = compiled_around bytes c.args.number c.args.self.now.initial c.self.inside.initial.now c.args.around.now c.value.result.now (sym seen) (sym c.value.ensures) c.requires.around in
    subst (λ (i : InitialStencil). IsChainOf bytes i c.args.number c.chain_inside.result.now) seen (c.chain_inside.ensures bytes around)
