use Rattle.std.proofs.Common.{ℕ, rules, subst, arith}
use Rattle.lazy_function.specs.Numbered.{IsCompiledFunction}
use Rattle.relazy_board.proofs.board.RelazyBoard.+request.Goals as goal

pub request-requires : goal.request-requires
request-requires g t c κs within =
    let before = c.outer-outer.ensures.before in
    let deep = c.outer-outer.ensures.depth in
    let room = c.requires.room in
    let high = c.requires.number.1 in
    let ends = c.decreases in
    (omega (arith, before, ends), (within, (c.requires.initial, ((search rules, omega (arith, before, high)), omega (arith, deep, room)))))

pub inner_chain-requires-clause-around : goal.inner_chain-requires-clause-around
inner_chain-requires-clause-around g t c =
    subst (λ (n : ℕ). IsCompiledFunction c.args.self.now.bytes n c.in_ok-around.around) c.outer-outer.ensures.is c.in_ok-around.ensures.compiled
