use Rattle.std.proofs.Common.{ℕ, subst, arith}
use Rattle.lazy_function.specs.Numbered.{IsCompiledFunction}
use Rattle.stencil.proofs.scripts.Lazy.+function.Goals as goal

pub compile_numbered-requires-clause-chain : goal.compile_numbered-requires-clause-chain
compile_numbered-requires-clause-chain t c = c.chain_in_script-chain.ensures c.args.text.now

pub function_in-requires-clause-outer : goal.function_in-requires-clause-outer
function_in-requires-clause-outer t c =
    let is = c.around-around.ensures.is in
    let inside = c.if-around-eq0.false in
    (omega (arith, is, inside), subst (λ (n : ℕ). IsCompiledFunction c.args.text.now n c.in_ok-outer.outer) is c.in_ok-outer.ensures)
