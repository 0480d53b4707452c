use Rattle.stencil.proofs.scripts.Lazy.function_in.Goals as goal

pub compile_numbered-requires-clause-chain : goal.compile_numbered-requires-clause-chain
compile_numbered-requires-clause-chain c = c.chain_inside-chain.ensures c.args.text.now c.requires.outer.1
