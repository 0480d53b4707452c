use Rattle.emit_functions.proofs.FunctionRows.{function_made}
use Rattle.emit_functions.proofs.stencils.draft_inside.Goals as goal

pub returns : goal.returns
returns c = function_made c.args.site.now c.site_under-inside.result c.args.func.now c.in_ok-chain.chain c.new.ensures c.new-waits.ensures.items c.new-2.ensures.items c.site_under-inside.ensures c.in_ok-chain.ensures.chain c.in_ok-emit_function.ensures
