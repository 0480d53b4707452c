use Rattle.emit_functions.proofs.BodyRows.{vars_entered}
use Rattle.emit_functions.proofs.bodies.enter_vars.Goals as goal

pub returns-clause-code : goal.returns-clause-code
returns-clause-code c = vars_entered c.args.site.now c.site_under-inside.result c.args.out.now.next c.args.params.now c.in_ok-chain.chain c.in_ok-passing.passing c.bindings_of-bindings.result.now c.requires.vars c.in_ok-push_env.ensures c.in_ok-chain.ensures.chain c.in_ok-passing.ensures.chain c.site_under-inside.ensures c.bindings_of-bindings.ensures c.in_ok-copies.ensures
