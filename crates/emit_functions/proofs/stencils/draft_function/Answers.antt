use Rattle.emit_functions.proofs.FunctionRows.{drafted_named, drafted_nameless}
use Rattle.emit_functions.proofs.stencils.draft_function.Goals as goal

pub returns-in_ok-draft : goal.returns-in_ok-draft
returns-in_ok-draft c = drafted_named c.args.texts.now c.args.kind c.args.name c.args.scopes.now c.args.inner.now c.args.chain.now c.args.func.now _ c.in_ok-named.named (c.has_callee.ensures c.args.texts.now) c.if-has_callee.true c.site_under-site.ensures c.in_ok-named.ensures.chain c.in_ok-draft.ensures

pub returns-in_ok-draft-2 : goal.returns-in_ok-draft-2
returns-in_ok-draft-2 c = drafted_nameless c.args.texts.now c.args.kind c.args.name c.args.scopes.now c.args.inner.now c.args.chain.now c.args.func.now (c.has_callee.ensures c.args.texts.now) c.if-has_callee.false c.in_ok-draft-2.ensures
