use Rattle.compile_function.proofs.Functions.{asks, compiled}
use Rattle.compile_function.proofs.compile_function.Goals as goal

pub function-requires : goal.function-requires
function-requires c =
    let a = asks c.args.texts.now c.requires.0 c.args.func.now c.args.kind c.args.name c.args.closed.now c.args.chain.now c.requires.1 c.requires.2 c.in_ok-scopes.scopes.items c.in_ok-inside.inside.items c.in_ok-extents.extents.items c.deref.result.now c.deref-2.result.now c.in_ok-scopes.ensures c.deref.ensures.value c.in_ok-inside.ensures c.deref-2.ensures.value c.in_ok-extents.ensures.inner in
    record { chain = a.chain; few_scopes = a.few_scopes; slots = a.slots; few_inner = a.few_inner; ordered = a.ordered }

pub returns : goal.returns
returns c = λ bodies f can.
    compiled c.args.texts.now bodies c.args.func.now c.args.kind c.args.name c.args.closed.now c.args.chain.now f can c.in_ok-scopes.scopes.items c.in_ok-inside.inside.items c.in_ok-extents.extents.items c.deref.result.now c.deref-2.result.now c.in_ok-scopes.ensures c.deref.ensures.value c.in_ok-inside.ensures c.deref-2.ensures.value c.in_ok-extents.ensures.inner c.in_ok-stencil.stencil c.in_ok-stencil.ensures
