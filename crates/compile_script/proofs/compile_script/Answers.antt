use Rattle.compile_script.proofs.Scripts.{asks, compiled}
use Rattle.compile_script.proofs.compile_script.Goals as goal

pub top-requires : goal.top-requires
top-requires c =
    let a = asks c.args.texts.now c.requires.0 c.args.top.now c.args.closed.now c.requires.1 c.requires.2 c.in_ok-scopes.scopes.items c.in_ok-inside.inside.items c.in_ok-extents.extents.items c.deref.result.now c.deref-2.result.now c.in_ok-scopes.ensures c.deref.ensures.value c.in_ok-inside.ensures c.deref-2.ensures.value c.in_ok-extents.ensures.inner in
    record { few_scopes = a.few_scopes; slots = a.slots; few_inner = a.few_inner; ordered = a.ordered }

pub returns : goal.returns
returns c = λ bodies items can.
    compiled c.args.texts.now bodies c.args.top.now c.args.closed.now items can c.in_ok-scopes.scopes.items c.in_ok-inside.inside.items c.in_ok-extents.extents.items c.deref.result.now c.deref-2.result.now c.in_ok-scopes.ensures c.deref.ensures.value c.in_ok-inside.ensures c.deref-2.ensures.value c.in_ok-extents.ensures.inner
    c.args.end c.in_ok-stencil.stencil c.in_ok-stencil.ensures
