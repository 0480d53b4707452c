use Rattle.std.proofs.Common.{refl}
use Rattle.scope_inner.proofs.FindRows.{found_one}
use Rattle.scope_inner.proofs.exprs.find_function.Goals as goal

pub returns : goal.returns
returns c = found_one _ c.args.func.now c.args.kind c.args.name c.in_ok-push.ensures.items refl refl refl c.in_ok-copy.ensures
