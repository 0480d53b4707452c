use Rattle.std.proofs.Common.{refl}
use Rattle.scope_inner.specs.Spots.{spot_of}
use Rattle.scope_inner.proofs.FunctionRows.{function_row}
use Rattle.scope_inner.proofs.functions.function_sites.Goals as goal

pub returns : goal.returns
returns c = function_row c.args.texts.now c.args.scopes.now c.args.chain.now c.args.func.now c.deref.result.now (record { sites = c.new.result; next = 0 }) (spot_of c.within-around.result) (spot_of c.within-inside.result) c.new.ensures.items refl c.is_of_name-has_name.ensures c.in_ok-named.ensures.next c.in_ok-named.ensures.chain c.within-around.ensures c.in_ok-own.ensures.next c.in_ok-own.ensures.chain c.within-inside.ensures c.deref.ensures.value c.in_ok-find_params.ensures c.in_ok-find_body.ensures
