use Rattle.scope_inner.specs.Spots.{spot_of}
use Rattle.scope_inner.proofs.FunctionRows.{braced_row}
use Rattle.scope_inner.proofs.functions.find_braced.Goals as goal

pub returns : goal.returns
returns c = braced_row (spot_of c.args.place.now) (spot_of c.within-around.result) (spot_of c.within-inside.result) c.args.items.now c.is_of_vars-has_vars.ensures c.in_ok-vars.ensures.next c.in_ok-vars.ensures.chain c.within-around.ensures c.is_of_top-has_top.ensures c.in_ok-top.ensures.next c.in_ok-top.ensures.chain c.within-inside.ensures c.in_ok-find_stmts.ensures
