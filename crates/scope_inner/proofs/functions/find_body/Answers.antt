use Rattle.scope_inner.specs.Spots.{spot_of}
use Rattle.scope_inner.proofs.FunctionRows.{body_braced, body_short, body_passed}
use Rattle.scope_inner.proofs.functions.find_body.Goals as goal

pub returns-in_ok-find_braced-in-Braced : goal.returns-in_ok-find_braced-in-Braced
returns-in_ok-find_braced-in-Braced c = body_braced c.args.body.now c.in-Braced.items c.deref.result.now c.in-Braced.is c.deref.ensures.value c.in_ok-find_braced-in-Braced.ensures

pub returns-in_ok-find_expr-in-Short : goal.returns-in_ok-find_expr-in-Short
returns-in_ok-find_expr-in-Short c = body_short c.args.body.now c.in-Short.value c.deref-in-Short.result.now c.in-Short.is c.deref-in-Short.ensures c.in_ok-find_expr-in-Short.ensures

pub returns-in-Passed : goal.returns-in-Passed
returns-in-Passed c = body_passed (spot_of c.args.place.now) c.args.out.now c.args.body.now c.in-Passed.is
