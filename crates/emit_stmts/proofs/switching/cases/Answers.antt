use Rattle.std.proofs.Common.{ℕ, drop_of_length-le, sym, subst, arith}
use Rattle.emit_exprs.proofs.Lists.{next_of}
use Rattle.emit_stmts.specs.Clauses.{InOrder}
use Rattle.emit_stmts.proofs.HeadRows as list
use Rattle.emit_stmts.proofs.switching.cases.Goals as goal

pub loop-place-init : goal.loop-place-init
loop-place-init c = record { code = list.cases_begin _ _ _ _; order = λ none. subst (InOrder 0 0) (sym none) (omega arith); within = omega arith }

pub loop-place-preserved : goal.loop-place-preserved
loop-place-preserved c = record {
  code = list.cases_next _ _ c.index-clauses-place.result (next_of c.args.clauses.now c.loop-place.place c.index-clauses-place.result c.loop-place-test.true c.index-clauses-place.is) c.in_ok-case.ensures.code c.loop-place.invariant.code;
  order = λ none. c.in_ok-case.ensures.order (c.loop-place.invariant.order none);
  within = omega (arith, c.loop-place-test.true);
}

pub returns-clause-code : goal.returns-clause-code
returns-clause-code c = list.cases_end _ (drop_of_length-le c.args.clauses.now c.loop-place-test.false) c.loop-place.invariant.code

pub returns-clause-order : goal.returns-clause-order
returns-clause-order c = λ none. subst (λ (n : ℕ). InOrder 0 n c.loop-place.waits.items) (omega (arith, c.loop-place-test.false, c.loop-place.invariant.within)) (c.loop-place.invariant.order none)
