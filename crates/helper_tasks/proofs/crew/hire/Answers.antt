use Rattle.std.proofs.Common.{◌<◌, ◌≤◌, [], ◌∷◌, length, rules, refl, ap, arith, length-append}
use Rattle.helper_tasks.proofs.Crewing.{hire_share, hire_hired, hire_rest, hire_done, hire_all}
use Rattle.helper_tasks.proofs.crew.hire.Goals as goal

pub loop-share-preserved : goal.loop-share-preserved
loop-share-preserved g c =
    let inv = c.loop-share.invariant in
    let step = c.in-Some.ensures.steps in
    let new = c.in_ok-new.ensures in
    let more = c.in_ok-push.ensures.items in
    let left = ap length step.0 in
    let small : c.loop-share.number < length c.args.shares.items = omega arith in
    let rest : c.in_ok-new.field-0.rest ≤ length c.args.order.now = omega arith in (
      tt,
      tt,
      hire_share _ _ _ _ _ _ _ more new.desk.0 step.0 inv.2,
      (let n = inv.3 in omega arith),
      (let n = inv.4 in let m = ap length more in let k = length-append c.loop-share.helpers.items (c.in_ok-new.field-0 ∷ []) in omega arith),
      hire_all _ _ _ _ _ _ refl inv.5 c.another-fetcher.ensures.left,
      hire_hired _ _ _ _ _ _ _ _ more new.handles.0 small new.handles.1 new.handles.2 c.another-fetcher.ensures.new new.desk.1 rest inv.6,
      hire_rest _ _ _ _ _ _ more new.rest inv.7,
      (λ _. refl),
      search rules,
    )

pub returns-clause-rest : goal.returns-clause-rest
returns-clause-rest g c =
    let inv = c.loop-share.invariant in
    let ok = c.loop-share.share-iterator.rest.ok in
    let none = c.in-None.ensures.steps in
    let some : 0 < c.loop-share.number = omega arith in
    hire_done _ _ _ _ (inv.8 some) inv.7
