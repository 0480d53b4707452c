use Rattle.scope_functions.proofs.OwnUses.{used_first, used_behind}
use Rattle.scope_functions.proofs.statements.uses_for_in_head.Goals as goal

pub returns-then-uses_each : goal.returns-then-uses_each
returns-then-uses_each c = λ bodies. used_first _ _ c.args.wanted.now.units.now _ (c.uses_each.ensures bodies) c.if-uses_each.true

pub returns-else-uses_each : goal.returns-else-uses_each
returns-else-uses_each c = λ bodies. used_behind _ _ c.args.wanted.now.units.now _ _ (c.uses_each.ensures bodies) c.if-uses_each.false (c.uses_expr.ensures bodies)
