use Rattle.scope_functions.proofs.OwnUses.{used_first, used_behind}
use Rattle.scope_functions.proofs.statements.uses_for_head.Goals as goal

pub returns-then-uses_init : goal.returns-then-uses_init
returns-then-uses_init c = λ bodies. used_first _ _ c.args.wanted.now.units.now _ (c.uses_init.ensures bodies) c.if-uses_init.true

pub returns-then-uses_maybe : goal.returns-then-uses_maybe
returns-then-uses_maybe c = λ bodies.
    used_behind _ _ c.args.wanted.now.units.now _ _ (c.uses_init.ensures bodies) c.if-uses_init.false (used_first _ _ c.args.wanted.now.units.now _ (c.uses_maybe.ensures bodies) c.if-uses_maybe.true)

pub returns-else-uses_maybe : goal.returns-else-uses_maybe
returns-else-uses_maybe c = λ bodies.
    used_behind _ _ c.args.wanted.now.units.now _ _ (c.uses_init.ensures bodies) c.if-uses_init.false (used_behind _ _ c.args.wanted.now.units.now _ _ (c.uses_maybe.ensures bodies) c.if-uses_maybe.false (c.uses_maybe-else-uses_maybe.ensures bodies))
