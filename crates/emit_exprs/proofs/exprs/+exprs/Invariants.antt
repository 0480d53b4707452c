use Rattle.std.proofs.Common.{◌+◌, ◌*◌, drop}
use Rattle.emit_exprs.proofs.Lists.{ExprsLeft, CommaLeft, PartsLeft, PropsLeft, TailsLeft, ItemsLeft}
use Rattle.emit_exprs.proofs.Choices.{OperandsLeft}
use Rattle.emit_exprs.proofs.exprs.+exprs.Given as goal

abbrev pub invariant-emit_array-loop-index : goal.invariant-emit_array-loop-index
invariant-emit_array-loop-index l = ItemsLeft l.site l.initial.out l.out l.items (drop l.index l.items) l.index

abbrev pub invariant-emit_operands-loop-operand : goal.invariant-emit_operands-loop-operand
invariant-emit_operands-loop-operand l = OperandsLeft l.site l.how l.initial.out l.initial.waits.items l.out l.waits.items l.rest (drop l.operand-index l.rest)

abbrev pub invariant-emit_tails-loop-index : goal.invariant-emit_tails-loop-index
invariant-emit_tails-loop-index l = TailsLeft l.site l.initial.out l.out l.wanted l.tails (drop l.index l.tails)

abbrev pub invariant-emit_comma-loop-index : goal.invariant-emit_comma-loop-index
invariant-emit_comma-loop-index l = CommaLeft l.site l.initial.out l.out l.items (drop l.index l.items)

abbrev pub invariant-emit_exprs-loop-item : goal.invariant-emit_exprs-loop-item
invariant-emit_exprs-loop-item l = ExprsLeft l.site l.initial.out l.out l.items (drop l.item-index l.items)

abbrev pub invariant-emit_object-loop-prop : goal.invariant-emit_object-loop-prop
invariant-emit_object-loop-prop l = PropsLeft l.site l.initial.out l.out l.props (drop l.prop-index l.props)

abbrev pub invariant-emit_template-loop-part : goal.invariant-emit_template-loop-part
invariant-emit_template-loop-part l = PartsLeft l.site l.initial.out l.out l.parts (drop l.part-index l.parts)

abbrev pub decreases-emit_template : goal.decreases-emit_template
decreases-emit_template l = 3 * goal.size-emit_template l + 2

abbrev pub decreases-emit_array : goal.decreases-emit_array
decreases-emit_array l = 3 * goal.size-emit_array l + 2

abbrev pub decreases-emit_object : goal.decreases-emit_object
decreases-emit_object l = 3 * goal.size-emit_object l + 2

abbrev pub decreases-emit_tails : goal.decreases-emit_tails
decreases-emit_tails l = 3 * goal.size-emit_tails l + 2

abbrev pub decreases-emit_exprs : goal.decreases-emit_exprs
decreases-emit_exprs l = 3 * goal.size-emit_exprs l + 2

abbrev pub decreases-emit_operands : goal.decreases-emit_operands
decreases-emit_operands l = 3 * goal.size-emit_operands l + 2

abbrev pub decreases-emit_comma : goal.decreases-emit_comma
decreases-emit_comma l = 3 * goal.size-emit_comma l + 2

abbrev pub decreases-emit_item : goal.decreases-emit_item
decreases-emit_item l = 3 * goal.size-emit_item l + 1

abbrev pub decreases-emit_method : goal.decreases-emit_method
decreases-emit_method l = 3 * goal.size-emit_method l + 1

abbrev pub decreases-emit_unary : goal.decreases-emit_unary
decreases-emit_unary l = 3 * goal.size-emit_unary l + 1

abbrev pub decreases-emit_update : goal.decreases-emit_update
decreases-emit_update l = 3 * goal.size-emit_update l + 1

abbrev pub decreases-emit_expr : goal.decreases-emit_expr
decreases-emit_expr l = 3 * goal.size-emit_expr l

abbrev pub decreases-emit_prop : goal.decreases-emit_prop
decreases-emit_prop l = 3 * goal.size-emit_prop l

abbrev pub decreases-emit_key : goal.decreases-emit_key
decreases-emit_key l = 3 * goal.size-emit_key l

abbrev pub decreases-emit_tail : goal.decreases-emit_tail
decreases-emit_tail l = 3 * goal.size-emit_tail l

abbrev pub decreases-emit_args : goal.decreases-emit_args
decreases-emit_args l = 3 * goal.size-emit_args l
