use Rattle.std.proofs.Common.{◌+◌, ◌*◌, map, option_map, drop}
use Rattle.script_grammar.specs.TreeLists.{exprs_of, items_of, operands_of, parts_of, tails_of, props_of}
use Rattle.script_grammar.specs.TreeOf.{expr_of, operand_of, part_of, prop_of, tail_of}
use Rattle.scope_analysis.specs.Functions.{inner_exprs, inner_items, inner_operands, inner_parts, inner_props, inner_tails}
use Rattle.scope_inner.proofs.FindRows.{Going}
use Rattle.scope_inner.proofs.exprs.+finding.Given as goal

abbrev pub invariant-find_exprs-loop-item : goal.invariant-find_exprs-loop-item
invariant-find_exprs-loop-item l = Going l.fn.found.items l.found.items l.chain (λ i. inner_exprs (exprs_of (map (expr_of i) l.items))) (λ i. inner_exprs (exprs_of (map (expr_of i) (drop l.item-index l.items))))

abbrev pub invariant-find_items-loop-item : goal.invariant-find_items-loop-item
invariant-find_items-loop-item l = Going l.fn.found.items l.found.items l.chain (λ i. inner_items (items_of (map (option_map (expr_of i)) l.items))) (λ i. inner_items (items_of (map (option_map (expr_of i)) (drop l.item-index l.items))))

abbrev pub invariant-find_tails-loop-tail : goal.invariant-find_tails-loop-tail
invariant-find_tails-loop-tail l = Going l.fn.found.items l.found.items l.chain (λ i. inner_tails (tails_of (map (tail_of i) l.tails))) (λ i. inner_tails (tails_of (map (tail_of i) (drop l.tail-index l.tails))))

abbrev pub invariant-find_props-loop-prop : goal.invariant-find_props-loop-prop
invariant-find_props-loop-prop l = Going l.fn.found.items l.found.items l.chain (λ i. inner_props (props_of (map (prop_of i) l.props))) (λ i. inner_props (props_of (map (prop_of i) (drop l.prop-index l.props))))

abbrev pub invariant-find_parts-loop-part : goal.invariant-find_parts-loop-part
invariant-find_parts-loop-part l = Going l.fn.found.items l.found.items l.chain (λ i. inner_parts (parts_of (map (part_of i) l.parts))) (λ i. inner_parts (parts_of (map (part_of i) (drop l.part-index l.parts))))

abbrev pub invariant-find_operands-loop-operand : goal.invariant-find_operands-loop-operand
invariant-find_operands-loop-operand l = Going l.fn.found.items l.found.items l.chain (λ i. inner_operands (operands_of (map (operand_of i) l.rest))) (λ i. inner_operands (operands_of (map (operand_of i) (drop l.operand-index l.rest))))

abbrev pub decreases-find_exprs : goal.decreases-find_exprs
decreases-find_exprs l = 3 * goal.size-find_exprs l + 2

abbrev pub decreases-find_items : goal.decreases-find_items
decreases-find_items l = 3 * goal.size-find_items l + 2

abbrev pub decreases-find_parts : goal.decreases-find_parts
decreases-find_parts l = 3 * goal.size-find_parts l + 2

abbrev pub decreases-find_operands : goal.decreases-find_operands
decreases-find_operands l = 3 * goal.size-find_operands l + 2

abbrev pub decreases-find_tails : goal.decreases-find_tails
decreases-find_tails l = 3 * goal.size-find_tails l + 2

abbrev pub decreases-find_props : goal.decreases-find_props
decreases-find_props l = 3 * goal.size-find_props l + 2

abbrev pub decreases-find_maybe : goal.decreases-find_maybe
decreases-find_maybe l = 3 * goal.size-find_maybe l + 1

abbrev pub decreases-find_args : goal.decreases-find_args
decreases-find_args l = 3 * goal.size-find_args l + 1

abbrev pub decreases-find_expr : goal.decreases-find_expr
decreases-find_expr l = 3 * goal.size-find_expr l

abbrev pub decreases-find_tail : goal.decreases-find_tail
decreases-find_tail l = 3 * goal.size-find_tail l

abbrev pub decreases-find_key : goal.decreases-find_key
decreases-find_key l = 3 * goal.size-find_key l

abbrev pub decreases-find_prop : goal.decreases-find_prop
decreases-find_prop l = 3 * goal.size-find_prop l
