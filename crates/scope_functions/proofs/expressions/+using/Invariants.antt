use Rattle.std.proofs.Common.{◌≡◌, ◌+◌, ◌*◌, ℕ, map, drop, option_map}
use Rattle.script_grammar.specs.Tree.{Stmts}
use Rattle.script_grammar.specs.TreeLists.{exprs_of, items_of, operands_of, parts_of, tails_of, props_of}
use Rattle.script_grammar.specs.TreeOf.{expr_of, operand_of, part_of, tail_of, prop_of}
use Rattle.scope_analysis.specs.DeclaredNames.{has_text}
use Rattle.scope_analysis.specs.Uses.{uses_exprs, uses_items, uses_parts, uses_operands, uses_tails, uses_props}
use Rattle.scope_analysis.specs.Kept.{under}
use Rattle.scope_functions.proofs.expressions.+using.Given as goal

abbrev pub invariant-uses_exprs-loop-item : goal.invariant-uses_exprs-loop-item
invariant-uses_exprs-loop-item l = (bodies : ℕ → Stmts) → has_text (uses_exprs (exprs_of (map (expr_of (under l.wanted.texts.now bodies)) (drop l.item-index l.items)))).own l.wanted.units.now ≡ has_text (uses_exprs (exprs_of (map (expr_of (under l.wanted.texts.now bodies)) l.items))).own l.wanted.units.now

abbrev pub invariant-uses_parts-loop-part : goal.invariant-uses_parts-loop-part
invariant-uses_parts-loop-part l = (bodies : ℕ → Stmts) → has_text (uses_parts (parts_of (map (part_of (under l.wanted.texts.now bodies)) (drop l.part-index l.parts)))).own l.wanted.units.now ≡ has_text (uses_parts (parts_of (map (part_of (under l.wanted.texts.now bodies)) l.parts))).own l.wanted.units.now

abbrev pub invariant-uses_operands-loop-operand : goal.invariant-uses_operands-loop-operand
invariant-uses_operands-loop-operand l = (bodies : ℕ → Stmts) → has_text (uses_operands (operands_of (map (operand_of (under l.wanted.texts.now bodies)) (drop l.operand-index l.rest)))).own l.wanted.units.now ≡ has_text (uses_operands (operands_of (map (operand_of (under l.wanted.texts.now bodies)) l.rest))).own l.wanted.units.now

abbrev pub invariant-uses_tails-loop-tail : goal.invariant-uses_tails-loop-tail
invariant-uses_tails-loop-tail l = (bodies : ℕ → Stmts) → has_text (uses_tails (tails_of (map (tail_of (under l.wanted.texts.now bodies)) (drop l.tail-index l.tails)))).own l.wanted.units.now ≡ has_text (uses_tails (tails_of (map (tail_of (under l.wanted.texts.now bodies)) l.tails))).own l.wanted.units.now

abbrev pub invariant-uses_props-loop-prop : goal.invariant-uses_props-loop-prop
invariant-uses_props-loop-prop l = (bodies : ℕ → Stmts) → has_text (uses_props (props_of (map (prop_of (under l.wanted.texts.now bodies)) (drop l.prop-index l.props)))).own l.wanted.units.now ≡ has_text (uses_props (props_of (map (prop_of (under l.wanted.texts.now bodies)) l.props))).own l.wanted.units.now

abbrev pub invariant-uses_items-loop-item : goal.invariant-uses_items-loop-item
invariant-uses_items-loop-item l = (bodies : ℕ → Stmts) → has_text (uses_items (items_of (map (option_map (expr_of (under l.wanted.texts.now bodies))) (drop l.item-index l.items)))).own l.wanted.units.now ≡ has_text (uses_items (items_of (map (option_map (expr_of (under l.wanted.texts.now bodies))) l.items))).own l.wanted.units.now

abbrev pub decreases-uses_expr : goal.decreases-uses_expr
decreases-uses_expr l = 3 * goal.size-uses_expr l

abbrev pub decreases-uses_args : goal.decreases-uses_args
decreases-uses_args l = 3 * goal.size-uses_args l

abbrev pub decreases-uses_key : goal.decreases-uses_key
decreases-uses_key l = 3 * goal.size-uses_key l

abbrev pub decreases-uses_prop : goal.decreases-uses_prop
decreases-uses_prop l = 3 * goal.size-uses_prop l

abbrev pub decreases-uses_tail : goal.decreases-uses_tail
decreases-uses_tail l = 3 * goal.size-uses_tail l

abbrev pub decreases-uses_maybe : goal.decreases-uses_maybe
decreases-uses_maybe l = 3 * goal.size-uses_maybe l + 1

abbrev pub decreases-uses_exprs : goal.decreases-uses_exprs
decreases-uses_exprs l = 3 * goal.size-uses_exprs l + 2

abbrev pub decreases-uses_items : goal.decreases-uses_items
decreases-uses_items l = 3 * goal.size-uses_items l + 2

abbrev pub decreases-uses_parts : goal.decreases-uses_parts
decreases-uses_parts l = 3 * goal.size-uses_parts l + 2

abbrev pub decreases-uses_operands : goal.decreases-uses_operands
decreases-uses_operands l = 3 * goal.size-uses_operands l + 2

abbrev pub decreases-uses_tails : goal.decreases-uses_tails
decreases-uses_tails l = 3 * goal.size-uses_tails l + 2

abbrev pub decreases-uses_props : goal.decreases-uses_props
decreases-uses_props l = 3 * goal.size-uses_props l + 2
