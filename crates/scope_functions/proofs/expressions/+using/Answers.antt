use Rattle.std.proofs.Common.{◌||◌, List, Option, map, option_map, refl, sym, ap, ◌∙◌, arith}
use Rattle.script_grammar.specs.declared.tree.Expr.{Expr}
use Rattle.script_grammar.specs.declared.tree.Operand.{Operand, out-Operand}
use Rattle.script_grammar.specs.declared.tree.TemplatePart.{TemplatePart, out-TemplatePart}
use Rattle.script_grammar.specs.declared.tree.Args.{Args}
use Rattle.script_grammar.specs.declared.tree.Tail.{Tail}
use Rattle.script_grammar.specs.declared.tree.Prop.{Prop}
use Rattle.script_grammar.specs.TreeLists as part
use Rattle.script_grammar.specs.TreeLists.{exprs_of, maybe_expr_of, items_of, maybe_args_of, operands_of, parts_of, tails_of, props_of}
use Rattle.script_grammar.specs.TreeOf.{expr_of, operand_of, part_of, tail_of, args_of, key_of, prop_of}
use Rattle.script_grammar.proofs.ExprEquations.{expr_of-Template, expr_of-Array, expr_of-Object, expr_of-Paren, expr_of-Chain, expr_of-New, expr_of-Unary, expr_of-Update, expr_of-Binary, expr_of-Cond, expr_of-Assign, expr_of-Comma, prop_of-Pair, prop_of-Method, prop_of-Get, prop_of-Set, key_of-Computed, tail_of-Index, tail_of-Call}
use Rattle.script_grammar.proofs.PartEquations.{operand_of-fields, part_of-fields, args_of-fields, func_of-fields}
use Rattle.scope_analysis.specs.DeclaredNames.{has_text}
use Rattle.scope_analysis.specs.Kept.{under}
use Rattle.scope_analysis.specs.Uses.{uses_expr, uses_exprs, uses_maybe, uses_args, uses_parts, uses_items, uses_operands, uses_tail, uses_tails, uses_key, uses_prop, uses_props}
use Rattle.scope_functions.proofs.OwnUses.{has_either, used_first, used_behind, no_functions}
use Rattle.scope_functions.proofs.Turns.{turn_found, turn_on, turns_end}
use Rattle.scope_functions.proofs.expressions.+using.Goals as goal

pub uses_expr-returns-in-Template : goal.uses_expr-returns-in-Template
uses_expr-returns-in-Template t c = λ bodies.
    rw c.in-Template.is (rw (expr_of-Template (under c.args.wanted.now.texts.now bodies) c.in-Template.at c.in-Template.first c.in-Template.parts) (rw (sym c.deref.ensures.value) (c.uses_parts.ensures bodies)))

pub uses_expr-returns-in-Array : goal.uses_expr-returns-in-Array
uses_expr-returns-in-Array t c = λ bodies.
    rw c.in-Array.is (rw (expr_of-Array (under c.args.wanted.now.texts.now bodies) c.in-Array.at c.in-Array.items c.in-Array.comma) (rw (sym c.deref-in-Array.ensures.value) (c.uses_items.ensures bodies)))

pub uses_expr-returns-in-Object : goal.uses_expr-returns-in-Object
uses_expr-returns-in-Object t c = λ bodies.
    rw c.in-Object.is (rw (expr_of-Object (under c.args.wanted.now.texts.now bodies) c.in-Object.at c.in-Object.props c.in-Object.comma) (rw (sym c.deref-in-Object.ensures.value) (c.uses_props.ensures bodies)))

pub uses_expr-returns-in-Paren : goal.uses_expr-returns-in-Paren
uses_expr-returns-in-Paren t c = λ bodies.
    rw c.in-Paren.is (rw (expr_of-Paren (under c.args.wanted.now.texts.now bodies) c.in-Paren.at c.in-Paren.inner) (rw (sym c.deref-in-Paren.ensures) (c.uses_expr.ensures bodies)))

pub uses_expr-returns-in-Unary : goal.uses_expr-returns-in-Unary
uses_expr-returns-in-Unary t c = λ bodies.
    rw c.in-Unary.is (rw (expr_of-Unary (under c.args.wanted.now.texts.now bodies) c.in-Unary.at c.in-Unary.op c.in-Unary.of c.in-Unary.is_word) (rw (sym c.deref-in-Unary.ensures) (c.uses_expr-in-Unary.ensures bodies)))

pub uses_expr-returns-in-Update : goal.uses_expr-returns-in-Update
uses_expr-returns-in-Update t c = λ bodies.
    rw c.in-Update.is (rw (expr_of-Update (under c.args.wanted.now.texts.now bodies) c.in-Update.at c.in-Update.op c.in-Update.prefix c.in-Update.of) (rw (sym c.deref-in-Update.ensures) (c.uses_expr-in-Update.ensures bodies)))

pub uses_expr-returns-in-Comma : goal.uses_expr-returns-in-Comma
uses_expr-returns-in-Comma t c = λ bodies.
    rw c.in-Comma.is (rw (expr_of-Comma (under c.args.wanted.now.texts.now bodies) c.in-Comma.items) (rw (sym c.deref-in-Comma.ensures.value) (c.uses_exprs.ensures bodies)))

pub uses_expr-returns-then-uses_expr : goal.uses_expr-returns-then-uses_expr
uses_expr-returns-then-uses_expr t c = λ bodies.
    rw c.in-Chain.is (rw (expr_of-Chain (under c.args.wanted.now.texts.now bodies) c.in-Chain.head c.in-Chain.tails) (rw (sym c.deref-in-Chain.ensures) (used_first _ _ c.args.wanted.now.units.now _ (c.uses_expr-in-Chain.ensures bodies) c.if-uses_expr.true)))

pub uses_expr-returns-else-uses_expr : goal.uses_expr-returns-else-uses_expr
uses_expr-returns-else-uses_expr t c = λ bodies.
    rw c.in-Chain.is (rw (expr_of-Chain (under c.args.wanted.now.texts.now bodies) c.in-Chain.head c.in-Chain.tails) (rw (sym c.deref-in-Chain.ensures) (rw (sym c.deref-else-uses_expr.ensures.value) (used_behind _ _ c.args.wanted.now.units.now _ _ (c.uses_expr-in-Chain.ensures bodies) c.if-uses_expr.false (c.uses_tails.ensures bodies)))))

pub uses_expr-returns-then-uses_expr-2 : goal.uses_expr-returns-then-uses_expr-2
uses_expr-returns-then-uses_expr-2 t c = λ bodies.
    rw c.in-New.is (rw (expr_of-New (under c.args.wanted.now.texts.now bodies) c.in-New.boxed) (rw (sym c.deref-new.ensures) (used_first _ _ c.args.wanted.now.units.now _ (c.uses_expr-in-New.ensures bodies) c.if-uses_expr-2.true)))

pub uses_expr-returns-else-uses_expr-2 : goal.uses_expr-returns-else-uses_expr-2
uses_expr-returns-else-uses_expr-2 t c = λ bodies.
    rw c.in-New.is (rw (expr_of-New (under c.args.wanted.now.texts.now bodies) c.in-New.boxed) (rw (sym c.deref-new.ensures) ((used_behind _ _ c.args.wanted.now.units.now _ _ (c.uses_expr-in-New.ensures bodies) c.if-uses_expr-2.false (c.uses_args.ensures bodies)))))

pub uses_expr-returns-then-uses_expr-3 : goal.uses_expr-returns-then-uses_expr-3
uses_expr-returns-then-uses_expr-3 t c = λ bodies.
    rw c.in-Binary.is (rw (expr_of-Binary (under c.args.wanted.now.texts.now bodies) c.in-Binary.first c.in-Binary.rest) (rw (sym c.deref-in-Binary.ensures) (used_first _ _ c.args.wanted.now.units.now _ (c.uses_expr-in-Binary.ensures bodies) c.if-uses_expr-3.true)))

pub uses_expr-returns-else-uses_expr-3 : goal.uses_expr-returns-else-uses_expr-3
uses_expr-returns-else-uses_expr-3 t c = λ bodies.
    rw c.in-Binary.is (rw (expr_of-Binary (under c.args.wanted.now.texts.now bodies) c.in-Binary.first c.in-Binary.rest) (rw (sym c.deref-in-Binary.ensures) (rw (sym c.deref-else-uses_expr-3.ensures.value) (used_behind _ _ c.args.wanted.now.units.now _ _ (c.uses_expr-in-Binary.ensures bodies) c.if-uses_expr-3.false (c.uses_operands.ensures bodies)))))

pub uses_prop-returns-then-uses_key : goal.uses_prop-returns-then-uses_key
uses_prop-returns-then-uses_key t c = λ bodies.
    rw c.in-Pair.is (rw (prop_of-Pair (under c.args.wanted.now.texts.now bodies) c.in-Pair.key c.in-Pair.value) ((used_first _ _ c.args.wanted.now.units.now _ (c.uses_key.ensures bodies) c.if-uses_key.true)))

pub uses_prop-returns-else-uses_key : goal.uses_prop-returns-else-uses_key
uses_prop-returns-else-uses_key t c = λ bodies.
    rw c.in-Pair.is (rw (prop_of-Pair (under c.args.wanted.now.texts.now bodies) c.in-Pair.key c.in-Pair.value) (((used_behind _ _ c.args.wanted.now.units.now _ _ (c.uses_key.ensures bodies) c.if-uses_key.false (c.uses_expr.ensures bodies)))))

pub uses_exprs-returns-then-uses_expr : goal.uses_exprs-returns-then-uses_expr
uses_exprs-returns-then-uses_expr t c = λ bodies.
    turn_found (λ (ys : List Expr). (uses_exprs (exprs_of (map (expr_of (under c.args.wanted.now.texts.now bodies)) ys))).own) (λ (x : Expr). (uses_expr (expr_of (under c.args.wanted.now.texts.now bodies) x)).own) c.args.wanted.now.units.now (λ (x : Expr) (xs : List Expr). has_either (uses_expr (expr_of (under c.args.wanted.now.texts.now bodies) x)).own (uses_exprs (exprs_of (map (expr_of (under c.args.wanted.now.texts.now bodies)) xs))).own c.args.wanted.now.units.now) c.args.items.now c.loop-item.item-index c.item-item.result c.uses_expr.result (omega arith) c.item-item.is (c.uses_expr.ensures bodies) (c.loop-item.invariant bodies) c.if-uses_expr.true

pub uses_exprs-loop-item-preserved : goal.uses_exprs-loop-item-preserved
uses_exprs-loop-item-preserved t c = λ bodies.
    turn_on (λ (ys : List Expr). (uses_exprs (exprs_of (map (expr_of (under c.args.wanted.now.texts.now bodies)) ys))).own) (λ (x : Expr). (uses_expr (expr_of (under c.args.wanted.now.texts.now bodies) x)).own) c.args.wanted.now.units.now (λ (x : Expr) (xs : List Expr). has_either (uses_expr (expr_of (under c.args.wanted.now.texts.now bodies) x)).own (uses_exprs (exprs_of (map (expr_of (under c.args.wanted.now.texts.now bodies)) xs))).own c.args.wanted.now.units.now) c.args.items.now c.loop-item.item-index c.item-item.result c.uses_expr.result (omega arith) c.item-item.is (c.uses_expr.ensures bodies) (c.loop-item.invariant bodies) c.if-uses_expr.false

pub uses_exprs-returns : goal.uses_exprs-returns
uses_exprs-returns t c = λ bodies.
    turns_end (λ (ys : List Expr). (uses_exprs (exprs_of (map (expr_of (under c.args.wanted.now.texts.now bodies)) ys))).own) c.args.wanted.now.units.now refl c.args.items.now c.loop-item.item-index (omega arith) (c.loop-item.invariant bodies)

pub uses_items-returns-then-uses_maybe : goal.uses_items-returns-then-uses_maybe
uses_items-returns-then-uses_maybe t c = λ bodies.
    turn_found (λ (ys : List (Option Expr)). (uses_items (items_of (map (option_map (expr_of (under c.args.wanted.now.texts.now bodies))) ys))).own) (λ (x : (Option Expr)). (uses_maybe (maybe_expr_of (option_map (expr_of (under c.args.wanted.now.texts.now bodies)) x))).own) c.args.wanted.now.units.now (λ (x : (Option Expr)) (xs : List (Option Expr)). has_either (uses_maybe (maybe_expr_of (option_map (expr_of (under c.args.wanted.now.texts.now bodies)) x))).own (uses_items (items_of (map (option_map (expr_of (under c.args.wanted.now.texts.now bodies))) xs))).own c.args.wanted.now.units.now) c.args.items.now c.loop-item.item-index c.item-item.result c.uses_maybe.result (omega arith) c.item-item.is (c.uses_maybe.ensures bodies) (c.loop-item.invariant bodies) c.if-uses_maybe.true

pub uses_items-loop-item-preserved : goal.uses_items-loop-item-preserved
uses_items-loop-item-preserved t c = λ bodies.
    turn_on (λ (ys : List (Option Expr)). (uses_items (items_of (map (option_map (expr_of (under c.args.wanted.now.texts.now bodies))) ys))).own) (λ (x : (Option Expr)). (uses_maybe (maybe_expr_of (option_map (expr_of (under c.args.wanted.now.texts.now bodies)) x))).own) c.args.wanted.now.units.now (λ (x : (Option Expr)) (xs : List (Option Expr)). has_either (uses_maybe (maybe_expr_of (option_map (expr_of (under c.args.wanted.now.texts.now bodies)) x))).own (uses_items (items_of (map (option_map (expr_of (under c.args.wanted.now.texts.now bodies))) xs))).own c.args.wanted.now.units.now) c.args.items.now c.loop-item.item-index c.item-item.result c.uses_maybe.result (omega arith) c.item-item.is (c.uses_maybe.ensures bodies) (c.loop-item.invariant bodies) c.if-uses_maybe.false

pub uses_items-returns : goal.uses_items-returns
uses_items-returns t c = λ bodies.
    turns_end (λ (ys : List (Option Expr)). (uses_items (items_of (map (option_map (expr_of (under c.args.wanted.now.texts.now bodies))) ys))).own) c.args.wanted.now.units.now refl c.args.items.now c.loop-item.item-index (omega arith) (c.loop-item.invariant bodies)

pub uses_tails-returns-then-uses_tail : goal.uses_tails-returns-then-uses_tail
uses_tails-returns-then-uses_tail t c = λ bodies.
    turn_found (λ (ys : List Tail). (uses_tails (tails_of (map (tail_of (under c.args.wanted.now.texts.now bodies)) ys))).own) (λ (x : Tail). (uses_tail (tail_of (under c.args.wanted.now.texts.now bodies) x)).own) c.args.wanted.now.units.now (λ (x : Tail) (xs : List Tail). has_either (uses_tail (tail_of (under c.args.wanted.now.texts.now bodies) x)).own (uses_tails (tails_of (map (tail_of (under c.args.wanted.now.texts.now bodies)) xs))).own c.args.wanted.now.units.now) c.args.tails.now c.loop-tail.tail-index c.tail-item.result c.uses_tail.result (omega arith) c.tail-item.is (c.uses_tail.ensures bodies) (c.loop-tail.invariant bodies) c.if-uses_tail.true

pub uses_tails-loop-tail-preserved : goal.uses_tails-loop-tail-preserved
uses_tails-loop-tail-preserved t c = λ bodies.
    turn_on (λ (ys : List Tail). (uses_tails (tails_of (map (tail_of (under c.args.wanted.now.texts.now bodies)) ys))).own) (λ (x : Tail). (uses_tail (tail_of (under c.args.wanted.now.texts.now bodies) x)).own) c.args.wanted.now.units.now (λ (x : Tail) (xs : List Tail). has_either (uses_tail (tail_of (under c.args.wanted.now.texts.now bodies) x)).own (uses_tails (tails_of (map (tail_of (under c.args.wanted.now.texts.now bodies)) xs))).own c.args.wanted.now.units.now) c.args.tails.now c.loop-tail.tail-index c.tail-item.result c.uses_tail.result (omega arith) c.tail-item.is (c.uses_tail.ensures bodies) (c.loop-tail.invariant bodies) c.if-uses_tail.false

pub uses_tails-returns : goal.uses_tails-returns
uses_tails-returns t c = λ bodies.
    turns_end (λ (ys : List Tail). (uses_tails (tails_of (map (tail_of (under c.args.wanted.now.texts.now bodies)) ys))).own) c.args.wanted.now.units.now refl c.args.tails.now c.loop-tail.tail-index (omega arith) (c.loop-tail.invariant bodies)

pub uses_props-returns-then-uses_prop : goal.uses_props-returns-then-uses_prop
uses_props-returns-then-uses_prop t c = λ bodies.
    turn_found (λ (ys : List Prop). (uses_props (props_of (map (prop_of (under c.args.wanted.now.texts.now bodies)) ys))).own) (λ (x : Prop). (uses_prop (prop_of (under c.args.wanted.now.texts.now bodies) x)).own) c.args.wanted.now.units.now (λ (x : Prop) (xs : List Prop). has_either (uses_prop (prop_of (under c.args.wanted.now.texts.now bodies) x)).own (uses_props (props_of (map (prop_of (under c.args.wanted.now.texts.now bodies)) xs))).own c.args.wanted.now.units.now) c.args.props.now c.loop-prop.prop-index c.prop-item.result c.uses_prop.result (omega arith) c.prop-item.is (c.uses_prop.ensures bodies) (c.loop-prop.invariant bodies) c.if-uses_prop.true

pub uses_props-loop-prop-preserved : goal.uses_props-loop-prop-preserved
uses_props-loop-prop-preserved t c = λ bodies.
    turn_on (λ (ys : List Prop). (uses_props (props_of (map (prop_of (under c.args.wanted.now.texts.now bodies)) ys))).own) (λ (x : Prop). (uses_prop (prop_of (under c.args.wanted.now.texts.now bodies) x)).own) c.args.wanted.now.units.now (λ (x : Prop) (xs : List Prop). has_either (uses_prop (prop_of (under c.args.wanted.now.texts.now bodies) x)).own (uses_props (props_of (map (prop_of (under c.args.wanted.now.texts.now bodies)) xs))).own c.args.wanted.now.units.now) c.args.props.now c.loop-prop.prop-index c.prop-item.result c.uses_prop.result (omega arith) c.prop-item.is (c.uses_prop.ensures bodies) (c.loop-prop.invariant bodies) c.if-uses_prop.false

pub uses_props-returns : goal.uses_props-returns
uses_props-returns t c = λ bodies.
    turns_end (λ (ys : List Prop). (uses_props (props_of (map (prop_of (under c.args.wanted.now.texts.now bodies)) ys))).own) c.args.wanted.now.units.now refl c.args.props.now c.loop-prop.prop-index (omega arith) (c.loop-prop.invariant bodies)

pub uses_operands-returns-then-uses_expr : goal.uses_operands-returns-then-uses_expr
uses_operands-returns-then-uses_expr t c = λ bodies.
    turn_found (λ (ys : List Operand). (uses_operands (operands_of (map (operand_of (under c.args.wanted.now.texts.now bodies)) ys))).own) (λ (x : Operand). (uses_expr (expr_of (under c.args.wanted.now.texts.now bodies) (out-Operand x).value)).own) c.args.wanted.now.units.now (λ (x : Operand) (xs : List Operand). has_either (uses_expr (operand_of (under c.args.wanted.now.texts.now bodies) x).value).own (uses_operands (operands_of (map (operand_of (under c.args.wanted.now.texts.now bodies)) xs))).own c.args.wanted.now.units.now ∙ ap (λ (p : part.Operand). has_text (uses_expr p.value).own c.args.wanted.now.units.now || has_text (uses_operands (operands_of (map (operand_of (under c.args.wanted.now.texts.now bodies)) xs))).own c.args.wanted.now.units.now) (operand_of-fields (under c.args.wanted.now.texts.now bodies) x)) c.args.rest.now c.loop-operand.operand-index c.operand-item.result c.uses_expr.result (omega arith) c.operand-item.is (c.uses_expr.ensures bodies) (c.loop-operand.invariant bodies) c.if-uses_expr.true

pub uses_operands-loop-operand-preserved : goal.uses_operands-loop-operand-preserved
uses_operands-loop-operand-preserved t c = λ bodies.
    turn_on (λ (ys : List Operand). (uses_operands (operands_of (map (operand_of (under c.args.wanted.now.texts.now bodies)) ys))).own) (λ (x : Operand). (uses_expr (expr_of (under c.args.wanted.now.texts.now bodies) (out-Operand x).value)).own) c.args.wanted.now.units.now (λ (x : Operand) (xs : List Operand). has_either (uses_expr (operand_of (under c.args.wanted.now.texts.now bodies) x).value).own (uses_operands (operands_of (map (operand_of (under c.args.wanted.now.texts.now bodies)) xs))).own c.args.wanted.now.units.now ∙ ap (λ (p : part.Operand). has_text (uses_expr p.value).own c.args.wanted.now.units.now || has_text (uses_operands (operands_of (map (operand_of (under c.args.wanted.now.texts.now bodies)) xs))).own c.args.wanted.now.units.now) (operand_of-fields (under c.args.wanted.now.texts.now bodies) x)) c.args.rest.now c.loop-operand.operand-index c.operand-item.result c.uses_expr.result (omega arith) c.operand-item.is (c.uses_expr.ensures bodies) (c.loop-operand.invariant bodies) c.if-uses_expr.false

pub uses_operands-returns : goal.uses_operands-returns
uses_operands-returns t c = λ bodies.
    turns_end (λ (ys : List Operand). (uses_operands (operands_of (map (operand_of (under c.args.wanted.now.texts.now bodies)) ys))).own) c.args.wanted.now.units.now refl c.args.rest.now c.loop-operand.operand-index (omega arith) (c.loop-operand.invariant bodies)

pub uses_parts-returns-then-uses_expr : goal.uses_parts-returns-then-uses_expr
uses_parts-returns-then-uses_expr t c = λ bodies.
    turn_found (λ (ys : List TemplatePart). (uses_parts (parts_of (map (part_of (under c.args.wanted.now.texts.now bodies)) ys))).own) (λ (x : TemplatePart). (uses_expr (expr_of (under c.args.wanted.now.texts.now bodies) (out-TemplatePart x).value)).own) c.args.wanted.now.units.now (λ (x : TemplatePart) (xs : List TemplatePart). has_either (uses_expr (part_of (under c.args.wanted.now.texts.now bodies) x).value).own (uses_parts (parts_of (map (part_of (under c.args.wanted.now.texts.now bodies)) xs))).own c.args.wanted.now.units.now ∙ ap (λ (p : part.Part). has_text (uses_expr p.value).own c.args.wanted.now.units.now || has_text (uses_parts (parts_of (map (part_of (under c.args.wanted.now.texts.now bodies)) xs))).own c.args.wanted.now.units.now) (part_of-fields (under c.args.wanted.now.texts.now bodies) x)) c.args.parts.now c.loop-part.part-index c.part-item.result c.uses_expr.result (omega arith) c.part-item.is (c.uses_expr.ensures bodies) (c.loop-part.invariant bodies) c.if-uses_expr.true

pub uses_parts-loop-part-preserved : goal.uses_parts-loop-part-preserved
uses_parts-loop-part-preserved t c = λ bodies.
    turn_on (λ (ys : List TemplatePart). (uses_parts (parts_of (map (part_of (under c.args.wanted.now.texts.now bodies)) ys))).own) (λ (x : TemplatePart). (uses_expr (expr_of (under c.args.wanted.now.texts.now bodies) (out-TemplatePart x).value)).own) c.args.wanted.now.units.now (λ (x : TemplatePart) (xs : List TemplatePart). has_either (uses_expr (part_of (under c.args.wanted.now.texts.now bodies) x).value).own (uses_parts (parts_of (map (part_of (under c.args.wanted.now.texts.now bodies)) xs))).own c.args.wanted.now.units.now ∙ ap (λ (p : part.Part). has_text (uses_expr p.value).own c.args.wanted.now.units.now || has_text (uses_parts (parts_of (map (part_of (under c.args.wanted.now.texts.now bodies)) xs))).own c.args.wanted.now.units.now) (part_of-fields (under c.args.wanted.now.texts.now bodies) x)) c.args.parts.now c.loop-part.part-index c.part-item.result c.uses_expr.result (omega arith) c.part-item.is (c.uses_expr.ensures bodies) (c.loop-part.invariant bodies) c.if-uses_expr.false

pub uses_parts-returns : goal.uses_parts-returns
uses_parts-returns t c = λ bodies.
    turns_end (λ (ys : List TemplatePart). (uses_parts (parts_of (map (part_of (under c.args.wanted.now.texts.now bodies)) ys))).own) c.args.wanted.now.units.now refl c.args.parts.now c.loop-part.part-index (omega arith) (c.loop-part.invariant bodies)

pub uses_expr-returns-then-uses_expr-4 : goal.uses_expr-returns-then-uses_expr-4
uses_expr-returns-then-uses_expr-4 t c = λ bodies.
    rw c.in-Cond.is (rw (expr_of-Cond (under c.args.wanted.now.texts.now bodies) c.in-Cond.test c.in-Cond.yes c.in-Cond.no) (rw (sym c.deref-in-Cond.ensures) (used_first _ _ c.args.wanted.now.units.now _ (c.uses_expr-in-Cond.ensures bodies) c.if-uses_expr-4.true)))

pub uses_expr-returns-then-uses_expr-5 : goal.uses_expr-returns-then-uses_expr-5
uses_expr-returns-then-uses_expr-5 t c = λ bodies.
    rw c.in-Cond.is (rw (expr_of-Cond (under c.args.wanted.now.texts.now bodies) c.in-Cond.test c.in-Cond.yes c.in-Cond.no) (rw (sym c.deref-in-Cond.ensures) (rw (sym c.deref-else-uses_expr-4.ensures) (used_behind _ _ c.args.wanted.now.units.now _ _ (c.uses_expr-in-Cond.ensures bodies) c.if-uses_expr-4.false (used_first _ _ c.args.wanted.now.units.now _ (c.uses_expr-else-uses_expr-4.ensures bodies) c.if-uses_expr-5.true)))))

pub uses_expr-returns-else-uses_expr-5 : goal.uses_expr-returns-else-uses_expr-5
uses_expr-returns-else-uses_expr-5 t c = λ bodies.
    rw c.in-Cond.is (rw (expr_of-Cond (under c.args.wanted.now.texts.now bodies) c.in-Cond.test c.in-Cond.yes c.in-Cond.no) (rw (sym c.deref-in-Cond.ensures) (rw (sym c.deref-else-uses_expr-4.ensures) (rw (sym c.deref-else-uses_expr-5.ensures) (used_behind _ _ c.args.wanted.now.units.now _ _ (c.uses_expr-in-Cond.ensures bodies) c.if-uses_expr-4.false (used_behind _ _ c.args.wanted.now.units.now _ _ (c.uses_expr-else-uses_expr-4.ensures bodies) c.if-uses_expr-5.false (c.uses_expr-else-uses_expr-5.ensures bodies)))))))

pub uses_expr-returns-then-uses_expr-6 : goal.uses_expr-returns-then-uses_expr-6
uses_expr-returns-then-uses_expr-6 t c = λ bodies.
    rw c.in-Assign.is (rw (expr_of-Assign (under c.args.wanted.now.texts.now bodies) c.in-Assign.op c.in-Assign.target c.in-Assign.value) (rw (sym c.deref-in-Assign.ensures) (used_first _ _ c.args.wanted.now.units.now _ (c.uses_expr-in-Assign.ensures bodies) c.if-uses_expr-6.true)))

pub uses_expr-returns-else-uses_expr-6 : goal.uses_expr-returns-else-uses_expr-6
uses_expr-returns-else-uses_expr-6 t c = λ bodies.
    rw c.in-Assign.is (rw (expr_of-Assign (under c.args.wanted.now.texts.now bodies) c.in-Assign.op c.in-Assign.target c.in-Assign.value) (rw (sym c.deref-in-Assign.ensures) (rw (sym c.deref-else-uses_expr-6.ensures) (used_behind _ _ c.args.wanted.now.units.now _ _ (c.uses_expr-in-Assign.ensures bodies) c.if-uses_expr-6.false (c.uses_expr-else-uses_expr-6.ensures bodies)))))

pub uses_args-returns-in-Some : goal.uses_args-returns-in-Some
uses_args-returns-in-Some t c = λ bodies.
    c.uses_exprs.ensures bodies ∙ (ap (λ (xs : List Expr). has_text (uses_exprs (exprs_of (map (expr_of (under c.args.wanted.now.texts.now bodies)) xs))).own c.args.wanted.now.units.now) c.deref.ensures.value ∙ (ap (λ (p : part.Args). has_text (uses_exprs (exprs_of p.items)).own c.args.wanted.now.units.now) (sym (args_of-fields (under c.args.wanted.now.texts.now bodies) c.in-Some.given)) ∙ ap (λ (o : Option Args). has_text (uses_args (maybe_args_of (option_map (args_of (under c.args.wanted.now.texts.now bodies)) o))).own c.args.wanted.now.units.now) (sym c.in-Some.is)))

pub uses_maybe-returns-in-Some : goal.uses_maybe-returns-in-Some
uses_maybe-returns-in-Some t c = λ bodies.
    rw c.in-Some.is (c.uses_expr.ensures bodies)

pub uses_key-returns-in-Computed : goal.uses_key-returns-in-Computed
uses_key-returns-in-Computed t c = λ bodies.
    rw c.in-Computed.is (rw (key_of-Computed (under c.args.wanted.now.texts.now bodies) c.in-Computed.value) (c.uses_expr.ensures bodies))

pub uses_prop-returns-in-Method : goal.uses_prop-returns-in-Method
uses_prop-returns-in-Method t c = λ bodies.
    rw c.in-Method.is (rw (prop_of-Method (under c.args.wanted.now.texts.now bodies) c.in-Method.key c.in-Method.func) (rw (func_of-fields (under c.args.wanted.now.texts.now bodies) c.in-Method.func.value) (c.uses_key-in-Method.ensures bodies ∙ sym (no_functions (uses_key (key_of (under c.args.wanted.now.texts.now bodies) c.in-Method.key)).own c.args.wanted.now.units.now))))

pub uses_prop-returns-in-Get : goal.uses_prop-returns-in-Get
uses_prop-returns-in-Get t c = λ bodies.
    rw c.in-Get.is (rw (prop_of-Get (under c.args.wanted.now.texts.now bodies) c.in-Get.key c.in-Get.func) (rw (func_of-fields (under c.args.wanted.now.texts.now bodies) c.in-Get.func.value) (c.uses_key-in-Get.ensures bodies ∙ sym (no_functions (uses_key (key_of (under c.args.wanted.now.texts.now bodies) c.in-Get.key)).own c.args.wanted.now.units.now))))

pub uses_prop-returns-in-Set : goal.uses_prop-returns-in-Set
uses_prop-returns-in-Set t c = λ bodies.
    rw c.in-Set.is (rw (prop_of-Set (under c.args.wanted.now.texts.now bodies) c.in-Set.key c.in-Set.func) (rw (func_of-fields (under c.args.wanted.now.texts.now bodies) c.in-Set.func.value) (c.uses_key-in-Set.ensures bodies ∙ sym (no_functions (uses_key (key_of (under c.args.wanted.now.texts.now bodies) c.in-Set.key)).own c.args.wanted.now.units.now))))

pub uses_tail-returns-in-Index : goal.uses_tail-returns-in-Index
uses_tail-returns-in-Index t c = λ bodies.
    rw c.in-Index.is (rw (tail_of-Index (under c.args.wanted.now.texts.now bodies) c.in-Index.value) (c.uses_expr.ensures bodies))

pub uses_tail-returns-in-Call : goal.uses_tail-returns-in-Call
uses_tail-returns-in-Call t c = λ bodies.
    rw c.in-Call.is (rw (tail_of-Call (under c.args.wanted.now.texts.now bodies) c.in-Call.given) (c.uses_exprs.ensures bodies ∙ (ap (λ (xs : List Expr). has_text (uses_exprs (exprs_of (map (expr_of (under c.args.wanted.now.texts.now bodies)) xs))).own c.args.wanted.now.units.now) c.deref.ensures.value ∙ ap (λ (p : part.Args). has_text (uses_exprs (exprs_of p.items)).own c.args.wanted.now.units.now) (sym (args_of-fields (under c.args.wanted.now.texts.now bodies) c.in-Call.given)))))
