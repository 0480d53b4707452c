use Rattle.std.proofs.Common.{◌≡◌, List, ◌++◌, ℕ, ◌+◌, Option, map, drop, length, drop_of_length-le, nat_lt, refl, sym, ◌∙◌, ap, subst, subst₂, arith, ◌≤◌}
use Rattle.std.proofs.lemmas.List.{take_rest}
use denote.Param.Weighed.{most, at_most}
use Rattle.script_grammar.specs.declared.tree.Each.TheShapes.{weighed-Expr-Array-1-at-1}
use Rattle.script_grammar.proofs.tree.Expr.TheLaws.{the_size}
use Rattle.script_grammar.specs.declared.tree.Func.{Func, out-Func}
use Rattle.script_grammar.specs.declared.tree.NewExpression.{out-NewExpression}
use Rattle.script_grammar.specs.declared.tree.Expr.{Expr}
use Rattle.script_grammar.specs.declared.tree.Tail.{Tail}
use Rattle.script_grammar.specs.declared.tree.Args.{Args}
use Rattle.script_grammar.specs.declared.tree.Key.{Key}
use Rattle.script_grammar.specs.declared.tree.Prop.{Prop}
use Rattle.script_grammar.specs.declared.tree.Operand.{Operand}
use Rattle.script_grammar.specs.TreeLists.{tails_of}
use Rattle.script_grammar.specs.TreeOf.{tail_of}
use Rattle.bytecode_buf.specs.Appends.{AllRoom, kept}
use Rattle.bytecode_buf.specs.declared.waits.Aim.TheVariants as aim
use Rattle.bytecode_buf.specs.declared.waits.Wait.{Wait}
use Rattle.bytecode_buf.specs.Emits.{LandsHere}
use Rattle.bytecode_buf.proofs.AppendLemmas.{emits_none}
use Rattle.emit_exprs.specs.Exprs.{use_before}
use Rattle.emit_exprs.specs.Targets.{IsTarget}
use Rattle.emit_exprs.specs.Shortcuts.{OperandsEmit, Joins}
use Rattle.emit_exprs.specs.TreeCode.{ItemEmits, TailEmits, PropEmits, KeyEmits, ArgsEmit}
use Rattle.emit_exprs.proofs.Arms as arm
use Rattle.emit_exprs.proofs.Rows as row
use Rattle.emit_exprs.proofs.Choices as choice
use Rattle.emit_exprs.proofs.Lists as list
use Rattle.emit_exprs.proofs.exprs.+exprs.Goals as goal

pub emit_args-returns-in_ok-construct-in-Some : goal.emit_args-returns-in_ok-construct-in-Some
emit_args-returns-in_ok-construct-in-Some t c = subst (λ (a : Option Args). ArgsEmit c.args.site.now c.args.out.now c.construct.new.out c.args.wanted a) (sym c.in-Some.is) (row.args_some c.in-Some.some c.deref.result.now c.len.result c.deref.ensures.value (omega (arith, c.len.ensures, c.deref.ensures.len)) c.in_ok-emit_exprs-in-Some.ensures c.in_ok-construct-in-Some.ensures)

pub emit_args-returns-in_ok-construct-in-None : goal.emit_args-returns-in_ok-construct-in-None
emit_args-returns-in_ok-construct-in-None t c = subst (λ (a : Option Args). ArgsEmit c.args.site.now c.args.out.now c.construct-in-None.new.out c.args.wanted a) (sym c.in-None.is) (row.args_none c.in_ok-construct-in-None.ensures)

pub emit_array-emit_item-requires : goal.emit_array-emit_item-requires
emit_array-emit_item-requires t c =
    let weigh : Option Expr → ℕ = (λ x. weighed-Expr-Array-1-at-1.weight Expr the_size x) in
    let below : weigh c.index-items-index.result ≤ most weigh c.args.items.now = subst (λ (x : Option Expr). weigh x ≤ most weigh c.args.items.now) (sym c.index-items-index.is) (at_most weigh c.args.items.now c.loop-index.index c.index-items-index.result c.loop-index-test.true) in
    (omega (arith, below, c.decreases), tt)

pub emit_array-returns : goal.emit_array-returns
emit_array-returns t c = λ at comma. row.array_row c.args.items.now (length c.args.items.now) at comma refl c.in_ok-new_array.ensures (list.items_end _ (drop_of_length-le c.args.items.now c.loop-index-test.false) c.loop-index.invariant) (c.in_ok-used_value.ensures c.args.site.now.texts.now)

pub emit_array-loop-index-preserved : goal.emit_array-loop-index-preserved
emit_array-loop-index-preserved t c = list.items_next _ _ c.index-items-index.result (list.next_of c.args.items.now c.loop-index.index c.index-items-index.result c.loop-index-test.true c.index-items-index.is) c.in_ok-emit_item.ensures c.in_ok-array_item.ensures c.loop-index.invariant

pub emit_array-loop-index-init : goal.emit_array-loop-index-init
emit_array-loop-index-init t c = list.items_begin _ _ _

pub emit_comma-loop-index-init : goal.emit_comma-loop-index-init
emit_comma-loop-index-init t c = list.comma_begin _ _ _

pub emit_comma-returns : goal.emit_comma-returns
emit_comma-returns t c = row.comma_row c.args.items.now (list.comma_end _ (drop_of_length-le c.args.items.now c.loop-index-test.false) c.loop-index.invariant) (c.in_ok-used_value.ensures c.args.site.now.texts.now)

pub emit_comma-loop-index-preserved : goal.emit_comma-loop-index-preserved
emit_comma-loop-index-preserved t c = list.comma_next _ (drop (c.loop-index.index + 1) c.args.items.now) c.index-items-index.result (nat_lt (c.loop-index.index + 1) (length c.args.items.now)) (list.next_of c.args.items.now c.loop-index.index c.index-items-index.result c.loop-index-test.true c.index-items-index.is) (list.has_next-drop c.args.items.now (c.loop-index.index + 1)) c.in_ok-emit_expr.ensures (c.in_ok-dropping.ensures c.args.site.now.texts.now) c.loop-index.invariant

pub emit_tails-loop-index-init : goal.emit_tails-loop-index-init
emit_tails-loop-index-init t c = list.tails_begin _ _ _ _

pub emit_tails-returns : goal.emit_tails-returns
emit_tails-returns t c = record { code = list.tails_end _ (drop_of_length-le c.args.tails.now c.loop-index-test.false) c.loop-index.invariant }

pub emit_tails-loop-index-preserved : goal.emit_tails-loop-index-preserved
emit_tails-loop-index-preserved t c = list.tails_next _ (drop (c.loop-index.index + 1) c.args.tails.now) c.index-tails-index.result c.use_before.result (list.next_of c.args.tails.now c.loop-index.index c.index-tails-index.result c.loop-index-test.true c.index-tails-index.is)
    (λ i. c.use_before.ensures i ∙ ap (λ (l : List Tail). use_before c.args.wanted (tails_of (map (tail_of i) l))) (take_rest c.args.tails.now (c.loop-index.index + 1))) c.in_ok-emit_tail.ensures c.loop-index.invariant

pub emit_operands-loop-operand-init : goal.emit_operands-loop-operand-init
emit_operands-loop-operand-init t c = choice.operands_begin _ _ _ _ _

pub emit_operands-returns : goal.emit_operands-returns
emit_operands-returns t c = choice.operands_end _ (drop_of_length-le c.args.rest.now c.loop-operand-test.false) c.loop-operand.invariant

pub emit_operands-loop-operand-preserved : goal.emit_operands-loop-operand-preserved
emit_operands-loop-operand-preserved t c = choice.operands_next _ _ c.operand-item.result _ _ _ (list.next_of c.args.rest.now c.loop-operand.operand-index c.operand-item.result c.loop-operand-test.true c.operand-item.is) refl refl refl c.in_ok-before_operand.ensures c.in_ok-emit_expr.ensures (c.in_ok-behind_operand.ensures c.args.site.now.texts.now) c.loop-operand.invariant

pub emit_exprs-loop-item-init : goal.emit_exprs-loop-item-init
emit_exprs-loop-item-init t c = list.exprs_begin _ _ _

pub emit_exprs-returns : goal.emit_exprs-returns
emit_exprs-returns t c = list.exprs_end _ (drop_of_length-le c.args.items.now c.loop-item-test.false) c.loop-item.invariant

pub emit_exprs-loop-item-preserved : goal.emit_exprs-loop-item-preserved
emit_exprs-loop-item-preserved t c = list.exprs_next _ _ c.item-item.result (list.next_of c.args.items.now c.loop-item.item-index c.item-item.result c.loop-item-test.true c.item-item.is) c.in_ok-emit_expr.ensures c.loop-item.invariant

pub emit_object-loop-prop-init : goal.emit_object-loop-prop-init
emit_object-loop-prop-init t c = list.props_begin _ _ _

pub emit_object-returns : goal.emit_object-returns
emit_object-returns t c = λ at comma. row.object_row c.args.props.now at comma (c.in_ok-plain.ensures c.args.site.now.texts.now) (list.props_end _ (drop_of_length-le c.args.props.now c.loop-prop-test.false) c.loop-prop.invariant) (c.in_ok-used_value.ensures c.args.site.now.texts.now)

pub emit_object-loop-prop-preserved : goal.emit_object-loop-prop-preserved
emit_object-loop-prop-preserved t c = list.props_next _ _ c.prop-item.result (list.next_of c.args.props.now c.loop-prop.prop-index c.prop-item.result c.loop-prop-test.true c.prop-item.is) c.in_ok-emit_prop.ensures c.loop-prop.invariant

pub emit_template-loop-part-init : goal.emit_template-loop-part-init
emit_template-loop-part-init t c = list.parts_begin _ _ _

pub emit_template-returns : goal.emit_template-returns
emit_template-returns t c = λ at. row.template_row c.args.first c.args.parts.now at (c.in_ok-named.ensures c.args.site.now.texts.now) (list.parts_end _ (drop_of_length-le c.args.parts.now c.loop-part-test.false) c.loop-part.invariant) (c.in_ok-used_value.ensures c.args.site.now.texts.now)

pub emit_template-loop-part-preserved : goal.emit_template-loop-part-preserved
emit_template-loop-part-preserved t c = list.parts_next _ _ c.part-item.result _ _ (list.next_of c.args.parts.now c.loop-part.part-index c.part-item.result c.loop-part-test.true c.part-item.is) refl refl c.in_ok-emit_expr.ensures c.in_ok-after_part.ensures c.loop-part.invariant

pub emit_expr-returns-in_ok-emit_template-in-Template : goal.emit_expr-returns-in_ok-emit_template-in-Template
emit_expr-returns-in_ok-emit_template-in-Template t c = arm.at_template _ c.in-Template.at c.in-Template.first c.in-Template.parts c.deref.result.now c.in-Template.is c.deref.ensures.value c.in_ok-emit_template-in-Template.ensures

pub emit_expr-returns-in_ok-emit_array-in-Array : goal.emit_expr-returns-in_ok-emit_array-in-Array
emit_expr-returns-in_ok-emit_array-in-Array t c = arm.at_array _ c.in-Array.at c.in-Array.items c.in-Array.comma c.deref-in-Array.result.now c.in-Array.is c.deref-in-Array.ensures.value c.in_ok-emit_array-in-Array.ensures

pub emit_expr-returns-in_ok-emit_object-in-Object : goal.emit_expr-returns-in_ok-emit_object-in-Object
emit_expr-returns-in_ok-emit_object-in-Object t c = arm.at_object _ c.in-Object.at c.in-Object.props c.in-Object.comma c.deref-in-Object.result.now c.in-Object.is c.deref-in-Object.ensures.value c.in_ok-emit_object-in-Object.ensures

pub emit_expr-returns-in_ok-function_value-in-Func : goal.emit_expr-returns-in_ok-function_value-in-Func
emit_expr-returns-in_ok-function_value-in-Func t c = arm.at_func _ c.in-Func.at c.in-Func.func _ c.in-Func.is (ap (λ (f : Func). (out-Func f).start) c.deref-in-Func.ensures) c.in_ok-function_value-in-Func.ensures

pub emit_expr-returns-in_ok-emit_expr-in-Paren : goal.emit_expr-returns-in_ok-emit_expr-in-Paren
emit_expr-returns-in_ok-emit_expr-in-Paren t c = arm.at_paren _ c.in-Paren.at c.in-Paren.inner c.deref-in-Paren.result.now c.in-Paren.is c.deref-in-Paren.ensures c.in_ok-emit_expr-in-Paren.ensures

pub emit_expr-returns-in_ok-emit_tails-in-Chain : goal.emit_expr-returns-in_ok-emit_tails-in-Chain
emit_expr-returns-in_ok-emit_tails-in-Chain t c = arm.at_chain _ c.in-Chain.head c.in-Chain.tails c.deref-in-Chain.result.now c.deref-in-Chain-3.result.now c.in-Chain.is c.deref-in-Chain.ensures c.deref-in-Chain-3.ensures.value
    (row.chain_row c.deref-in-Chain.result.now c.deref-in-Chain-3.result.now c.use_before.result (λ i. c.use_before.ensures i ∙ ap (λ (l : List Tail). use_before c.args.wanted (tails_of (map (tail_of i) l))) (c.deref-in-Chain-2.ensures.value ∙ sym c.deref-in-Chain-3.ensures.value)) c.in_ok-emit_expr-in-Chain.ensures c.in_ok-emit_tails-in-Chain.ensures)

pub emit_expr-returns-in_ok-emit_args-in-New : goal.emit_expr-returns-in_ok-emit_args-in-New
emit_expr-returns-in_ok-emit_args-in-New t c = arm.at_new _ c.in-New.boxed c.deref-new.result.now c.in-New.is c.deref-new.ensures
    (row.new_row (out-NewExpression c.deref-new.result.now).at (out-NewExpression c.deref-new.result.now).callee (out-NewExpression c.deref-new.result.now).args c.in_ok-emit_expr-in-New.ensures (c.in_ok-before_new-in-New.ensures c.args.site.now.texts.now) c.in_ok-emit_args-in-New.ensures)

pub emit_expr-returns-in_ok-emit_unary-in-Unary : goal.emit_expr-returns-in_ok-emit_unary-in-Unary
emit_expr-returns-in_ok-emit_unary-in-Unary t c = arm.at_unary _ c.in-Unary.at c.in-Unary.op c.in-Unary.of c.in-Unary.is_word c.deref-in-Unary.result.now c.in-Unary.is c.deref-in-Unary.ensures c.in_ok-emit_unary-in-Unary.ensures

pub emit_expr-returns-in_ok-emit_update-in-Update : goal.emit_expr-returns-in_ok-emit_update-in-Update
emit_expr-returns-in_ok-emit_update-in-Update t c = arm.at_update _ c.in-Update.at c.in-Update.op c.in-Update.prefix c.in-Update.of c.deref-in-Update.result.now c.in-Update.is c.deref-in-Update.ensures c.in_ok-emit_update-in-Update.ensures

pub emit_expr-join-requires : goal.emit_expr-join-requires
emit_expr-join-requires t c = subst (AllRoom (length c.emit_operands.new.out)) (sym c.deref-in-Binary-5.ensures.value) (choice.list_room c.in_ok-emit_expr-in-Binary.ensures c.new-waits.ensures.items c.in_ok-emit_operands-in-Binary.ensures)

pub emit_expr-returns-in_ok-used_value-in-Binary : goal.emit_expr-returns-in_ok-used_value-in-Binary
emit_expr-returns-in_ok-used_value-in-Binary t c = arm.at_binary _ c.in-Binary.first c.in-Binary.rest c.deref-in-Binary-2.result.now c.deref-in-Binary.result.now c.in-Binary.is c.deref-in-Binary-2.ensures c.deref-in-Binary.ensures.value
    (choice.binary_row c.deref-in-Binary-2.result.now c.deref-in-Binary.result.now c.list_joining-how.result c.list_joining-how.ensures c.new-waits.ensures.items c.in_ok-emit_expr-in-Binary.ensures
    (subst (λ (l : List Operand). OperandsEmit c.args.site.now c.list_joining-how.result c.emit_expr-in-Binary.new.out c.new-waits.result.items c.emit_operands.new.out c.emit_operands.new.waits.items l) (c.deref-in-Binary-3.ensures.value ∙ sym c.deref-in-Binary.ensures.value) c.in_ok-emit_operands-in-Binary.ensures)
    (subst₂ (λ (l : List Operand) (ws : List Wait). Joins c.args.site.now c.list_joining-how.result l c.emit_operands.new.out ws c.join.new.out) (c.deref-in-Binary-4.ensures.value ∙ sym c.deref-in-Binary.ensures.value) c.deref-in-Binary-5.ensures.value c.in_ok-join-in-Binary.ensures)
    (c.in_ok-used_value-in-Binary.ensures c.args.site.now.texts.now))

pub emit_expr-target-requires : goal.emit_expr-target-requires
emit_expr-target-requires t c = subst (AllRoom (length c.jump_to-in-Cond.new.out)) (sym c.deref-in-Cond-3.ensures.value) (choice.first_room c.in_ok-emit_expr-in-Cond.ensures c.new-waits-in-Cond.ensures.items c.in_ok-jump_to-in-Cond.ensures.jumps c.in_ok-emit_expr-in-Cond-2.ensures c.in_ok-jump_to-in-Cond-2.ensures.jumps)

pub emit_expr-target-requires-in-Cond : goal.emit_expr-target-requires-in-Cond
emit_expr-target-requires-in-Cond t c = subst (AllRoom (length c.emit_expr-in-Cond-3.new.out)) (sym c.deref-in-Cond-5.ensures.value)
    (choice.second_room c.in_ok-emit_expr-in-Cond.ensures c.new-waits-in-Cond.ensures.items c.in_ok-jump_to-in-Cond.ensures.jumps c.in_ok-emit_expr-in-Cond-2.ensures c.in_ok-jump_to-in-Cond-2.ensures.jumps c.new-ends.ensures.items
    (subst (λ (ws : List Wait). LandsHere aim.Otherwise c.jump_to-in-Cond.new.out ws c.new-ends.result.items c.target.new.out c.target.new.waits.items) c.deref-in-Cond-3.ensures.value c.in_ok-target-in-Cond.ensures.lands) c.in_ok-emit_expr-in-Cond-3.ensures)

pub emit_expr-returns-in_ok-used_value-in-Cond : goal.emit_expr-returns-in_ok-used_value-in-Cond
emit_expr-returns-in_ok-used_value-in-Cond t c = arm.at_cond _ c.in-Cond.test c.in-Cond.yes c.in-Cond.no c.deref-in-Cond.result.now c.deref-in-Cond-2.result.now c.deref-in-Cond-4.result.now c.in-Cond.is c.deref-in-Cond.ensures c.deref-in-Cond-2.ensures c.deref-in-Cond-4.ensures
    (choice.cond_row c.deref-in-Cond.result.now c.deref-in-Cond-2.result.now c.deref-in-Cond-4.result.now c.in_ok-emit_expr-in-Cond.ensures c.new-waits-in-Cond.ensures.items c.in_ok-jump_to-in-Cond.ensures.jumps c.in_ok-jump_to-in-Cond.ensures.waits c.in_ok-emit_expr-in-Cond-2.ensures c.in_ok-jump_to-in-Cond-2.ensures.jumps c.in_ok-jump_to-in-Cond-2.ensures.waits c.new-ends.ensures.items
    (subst (λ (ws : List Wait). LandsHere aim.Otherwise c.jump_to-in-Cond.new.out ws c.new-ends.result.items c.target.new.out c.target.new.waits.items) c.deref-in-Cond-3.ensures.value c.in_ok-target-in-Cond.ensures.lands)
    (subst (λ (ws : List Wait). c.target.new.waits.items ≡ c.new-ends.result.items ++ kept aim.Otherwise ws) c.deref-in-Cond-3.ensures.value c.in_ok-target-in-Cond.ensures.waits) c.in_ok-emit_expr-in-Cond-3.ensures c.new-outside.ensures.items
    (subst (λ (ws : List Wait). LandsHere aim.After c.emit_expr-in-Cond-3.new.out ws c.new-outside.result.items c.target-in-Cond.new.out c.target-in-Cond.new.waits.items) c.deref-in-Cond-5.ensures.value c.in_ok-target-in-Cond-2.ensures.lands)
    (subst (λ (ws : List Wait). c.target-in-Cond.new.waits.items ≡ c.new-outside.result.items ++ kept aim.After ws) c.deref-in-Cond-5.ensures.value c.in_ok-target-in-Cond-2.ensures.waits) (c.in_ok-used_value-in-Cond.ensures c.args.site.now.texts.now))

pub emit_expr-returns-in_ok-used_value-in-Assign : goal.emit_expr-returns-in_ok-used_value-in-Assign
emit_expr-returns-in_ok-used_value-in-Assign t c = arm.at_assign _ c.in-Assign.op c.in-Assign.target c.in-Assign.value c.deref-in-Assign-2.result.now c.deref-in-Assign-3.result.now c.in-Assign.is c.deref-in-Assign-2.ensures c.deref-in-Assign-3.ensures
    (row.assign_row c.in-Assign.op c.deref-in-Assign-2.result.now c.deref-in-Assign-3.result.now c.target_of-place.result (subst (λ (e : Expr). IsTarget e c.target_of-place.result) (c.deref-in-Assign.ensures ∙ sym c.deref-in-Assign-2.ensures) c.target_of-place.ensures) c.in_ok-emit_expr-in-Assign.ensures c.in_ok-before_value-in-Assign.ensures c.in_ok-emit_expr-in-Assign-2.ensures c.in_ok-behind_value-in-Assign.ensures (c.in_ok-used_value-in-Assign.ensures c.args.site.now.texts.now))

pub emit_expr-returns-in_ok-emit_comma-in-Comma : goal.emit_expr-returns-in_ok-emit_comma-in-Comma
emit_expr-returns-in_ok-emit_comma-in-Comma t c = arm.at_comma _ c.in-Comma.items c.deref-in-Comma.result.now c.in-Comma.is c.deref-in-Comma.ensures.value c.in_ok-emit_comma-in-Comma.ensures

pub emit_item-returns-in_ok-emit_expr-in-Some : goal.emit_item-returns-in_ok-emit_expr-in-Some
emit_item-returns-in_ok-emit_expr-in-Some t c = subst (λ (i : Option Expr). ItemEmits c.args.site.now c.args.out.now c.emit_expr.new.out i) (sym c.in-Some.is) (row.item_some c.in-Some.value c.in_ok-emit_expr-in-Some.ensures)

pub emit_item-returns-in_ok-plain-in-None : goal.emit_item-returns-in_ok-plain-in-None
emit_item-returns-in_ok-plain-in-None t c = subst (λ (i : Option Expr). ItemEmits c.args.site.now c.args.out.now c.plain.new.out i) (sym c.in-None.is) (row.item_none (c.in_ok-plain-in-None.ensures c.args.site.now.texts.now))

pub emit_key-returns-in-Word : goal.emit_key-returns-in-Word
emit_key-returns-in-Word t c = subst (λ (k : Key). KeyEmits c.args.site.now c.args.out.now c.args.out.now k) (sym c.in-Word.is) (row.key_word c.in-Word.field-0 (emits_none c.args.site.now.texts.now c.args.out.now))

pub emit_key-returns-in-Str : goal.emit_key-returns-in-Str
emit_key-returns-in-Str t c = subst (λ (k : Key). KeyEmits c.args.site.now c.args.out.now c.args.out.now k) (sym c.in-Str.is) (row.key_str c.in-Str.field-0 (emits_none c.args.site.now.texts.now c.args.out.now))

pub emit_key-returns-in_ok-number-in-Number : goal.emit_key-returns-in_ok-number-in-Number
emit_key-returns-in_ok-number-in-Number t c = subst (λ (k : Key). KeyEmits c.args.site.now c.args.out.now c.number.new.out k) (sym c.in-Number.is) (row.key_number c.in-Number.at c.in-Number.value (c.in_ok-number-in-Number.ensures c.args.site.now.texts.now))

pub emit_key-returns-in_ok-plain-in-Computed : goal.emit_key-returns-in_ok-plain-in-Computed
emit_key-returns-in_ok-plain-in-Computed t c = subst (λ (k : Key). KeyEmits c.args.site.now c.args.out.now c.plain.new.out k) (sym c.in-Computed.is) (row.key_computed c.in-Computed.value c.in_ok-emit_expr-in-Computed.ensures (c.in_ok-plain-in-Computed.ensures c.args.site.now.texts.now))

pub emit_method-returns : goal.emit_method-returns
emit_method-returns t c = row.method_row c.args.how c.args.start c.args.key.now c.in_ok-emit_key.ensures c.in_ok-lambda.ensures c.in_ok-closing.ensures

pub emit_prop-returns-in_ok-closing_pair-in-Pair : goal.emit_prop-returns-in_ok-closing_pair-in-Pair
emit_prop-returns-in_ok-closing_pair-in-Pair t c = subst (λ (p : Prop). PropEmits c.args.site.now c.args.out.now c.closing_pair.new.out p) (sym c.in-Pair.is) (row.prop_pair c.in-Pair.key c.in-Pair.value c.in_ok-emit_key-in-Pair.ensures c.in_ok-emit_expr-in-Pair.ensures c.in_ok-closing_pair-in-Pair.ensures)

pub emit_prop-returns-in_ok-emit_method-in-Method : goal.emit_prop-returns-in_ok-emit_method-in-Method
emit_prop-returns-in_ok-emit_method-in-Method t c = subst (λ (p : Prop). PropEmits c.args.site.now c.args.out.now c.emit_method.new.out p) (sym c.in-Method.is) (row.prop_method c.in-Method.key c.in-Method.func _ (ap (λ (f : Func). (out-Func f).start) c.deref.ensures) c.in_ok-emit_method-in-Method.ensures)

pub emit_prop-returns-in_ok-emit_method-in-Get : goal.emit_prop-returns-in_ok-emit_method-in-Get
emit_prop-returns-in_ok-emit_method-in-Get t c = subst (λ (p : Prop). PropEmits c.args.site.now c.args.out.now c.emit_method-in-Get.new.out p) (sym c.in-Get.is) (row.prop_get c.in-Get.key c.in-Get.func _ (ap (λ (f : Func). (out-Func f).start) c.deref-in-Get.ensures) c.in_ok-emit_method-in-Get.ensures)

pub emit_prop-returns-in_ok-emit_method-in-Set : goal.emit_prop-returns-in_ok-emit_method-in-Set
emit_prop-returns-in_ok-emit_method-in-Set t c = subst (λ (p : Prop). PropEmits c.args.site.now c.args.out.now c.emit_method-in-Set.new.out p) (sym c.in-Set.is) (row.prop_set c.in-Set.key c.in-Set.func _ (ap (λ (f : Func). (out-Func f).start) c.deref-in-Set.ensures) c.in_ok-emit_method-in-Set.ensures)

pub emit_tail-returns-in_ok-used_dot-in-Dot : goal.emit_tail-returns-in_ok-used_dot-in-Dot
emit_tail-returns-in_ok-used_dot-in-Dot t c = subst (λ (u : Tail). TailEmits c.args.site.now c.args.out.now c.used_dot.new.out c.args.wanted u) (sym c.in-Dot.is) (row.tail_dot c.in-Dot.atom (c.in_ok-used_dot-in-Dot.ensures c.args.site.now.texts.now))

pub emit_tail-returns-in_ok-behind_index-in-Index : goal.emit_tail-returns-in_ok-behind_index-in-Index
emit_tail-returns-in_ok-behind_index-in-Index t c = subst (λ (u : Tail). TailEmits c.args.site.now c.args.out.now c.behind_index.new.out c.args.wanted u) (sym c.in-Index.is) (row.tail_index c.in-Index.key (c.in_ok-before_index-in-Index.ensures c.args.site.now.texts.now) c.in_ok-emit_expr-in-Index.ensures (c.in_ok-behind_index-in-Index.ensures c.args.site.now.texts.now))

pub emit_tail-returns-in_ok-call-in-Call : goal.emit_tail-returns-in_ok-call-in-Call
emit_tail-returns-in_ok-call-in-Call t c = subst (λ (u : Tail). TailEmits c.args.site.now c.args.out.now c.call.new.out c.args.wanted u) (sym c.in-Call.is) (row.tail_call c.in-Call.args c.deref.result.now c.len.result c.deref.ensures.value (omega (arith, c.len.ensures, c.deref.ensures.len)) c.in_ok-emit_exprs-in-Call.ensures c.in_ok-call-in-Call.ensures)

pub emit_unary-returns : goal.emit_unary-returns
emit_unary-returns t c = λ at. row.unary_row at c.args.sign c.args.is_word c.args.operand.now c.target_of.result c.operand_use.result c.is_name.result c.operand_use.ensures c.target_of.ensures c.is_name.ensures c.in_ok-emit_expr.ensures (c.in_ok-prefix_operator.ensures c.args.site.now.texts.now) (c.in_ok-used_value.ensures c.args.site.now.texts.now)

pub emit_update-returns : goal.emit_update-returns
emit_update-returns t c = λ at. row.update_row at c.args.sign c.args.prefix c.args.operand.now c.target_of.result c.target_of.ensures c.in_ok-emit_expr.ensures c.in_ok-updating.ensures (c.in_ok-used_value.ensures c.args.site.now.texts.now)
