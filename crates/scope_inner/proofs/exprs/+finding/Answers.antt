use Rattle.std.proofs.Common.{ℕ, ◌+◌, ◌≤◌, subst, arith, List, Option, map, option_map, refl, sym, ◌∙◌, ap, ap₂, ◌++◌, drop, drop_of_length-le}
use denote.Param.Weighed.{most, at_most}
use Rattle.script_grammar.specs.declared.tree.Each.TheShapes.{weighed-Expr-Array-1-at-1}
use Rattle.script_grammar.proofs.tree.Expr.TheLaws.{the_size}
use Rattle.script_grammar.specs.declared.tree.Args.{Args}
use Rattle.script_grammar.specs.declared.tree.Expr.{Expr}
use Rattle.script_grammar.specs.declared.tree.Func.{Func}
use Rattle.script_grammar.specs.declared.tree.NewExpression.{NewExpression, out-NewExpression}
use Rattle.script_grammar.specs.declared.tree.Operand.{Operand}
use Rattle.script_grammar.specs.declared.tree.Prop.{Prop}
use Rattle.script_grammar.specs.declared.tree.Tail.{Tail}
use Rattle.script_grammar.specs.declared.tree.TemplatePart.{TemplatePart}
use Rattle.script_grammar.specs.Interpretation.{named, text_of}
use Rattle.script_grammar.specs.Tree.{Named}
use Rattle.script_grammar.specs.Tree as model
use Rattle.script_grammar.specs.TreeLists as part
use Rattle.script_grammar.specs.TreeLists.{exprs_of, maybe_expr_of, items_of, maybe_args_of, operands_of, parts_of, tails_of, props_of}
use Rattle.script_grammar.specs.TreeOf.{expr_of, key_of, prop_of, tail_of, args_of, func_of, operand_of, part_of}
use Rattle.script_grammar.proofs.ExprEquations as equation
use Rattle.script_grammar.proofs.PartEquations.{args_of-fields, operand_of-fields, part_of-fields}
use Rattle.scope_analysis.specs.Functions.{inner_expr, inner_exprs, inner_maybe, inner_args, inner_parts, inner_items, inner_operands, inner_tails, inner_props}
use Rattle.emit_exprs.proofs.Lists.{next_of}
use Rattle.scope_inner.proofs.FindRows.{found_none, found_as, found_both, going_begin, going_step, going_end, expr_is, expr_none, key_is, key_none, prop_is, prop_none, tail_is, tail_none}
use Rattle.scope_inner.proofs.exprs.+finding.Goals as goal

pub find_expr-returns-in-This : goal.find_expr-returns-in-This
find_expr-returns-in-This t c = expr_none c.args.found.now.items c.args.chain.now c.args.tree.now (λ i. model.This c.in-This.at) (λ i. ap (expr_of i) c.in-This.is ∙ equation.expr_of-This i c.in-This.at) (λ i r. refl)

pub find_expr-returns-in-Name : goal.find_expr-returns-in-Name
find_expr-returns-in-Name t c = expr_none c.args.found.now.items c.args.chain.now c.args.tree.now (λ i. model.Name (named i c.in-Name.field-0)) (λ i. ap (expr_of i) c.in-Name.is ∙ equation.expr_of-Name i c.in-Name.field-0) (λ i r. refl)

pub find_expr-returns-in-Null : goal.find_expr-returns-in-Null
find_expr-returns-in-Null t c = expr_none c.args.found.now.items c.args.chain.now c.args.tree.now (λ i. model.Null c.in-Null.at) (λ i. ap (expr_of i) c.in-Null.is ∙ equation.expr_of-Null i c.in-Null.at) (λ i r. refl)

pub find_expr-returns-in-True : goal.find_expr-returns-in-True
find_expr-returns-in-True t c = expr_none c.args.found.now.items c.args.chain.now c.args.tree.now (λ i. model.True c.in-True.at) (λ i. ap (expr_of i) c.in-True.is ∙ equation.expr_of-True i c.in-True.at) (λ i r. refl)

pub find_expr-returns-in-False : goal.find_expr-returns-in-False
find_expr-returns-in-False t c = expr_none c.args.found.now.items c.args.chain.now c.args.tree.now (λ i. model.False c.in-False.at) (λ i. ap (expr_of i) c.in-False.is ∙ equation.expr_of-False i c.in-False.at) (λ i r. refl)

pub find_expr-returns-in-Number : goal.find_expr-returns-in-Number
find_expr-returns-in-Number t c = expr_none c.args.found.now.items c.args.chain.now c.args.tree.now (λ i. model.Number c.in-Number.at c.in-Number.value) (λ i. ap (expr_of i) c.in-Number.is ∙ equation.expr_of-Number i c.in-Number.at c.in-Number.value) (λ i r. refl)

pub find_expr-returns-in-Str : goal.find_expr-returns-in-Str
find_expr-returns-in-Str t c = expr_none c.args.found.now.items c.args.chain.now c.args.tree.now (λ i. model.Str c.in-Str.at c.in-Str.end (text_of i c.in-Str.atom)) (λ i. ap (expr_of i) c.in-Str.is ∙ equation.expr_of-Str i c.in-Str.at c.in-Str.end c.in-Str.atom) (λ i r. refl)

pub find_expr-returns-in_ok-find_parts-in-Template : goal.find_expr-returns-in_ok-find_parts-in-Template
find_expr-returns-in_ok-find_parts-in-Template t c = expr_is c.args.tree.now (λ i. model.Template c.in-Template.at (text_of i c.in-Template.first) (parts_of (map (part_of i) c.in-Template.parts.items))) (λ i. ap (expr_of i) c.in-Template.is ∙ equation.expr_of-Template i c.in-Template.at c.in-Template.first c.in-Template.parts) (λ i r. ap (λ (l : List TemplatePart). inner_parts (parts_of (map (part_of i) l)) r) c.deref.ensures.value) c.in_ok-find_parts-in-Template.ensures

pub find_expr-returns-in_ok-find_items-in-Array : goal.find_expr-returns-in_ok-find_items-in-Array
find_expr-returns-in_ok-find_items-in-Array t c = expr_is c.args.tree.now (λ i. model.Array c.in-Array.at (items_of (map (option_map (expr_of i)) c.in-Array.items.items)) c.in-Array.comma) (λ i. ap (expr_of i) c.in-Array.is ∙ equation.expr_of-Array i c.in-Array.at c.in-Array.items c.in-Array.comma) (λ i r. ap (λ (l : List (Option Expr)). inner_items (items_of (map (option_map (expr_of i)) l)) r) c.deref-in-Array.ensures.value) c.in_ok-find_items-in-Array.ensures

pub find_expr-returns-in_ok-find_props-in-Object : goal.find_expr-returns-in_ok-find_props-in-Object
find_expr-returns-in_ok-find_props-in-Object t c = expr_is c.args.tree.now (λ i. model.Object c.in-Object.at (props_of (map (prop_of i) c.in-Object.props.items)) c.in-Object.comma) (λ i. ap (expr_of i) c.in-Object.is ∙ equation.expr_of-Object i c.in-Object.at c.in-Object.props c.in-Object.comma) (λ i r. ap (λ (l : List Prop). inner_props (props_of (map (prop_of i) l)) r) c.deref-in-Object.ensures.value) c.in_ok-find_props-in-Object.ensures

pub find_expr-returns-in_ok-find_expression-in-Func : goal.find_expr-returns-in_ok-find_expression-in-Func
find_expr-returns-in_ok-find_expression-in-Func t c = expr_is c.args.tree.now (λ i. model.Func c.in-Func.at (func_of i c.in-Func.func.value)) (λ i. ap (expr_of i) c.in-Func.is ∙ equation.expr_of-Func i c.in-Func.at c.in-Func.func) (λ i r. ap (λ (f : Func). inner_expr (model.Func c.in-Func.at (func_of i f)) r) c.deref-in-Func.ensures) c.in_ok-find_expression-in-Func.ensures

pub find_expr-returns-in_ok-find_expr-in-Paren : goal.find_expr-returns-in_ok-find_expr-in-Paren
find_expr-returns-in_ok-find_expr-in-Paren t c = expr_is c.args.tree.now (λ i. model.Paren c.in-Paren.at (expr_of i c.in-Paren.inner.value)) (λ i. ap (expr_of i) c.in-Paren.is ∙ equation.expr_of-Paren i c.in-Paren.at c.in-Paren.inner) (λ i r. ap (λ (v : Expr). inner_expr (expr_of i v) r) c.deref-in-Paren.ensures) c.in_ok-find_expr-in-Paren.ensures

pub find_expr-returns-in_ok-find_expr-in-Unary : goal.find_expr-returns-in_ok-find_expr-in-Unary
find_expr-returns-in_ok-find_expr-in-Unary t c = expr_is c.args.tree.now (λ i. model.Unary c.in-Unary.at c.in-Unary.op (expr_of i c.in-Unary.of.value) c.in-Unary.is_word) (λ i. ap (expr_of i) c.in-Unary.is ∙ equation.expr_of-Unary i c.in-Unary.at c.in-Unary.op c.in-Unary.of c.in-Unary.is_word) (λ i r. ap (λ (v : Expr). inner_expr (expr_of i v) r) c.deref-in-Unary.ensures) c.in_ok-find_expr-in-Unary.ensures

pub find_expr-returns-in_ok-find_expr-in-Update : goal.find_expr-returns-in_ok-find_expr-in-Update
find_expr-returns-in_ok-find_expr-in-Update t c = expr_is c.args.tree.now (λ i. model.Update c.in-Update.at c.in-Update.op c.in-Update.prefix (expr_of i c.in-Update.of.value)) (λ i. ap (expr_of i) c.in-Update.is ∙ equation.expr_of-Update i c.in-Update.at c.in-Update.op c.in-Update.prefix c.in-Update.of) (λ i r. ap (λ (v : Expr). inner_expr (expr_of i v) r) c.deref-in-Update.ensures) c.in_ok-find_expr-in-Update.ensures

pub find_expr-returns-in_ok-find_tails-in-Chain : goal.find_expr-returns-in_ok-find_tails-in-Chain
find_expr-returns-in_ok-find_tails-in-Chain t c = expr_is c.args.tree.now (λ i. model.Chain (expr_of i c.in-Chain.head.value) (tails_of (map (tail_of i) c.in-Chain.tails.items))) (λ i. ap (expr_of i) c.in-Chain.is ∙ equation.expr_of-Chain i c.in-Chain.head c.in-Chain.tails) (λ i r. ap₂ (λ (v : Expr) (l : List Tail). inner_expr (expr_of i v) r ++ inner_tails (tails_of (map (tail_of i) l)) r) c.deref-in-Chain.ensures c.deref-in-Chain-2.ensures.value) (found_both c.in_ok-find_expr-in-Chain.ensures c.in_ok-find_tails-in-Chain.ensures)

pub find_expr-returns-in_ok-find_args-in-New : goal.find_expr-returns-in_ok-find_args-in-New
find_expr-returns-in_ok-find_args-in-New t c = expr_is c.args.tree.now (λ i. model.New (out-NewExpression c.deref-new.result.now).at (expr_of i (out-NewExpression c.deref-new.result.now).callee) (maybe_args_of (option_map (args_of i) (out-NewExpression c.deref-new.result.now).args))) (λ i. ap (expr_of i) c.in-New.is ∙ (equation.expr_of-New i c.in-New.boxed ∙ ap (λ (z : NewExpression). model.New (out-NewExpression z).at (expr_of i (out-NewExpression z).callee) (maybe_args_of (option_map (args_of i) (out-NewExpression z).args))) (sym c.deref-new.ensures))) (λ i r. refl) (found_both c.in_ok-find_expr-in-New.ensures c.in_ok-find_args-in-New.ensures)

pub find_expr-returns-in_ok-find_operands-in-Binary : goal.find_expr-returns-in_ok-find_operands-in-Binary
find_expr-returns-in_ok-find_operands-in-Binary t c = expr_is c.args.tree.now (λ i. model.Binary (expr_of i c.in-Binary.first.value) (operands_of (map (operand_of i) c.in-Binary.rest.items))) (λ i. ap (expr_of i) c.in-Binary.is ∙ equation.expr_of-Binary i c.in-Binary.first c.in-Binary.rest) (λ i r. ap₂ (λ (v : Expr) (l : List Operand). inner_expr (expr_of i v) r ++ inner_operands (operands_of (map (operand_of i) l)) r) c.deref-in-Binary.ensures c.deref-in-Binary-2.ensures.value) (found_both c.in_ok-find_expr-in-Binary.ensures c.in_ok-find_operands-in-Binary.ensures)

pub find_expr-returns-in_ok-find_expr-in-Cond-3 : goal.find_expr-returns-in_ok-find_expr-in-Cond-3
find_expr-returns-in_ok-find_expr-in-Cond-3 t c = expr_is c.args.tree.now (λ i. model.Cond (expr_of i c.in-Cond.test.value) (expr_of i c.in-Cond.yes.value) (expr_of i c.in-Cond.no.value)) (λ i. ap (expr_of i) c.in-Cond.is ∙ equation.expr_of-Cond i c.in-Cond.test c.in-Cond.yes c.in-Cond.no) (λ i r. ap₂ (λ (u : Expr) (v : Expr). inner_expr (expr_of i u) r ++ inner_expr (expr_of i v) r ++ inner_expr (expr_of i c.deref-in-Cond-3.result.now) r) c.deref-in-Cond.ensures c.deref-in-Cond-2.ensures ∙ ap (λ (v : Expr). inner_expr (expr_of i c.in-Cond.test.value) r ++ inner_expr (expr_of i c.in-Cond.yes.value) r ++ inner_expr (expr_of i v) r) c.deref-in-Cond-3.ensures) (found_both (found_both c.in_ok-find_expr-in-Cond.ensures c.in_ok-find_expr-in-Cond-2.ensures) c.in_ok-find_expr-in-Cond-3.ensures)

pub find_expr-returns-in_ok-find_expr-in-Assign-2 : goal.find_expr-returns-in_ok-find_expr-in-Assign-2
find_expr-returns-in_ok-find_expr-in-Assign-2 t c = expr_is c.args.tree.now (λ i. model.Assign c.in-Assign.op (expr_of i c.in-Assign.target.value) (expr_of i c.in-Assign.value.value)) (λ i. ap (expr_of i) c.in-Assign.is ∙ equation.expr_of-Assign i c.in-Assign.op c.in-Assign.target c.in-Assign.value) (λ i r. ap₂ (λ (u : Expr) (v : Expr). inner_expr (expr_of i u) r ++ inner_expr (expr_of i v) r) c.deref-in-Assign.ensures c.deref-in-Assign-2.ensures) (found_both c.in_ok-find_expr-in-Assign.ensures c.in_ok-find_expr-in-Assign-2.ensures)

pub find_expr-returns-in_ok-find_exprs-in-Comma : goal.find_expr-returns-in_ok-find_exprs-in-Comma
find_expr-returns-in_ok-find_exprs-in-Comma t c = expr_is c.args.tree.now (λ i. model.Comma (exprs_of (map (expr_of i) c.in-Comma.items.items))) (λ i. ap (expr_of i) c.in-Comma.is ∙ equation.expr_of-Comma i c.in-Comma.items) (λ i r. ap (λ (l : List Expr). inner_exprs (exprs_of (map (expr_of i) l)) r) c.deref-in-Comma.ensures.value) c.in_ok-find_exprs-in-Comma.ensures

pub find_exprs-loop-item-init : goal.find_exprs-loop-item-init
find_exprs-loop-item-init t c = going_begin _ _ _

pub find_exprs-loop-item-preserved : goal.find_exprs-loop-item-preserved
find_exprs-loop-item-preserved t c = going_step c.in_ok-find_expr.ensures (λ i r. ap (λ (l : List Expr). inner_exprs (exprs_of (map (expr_of i) l)) r) (next_of c.args.items.now c.loop-item.item-index c.item-item.result c.loop-item-test.true c.item-item.is)) c.loop-item.invariant

pub find_exprs-returns : goal.find_exprs-returns
find_exprs-returns t c = going_end (λ i r. ap (λ (l : List Expr). inner_exprs (exprs_of (map (expr_of i) l)) r) (drop_of_length-le c.args.items.now c.loop-item-test.false)) c.loop-item.invariant

pub find_items-loop-item-init : goal.find_items-loop-item-init
find_items-loop-item-init t c = going_begin _ _ _

pub find_items-loop-item-preserved : goal.find_items-loop-item-preserved
find_items-loop-item-preserved t c = going_step c.in_ok-find_maybe.ensures (λ i r. ap (λ (l : List (Option Expr)). inner_items (items_of (map (option_map (expr_of i)) l)) r) (next_of c.args.items.now c.loop-item.item-index c.item-item.result c.loop-item-test.true c.item-item.is)) c.loop-item.invariant

pub find_items-returns : goal.find_items-returns
find_items-returns t c = going_end (λ i r. ap (λ (l : List (Option Expr)). inner_items (items_of (map (option_map (expr_of i)) l)) r) (drop_of_length-le c.args.items.now c.loop-item-test.false)) c.loop-item.invariant

pub find_tails-loop-tail-init : goal.find_tails-loop-tail-init
find_tails-loop-tail-init t c = going_begin _ _ _

pub find_tails-loop-tail-preserved : goal.find_tails-loop-tail-preserved
find_tails-loop-tail-preserved t c = going_step c.in_ok-find_tail.ensures (λ i r. ap (λ (l : List Tail). inner_tails (tails_of (map (tail_of i) l)) r) (next_of c.args.tails.now c.loop-tail.tail-index c.tail-item.result c.loop-tail-test.true c.tail-item.is)) c.loop-tail.invariant

pub find_tails-returns : goal.find_tails-returns
find_tails-returns t c = going_end (λ i r. ap (λ (l : List Tail). inner_tails (tails_of (map (tail_of i) l)) r) (drop_of_length-le c.args.tails.now c.loop-tail-test.false)) c.loop-tail.invariant

pub find_props-loop-prop-init : goal.find_props-loop-prop-init
find_props-loop-prop-init t c = going_begin _ _ _

pub find_props-loop-prop-preserved : goal.find_props-loop-prop-preserved
find_props-loop-prop-preserved t c = going_step c.in_ok-find_prop.ensures (λ i r. ap (λ (l : List Prop). inner_props (props_of (map (prop_of i) l)) r) (next_of c.args.props.now c.loop-prop.prop-index c.prop-item.result c.loop-prop-test.true c.prop-item.is)) c.loop-prop.invariant

pub find_props-returns : goal.find_props-returns
find_props-returns t c = going_end (λ i r. ap (λ (l : List Prop). inner_props (props_of (map (prop_of i) l)) r) (drop_of_length-le c.args.props.now c.loop-prop-test.false)) c.loop-prop.invariant

pub find_parts-loop-part-init : goal.find_parts-loop-part-init
find_parts-loop-part-init t c = going_begin _ _ _

pub find_parts-loop-part-preserved : goal.find_parts-loop-part-preserved
find_parts-loop-part-preserved t c = going_step c.in_ok-find_expr.ensures (λ i r. ap (λ (l : List TemplatePart). inner_parts (parts_of (map (part_of i) l)) r) (next_of c.args.parts.now c.loop-part.part-index c.part-item.result c.loop-part-test.true c.part-item.is) ∙ ap (λ (q : part.Part). inner_expr q.value r ++ inner_parts (parts_of (map (part_of i) (drop (c.loop-part.part-index + 1) c.args.parts.now))) r) (part_of-fields i c.part-item.result)) c.loop-part.invariant

pub find_parts-returns : goal.find_parts-returns
find_parts-returns t c = going_end (λ i r. ap (λ (l : List TemplatePart). inner_parts (parts_of (map (part_of i) l)) r) (drop_of_length-le c.args.parts.now c.loop-part-test.false)) c.loop-part.invariant

pub find_operands-loop-operand-init : goal.find_operands-loop-operand-init
find_operands-loop-operand-init t c = going_begin _ _ _

pub find_operands-loop-operand-preserved : goal.find_operands-loop-operand-preserved
find_operands-loop-operand-preserved t c = going_step c.in_ok-find_expr.ensures (λ i r. ap (λ (l : List Operand). inner_operands (operands_of (map (operand_of i) l)) r) (next_of c.args.rest.now c.loop-operand.operand-index c.operand-item.result c.loop-operand-test.true c.operand-item.is) ∙ ap (λ (q : part.Operand). inner_expr q.value r ++ inner_operands (operands_of (map (operand_of i) (drop (c.loop-operand.operand-index + 1) c.args.rest.now))) r) (operand_of-fields i c.operand-item.result)) c.loop-operand.invariant

pub find_operands-returns : goal.find_operands-returns
find_operands-returns t c = going_end (λ i r. ap (λ (l : List Operand). inner_operands (operands_of (map (operand_of i) l)) r) (drop_of_length-le c.args.rest.now c.loop-operand-test.false)) c.loop-operand.invariant

pub find_maybe-returns-in_ok-find_expr-in-Some : goal.find_maybe-returns-in_ok-find_expr-in-Some
find_maybe-returns-in_ok-find_expr-in-Some t c = found_as (λ i r. sym (ap (λ (v : Option Expr). inner_maybe (maybe_expr_of (option_map (expr_of i) v)) r) c.in-Some.is)) c.in_ok-find_expr-in-Some.ensures

pub find_maybe-returns-in-None : goal.find_maybe-returns-in-None
find_maybe-returns-in-None t c = found_none _ _ (λ i r. ap (λ (v : Option Expr). inner_maybe (maybe_expr_of (option_map (expr_of i) v)) r) c.in-None.is)

pub find_args-returns-in_ok-find_exprs-in-Some : goal.find_args-returns-in_ok-find_exprs-in-Some
find_args-returns-in_ok-find_exprs-in-Some t c = found_as (λ i r. ap (λ (l : List Expr). inner_exprs (exprs_of (map (expr_of i) l)) r) c.deref.ensures.value ∙ sym (ap (λ (v : Option Args). inner_args (maybe_args_of (option_map (args_of i) v)) r) c.in-Some.is ∙ ap (λ (a : part.Args). inner_exprs (exprs_of a.items) r) (args_of-fields i c.in-Some.some))) c.in_ok-find_exprs-in-Some.ensures

pub find_args-returns-in-None : goal.find_args-returns-in-None
find_args-returns-in-None t c = found_none _ _ (λ i r. ap (λ (v : Option Args). inner_args (maybe_args_of (option_map (args_of i) v)) r) c.in-None.is)

pub find_tail-returns-in-Dot : goal.find_tail-returns-in-Dot
find_tail-returns-in-Dot t c = tail_none c.args.found.now.items c.args.chain.now c.args.tail.now (λ i. model.Dot (text_of i c.in-Dot.atom)) (λ i. ap (tail_of i) c.in-Dot.is ∙ equation.tail_of-Dot i c.in-Dot.atom) (λ i r. refl)

pub find_tail-returns-in_ok-find_expr-in-Index : goal.find_tail-returns-in_ok-find_expr-in-Index
find_tail-returns-in_ok-find_expr-in-Index t c = tail_is c.args.tail.now (λ i. model.Index (expr_of i c.in-Index.key)) (λ i. ap (tail_of i) c.in-Index.is ∙ equation.tail_of-Index i c.in-Index.key) (λ i r. refl) c.in_ok-find_expr-in-Index.ensures

pub find_tail-returns-in_ok-find_exprs-in-Call : goal.find_tail-returns-in_ok-find_exprs-in-Call
find_tail-returns-in_ok-find_exprs-in-Call t c = tail_is c.args.tail.now (λ i. model.Call (exprs_of (args_of i c.in-Call.args).items) (args_of i c.in-Call.args).comma) (λ i. ap (tail_of i) c.in-Call.is ∙ equation.tail_of-Call i c.in-Call.args) (λ i r. ap (λ (l : List Expr). inner_exprs (exprs_of (map (expr_of i) l)) r) c.deref.ensures.value ∙ sym (ap (λ (a : part.Args). inner_exprs (exprs_of a.items) r) (args_of-fields i c.in-Call.args))) c.in_ok-find_exprs-in-Call.ensures

pub find_key-returns-in-Word : goal.find_key-returns-in-Word
find_key-returns-in-Word t c = key_none c.args.found.now.items c.args.chain.now c.args.key.now (λ i. model.WordKey (named i c.in-Word.field-0)) (λ i. ap (key_of i) c.in-Word.is ∙ equation.key_of-Word i c.in-Word.field-0) (λ i r. refl)

pub find_key-returns-in-Str : goal.find_key-returns-in-Str
find_key-returns-in-Str t c = key_none c.args.found.now.items c.args.chain.now c.args.key.now (λ i. model.StrKey (named i c.in-Str.field-0)) (λ i. ap (key_of i) c.in-Str.is ∙ equation.key_of-Str i c.in-Str.field-0) (λ i r. refl)

pub find_key-returns-in-Number : goal.find_key-returns-in-Number
find_key-returns-in-Number t c = key_none c.args.found.now.items c.args.chain.now c.args.key.now (λ i. model.NumberKey c.in-Number.at c.in-Number.value) (λ i. ap (key_of i) c.in-Number.is ∙ equation.key_of-Number i c.in-Number.at c.in-Number.value) (λ i r. refl)

pub find_key-returns-in_ok-find_expr-in-Computed : goal.find_key-returns-in_ok-find_expr-in-Computed
find_key-returns-in_ok-find_expr-in-Computed t c = key_is c.args.key.now (λ i. model.ComputedKey (expr_of i c.in-Computed.value)) (λ i. ap (key_of i) c.in-Computed.is ∙ equation.key_of-Computed i c.in-Computed.value) (λ i r. refl) c.in_ok-find_expr-in-Computed.ensures

pub find_prop-returns-in-Short : goal.find_prop-returns-in-Short
find_prop-returns-in-Short t c = prop_none c.args.found.now.items c.args.chain.now c.args.prop.now (λ i. model.Short (named i c.in-Short.field-0)) (λ i. ap (prop_of i) c.in-Short.is ∙ equation.prop_of-Short i c.in-Short.field-0) (λ i r. refl)

pub find_prop-returns-in_ok-find_expr-in-Pair : goal.find_prop-returns-in_ok-find_expr-in-Pair
find_prop-returns-in_ok-find_expr-in-Pair t c = prop_is c.args.prop.now (λ i. model.Pair (key_of i c.in-Pair.key) (expr_of i c.in-Pair.value)) (λ i. ap (prop_of i) c.in-Pair.is ∙ equation.prop_of-Pair i c.in-Pair.key c.in-Pair.value) (λ i r. refl) (found_both c.in_ok-find_key-in-Pair.ensures c.in_ok-find_expr-in-Pair.ensures)

pub find_prop-returns-in_ok-find_nameless-in-Method : goal.find_prop-returns-in_ok-find_nameless-in-Method
find_prop-returns-in_ok-find_nameless-in-Method t c = prop_is c.args.prop.now (λ i. model.Method (key_of i c.in-Method.key) (func_of i c.deref.result.now)) (λ i. ap (prop_of i) c.in-Method.is ∙ (equation.prop_of-Method i c.in-Method.key c.in-Method.func ∙ ap (λ (f : Func). model.Method (key_of i c.in-Method.key) (func_of i f)) (sym c.deref.ensures))) (λ i r. refl) (found_both c.in_ok-find_key-in-Method.ensures c.in_ok-find_nameless-in-Method.ensures)

pub find_prop-returns-in_ok-find_nameless-in-Get : goal.find_prop-returns-in_ok-find_nameless-in-Get
find_prop-returns-in_ok-find_nameless-in-Get t c = prop_is c.args.prop.now (λ i. model.Get (key_of i c.in-Get.key) (func_of i c.deref-in-Get.result.now)) (λ i. ap (prop_of i) c.in-Get.is ∙ (equation.prop_of-Get i c.in-Get.key c.in-Get.func ∙ ap (λ (f : Func). model.Get (key_of i c.in-Get.key) (func_of i f)) (sym c.deref-in-Get.ensures))) (λ i r. refl) (found_both c.in_ok-find_key-in-Get.ensures c.in_ok-find_nameless-in-Get.ensures)

pub find_prop-returns-in_ok-find_nameless-in-Set : goal.find_prop-returns-in_ok-find_nameless-in-Set
find_prop-returns-in_ok-find_nameless-in-Set t c = prop_is c.args.prop.now (λ i. model.Set (key_of i c.in-Set.key) (func_of i c.deref-in-Set.result.now)) (λ i. ap (prop_of i) c.in-Set.is ∙ (equation.prop_of-Set i c.in-Set.key c.in-Set.func ∙ ap (λ (f : Func). model.Set (key_of i c.in-Set.key) (func_of i f)) (sym c.deref-in-Set.ensures))) (λ i r. refl) (found_both c.in_ok-find_key-in-Set.ensures c.in_ok-find_nameless-in-Set.ensures)

pub find_items-find_maybe-requires : goal.find_items-find_maybe-requires
find_items-find_maybe-requires t c =
    let weigh : Option Expr → ℕ = (λ x. weighed-Expr-Array-1-at-1.weight Expr the_size x) in
    let below : weigh c.item-item.result ≤ most weigh c.args.items.now = subst (λ (x : Option Expr). weigh x ≤ most weigh c.args.items.now) (sym c.item-item.is) (at_most weigh c.args.items.now c.loop-item.item-index c.item-item.result c.loop-item-test.true) in
    (omega (arith, below, c.decreases), tt)
