use Rattle.std.proofs.Common.{List, Option, option_map, drop_of_length-le, refl, sym, ◌∙◌, ap}
use Rattle.script_grammar.specs.declared.tree.Func.{Func}
use Rattle.script_grammar.specs.declared.tree.Clause.{Clause}
use Rattle.script_grammar.specs.declared.tree.Stmt.{Stmt}
use Rattle.script_grammar.specs.Interpretation.{maybe_named}
use Rattle.script_grammar.specs.Tree as model
use Rattle.script_grammar.specs.TreeLists.{maybe_expr_of}
use Rattle.script_grammar.specs.TreeOf.{expr_of, each_of, init_of, stmt_of, func_of}
use Rattle.script_grammar.proofs.StmtEquations as equation
use Rattle.scope_analysis.specs.DeclaredNames.{lexical_names, clauses_lexical_names, init_lexical_names, each_lexical_names}
use Rattle.scope_analysis.specs.Functions.{inner_stmts, inner_clauses, inner_else}
use Rattle.scope_analysis.specs.Scopes.{catch_names, count_stmts, count_clauses, count_else}
use Rattle.emit_exprs.proofs.Lists.{next_of}
use Rattle.scope_inner.specs.StmtFinds.{stmts_in, clauses_in, else_in}
use Rattle.scope_inner.proofs.FindRows.{found_both}
use Rattle.scope_inner.proofs.ClauseRows.{catch_declared, clauses_count, clauses_found}
use Rattle.scope_inner.proofs.StmtArms as arm
use Rattle.scope_inner.proofs.StmtRows.{before, behind, both, found_in, going_in, gone, gone_on, moved, nothing, plainly, scoped}
use Rattle.scope_inner.proofs.stmts.+stmts.Goals as goal

-- ---- statements in lists

pub find_stmts-loop-item-init : goal.find_stmts-loop-item-init
find_stmts-loop-item-init t c = going_in _ _ _ _ _

pub find_stmts-loop-item-preserved : goal.find_stmts-loop-item-preserved
find_stmts-loop-item-preserved t c = gone_on c.in_ok-find_stmt.ensures.row.all (λ i. ap (λ (l : List Stmt). count_stmts (stmts_in i l)) (next_of c.args.items.now c.loop-item.item-index c.item-item.result c.loop-item-test.true c.item-item.is)) (λ i n r. ap (λ (l : List Stmt). inner_stmts (stmts_in i l) n r) (next_of c.args.items.now c.loop-item.item-index c.item-item.result c.loop-item-test.true c.item-item.is)) c.loop-item.invariant

pub find_stmts-returns : goal.find_stmts-returns
find_stmts-returns t c = record { all = gone (λ i. ap (λ (l : List Stmt). count_stmts (stmts_in i l)) (drop_of_length-le c.args.items.now c.loop-item-test.false)) (λ i n r. ap (λ (l : List Stmt). inner_stmts (stmts_in i l) n r) (drop_of_length-le c.args.items.now c.loop-item-test.false)) c.loop-item.invariant }

pub find_clauses-loop-clause-init : goal.find_clauses-loop-clause-init
find_clauses-loop-clause-init t c = going_in _ _ _ _ _

pub find_clauses-loop-clause-preserved : goal.find_clauses-loop-clause-preserved
find_clauses-loop-clause-preserved t c =
    gone_on (before c.in_ok-find_maybe.ensures c.in_ok-find_stmts.ensures.all)
    (λ i. clauses_count i _ _ c.clause-item.result c.deref.result.now (next_of c.args.clauses.now c.loop-clause.clause-index c.clause-item.result c.loop-clause-test.true c.clause-item.is) c.deref.ensures.value)
    (λ i n r. clauses_found i n r _ _ c.clause-item.result c.deref.result.now (next_of c.args.clauses.now c.loop-clause.clause-index c.clause-item.result c.loop-clause-test.true c.clause-item.is) c.deref.ensures.value)
    c.loop-clause.invariant

pub find_clauses-returns : goal.find_clauses-returns
find_clauses-returns t c = record { all = gone (λ i. ap (λ (l : List Clause). count_clauses (clauses_in i l)) (drop_of_length-le c.args.clauses.now c.loop-clause-test.false)) (λ i n r. ap (λ (l : List Clause). inner_clauses (clauses_in i l) n r) (drop_of_length-le c.args.clauses.now c.loop-clause-test.false)) c.loop-clause.invariant }

-- ---- in scopes

pub find_block-returns : goal.find_block-returns
find_block-returns t c = record { all = scoped (λ i. lexical_names (stmts_in i c.args.items.now)) c.block_declares.ensures c.in_ok-chain.ensures.next c.in_ok-chain.ensures.chain (moved c.within-inside.ensures c.in_ok-find_stmts.ensures.all) }

pub find_switch-returns : goal.find_switch-returns
find_switch-returns t c = record { all = scoped (λ i. clauses_lexical_names (clauses_in i c.args.clauses.now)) c.clauses_declare.ensures c.in_ok-chain.ensures.next c.in_ok-chain.ensures.chain (moved c.within-inside.ensures c.in_ok-find_clauses.ensures.all) }

pub find_handler-returns : goal.find_handler-returns
find_handler-returns t c = record { all = scoped (λ i. catch_names (maybe_named i c.args.param)) (λ i. c.is_some.ensures ∙ catch_declared i c.args.param) c.in_ok-chain.ensures.next c.in_ok-chain.ensures.chain (moved c.within-inside.ensures c.in_ok-find_block.ensures.all) }

pub find_for-returns : goal.find_for-returns
find_for-returns t c = record { all = scoped (λ i. init_lexical_names (init_of i c.args.init.now)) c.init_declares.ensures c.in_ok-chain.ensures.next c.in_ok-chain.ensures.chain (before (found_both (found_both c.in_ok-find_init.ensures c.in_ok-find_maybe.ensures) c.in_ok-find_maybe-2.ensures) (moved c.within-inside.ensures c.in_ok-find_stmt.ensures.row.all)) }

pub find_for_in-returns : goal.find_for_in-returns
find_for_in-returns t c = record { all = scoped (λ i. each_lexical_names (each_of i c.args.each.now)) c.each_declares.ensures c.in_ok-chain.ensures.next c.in_ok-chain.ensures.chain (before (found_both c.in_ok-find_each.ensures c.in_ok-find_expr.ensures) (moved c.within-inside.ensures c.in_ok-find_stmt.ensures.row.all)) }

pub find_else-returns-in-None : goal.find_else-returns-in-None
find_else-returns-in-None t c = record { all = found_in (λ i. sym (ap (λ (o : Option _). count_else (else_in i o)) c.in-None.is)) (λ i n r. sym (ap (λ (o : Option _). inner_else (else_in i o) n r) c.in-None.is)) (nothing _ _ _) }

pub find_else-returns-in_ok-find_stmt-in-Some : goal.find_else-returns-in_ok-find_stmt-in-Some
find_else-returns-in_ok-find_stmt-in-Some t c = record {
  all = found_in (λ i. ap (λ (s : Stmt). count_else (model.some_stmt (stmt_of i s))) c.deref.ensures ∙ sym (ap (λ (o : Option _). count_else (else_in i o)) c.in-Some.is))
      (λ i n r. ap (λ (s : Stmt). inner_else (model.some_stmt (stmt_of i s)) n r) c.deref.ensures ∙ sym (ap (λ (o : Option _). inner_else (else_in i o) n r) c.in-Some.is)) c.in_ok-find_stmt-in-Some.ensures.row.all;
}

-- ---- the arms of a statement

pub find_stmt-returns-in_ok-find_block-in-Block : goal.find_stmt-returns-in_ok-find_block-in-Block
find_stmt-returns-in_ok-find_block-in-Block t c = arm.at_block _ c.in-Block.items c.deref.result.now c.in-Block.is c.deref.ensures.value (record { all = c.in_ok-find_block-in-Block.ensures.all })

pub find_stmt-returns-in-Empty : goal.find_stmt-returns-in-Empty
find_stmt-returns-in-Empty t c = arm.stmt_none _ _ c.args.tree.now (λ i. model.Empty) (λ i. ap (stmt_of i) c.in-Empty.is ∙ equation.stmt_of-Empty i) (λ i. refl) (λ i n r. refl)

pub find_stmt-returns-in-Debugger : goal.find_stmt-returns-in-Debugger
find_stmt-returns-in-Debugger t c = arm.stmt_none _ _ c.args.tree.now (λ i. model.Debugger c.in-Debugger.semi) (λ i. ap (stmt_of i) c.in-Debugger.is ∙ equation.stmt_of-Debugger i c.in-Debugger.semi) (λ i. refl) (λ i n r. refl)

pub find_stmt-returns-in-Continue : goal.find_stmt-returns-in-Continue
find_stmt-returns-in-Continue t c = arm.stmt_none _ _ c.args.tree.now (λ i. model.Continue c.in-Continue.at (maybe_named i c.in-Continue.label) c.in-Continue.semi) (λ i. ap (stmt_of i) c.in-Continue.is ∙ equation.stmt_of-Continue i c.in-Continue.at c.in-Continue.label c.in-Continue.semi) (λ i. refl) (λ i n r. refl)

pub find_stmt-returns-in-Break : goal.find_stmt-returns-in-Break
find_stmt-returns-in-Break t c = arm.stmt_none _ _ c.args.tree.now (λ i. model.Break c.in-Break.at (maybe_named i c.in-Break.label) c.in-Break.semi) (λ i. ap (stmt_of i) c.in-Break.is ∙ equation.stmt_of-Break i c.in-Break.at c.in-Break.label c.in-Break.semi) (λ i. refl) (λ i n r. refl)

pub find_stmt-returns-in_ok-find_binds-in-Binds : goal.find_stmt-returns-in_ok-find_binds-in-Binds
find_stmt-returns-in_ok-find_binds-in-Binds t c = arm.at_binds _ c.in-Binds.decl c.in-Binds.binds c.in-Binds.semi c.deref-in-Binds.result.now c.in-Binds.is c.deref-in-Binds.ensures.value (record { all = plainly c.in_ok-find_binds-in-Binds.ensures })

pub find_stmt-returns-in_ok-find_expr-in-Value : goal.find_stmt-returns-in_ok-find_expr-in-Value
find_stmt-returns-in_ok-find_expr-in-Value t c = arm.stmt_at _ (λ i. model.Value (expr_of i c.in-Value.value) c.in-Value.semi) (λ i. ap (stmt_of i) c.in-Value.is ∙ equation.stmt_of-Value i c.in-Value.value c.in-Value.semi) (record { all = plainly c.in_ok-find_expr-in-Value.ensures })

pub find_stmt-returns-in_ok-find_expr-in-Throw : goal.find_stmt-returns-in_ok-find_expr-in-Throw
find_stmt-returns-in_ok-find_expr-in-Throw t c = arm.stmt_at _ (λ i. model.Throw (expr_of i c.in-Throw.value) c.in-Throw.semi) (λ i. ap (stmt_of i) c.in-Throw.is ∙ equation.stmt_of-Throw i c.in-Throw.value c.in-Throw.semi) (record { all = plainly c.in_ok-find_expr-in-Throw.ensures })

pub find_stmt-returns-in_ok-find_maybe-in-Return : goal.find_stmt-returns-in_ok-find_maybe-in-Return
find_stmt-returns-in_ok-find_maybe-in-Return t c = arm.stmt_at _ (λ i. model.Return (maybe_expr_of (option_map (expr_of i) c.in-Return.value)) c.in-Return.semi) (λ i. ap (stmt_of i) c.in-Return.is ∙ equation.stmt_of-Return i c.in-Return.semi c.in-Return.value) (record { all = plainly c.in_ok-find_maybe-in-Return.ensures })

pub find_stmt-returns-in_ok-find_named-in-Func : goal.find_stmt-returns-in_ok-find_named-in-Func
find_stmt-returns-in_ok-find_named-in-Func t c = arm.stmt_at _ (λ i. model.Declared (func_of i c.deref-in-Func.result.now)) (λ i. ap (stmt_of i) c.in-Func.is ∙ (equation.stmt_of-Func i c.in-Func.func ∙ ap (λ (f : Func). model.Declared (func_of i f)) (sym c.deref-in-Func.ensures))) (record { all = plainly c.in_ok-find_named-in-Func.ensures })

pub find_stmt-returns-in_ok-find_else-in-If : goal.find_stmt-returns-in_ok-find_else-in-If
find_stmt-returns-in_ok-find_else-in-If t c = arm.at_if _ c.in-If.boxed c.deref-statement.result.now c.in-If.is c.deref-statement.ensures (record { all = both (before c.in_ok-find_expr-in-If.ensures c.in_ok-find_stmt-in-If.ensures.row.all) c.in_ok-find_else-in-If.ensures.all })

pub find_stmt-returns-in_ok-find_expr-in-Do : goal.find_stmt-returns-in_ok-find_expr-in-Do
find_stmt-returns-in_ok-find_expr-in-Do t c = arm.at_do _ c.in-Do.body c.in-Do.test c.in-Do.semi c.deref-in-Do.result.now c.in-Do.is c.deref-in-Do.ensures (record { all = behind c.in_ok-find_stmt-in-Do.ensures.row.all c.in_ok-find_expr-in-Do.ensures })

pub find_stmt-returns-in_ok-find_stmt-in-While : goal.find_stmt-returns-in_ok-find_stmt-in-While
find_stmt-returns-in_ok-find_stmt-in-While t c = arm.at_while _ c.in-While.test c.in-While.body c.deref-in-While.result.now c.in-While.is c.deref-in-While.ensures (record { all = before c.in_ok-find_expr-in-While.ensures c.in_ok-find_stmt-in-While.ensures.row.all })

pub find_stmt-returns-in_ok-find_for-in-For : goal.find_stmt-returns-in_ok-find_for-in-For
find_stmt-returns-in_ok-find_for-in-For t c = arm.at_for _ c.in-For.boxed c.deref-statement-in-For.result.now c.in-For.is c.deref-statement-in-For.ensures c.in_ok-find_for-in-For.ensures

pub find_stmt-returns-in_ok-find_for_in-in-ForIn : goal.find_stmt-returns-in_ok-find_for_in-in-ForIn
find_stmt-returns-in_ok-find_for_in-in-ForIn t c = arm.at_for_in _ c.in-ForIn.boxed c.deref-statement-in-ForIn.result.now c.in-ForIn.is c.deref-statement-in-ForIn.ensures c.in_ok-find_for_in-in-ForIn.ensures

pub find_stmt-returns-in_ok-find_switch-in-Switch : goal.find_stmt-returns-in_ok-find_switch-in-Switch
find_stmt-returns-in_ok-find_switch-in-Switch t c = arm.at_switch _ c.in-Switch.boxed c.deref-statement-in-Switch.result.now c.deref-in-Switch.result.now c.in-Switch.is c.deref-statement-in-Switch.ensures c.deref-in-Switch.ensures.value (record { all = before c.in_ok-find_expr-in-Switch.ensures c.in_ok-find_switch-in-Switch.ensures.all })

pub find_stmt-returns-in_ok-find_stmt-in-Label : goal.find_stmt-returns-in_ok-find_stmt-in-Label
find_stmt-returns-in_ok-find_stmt-in-Label t c = arm.at_label _ c.in-Label.name c.in-Label.body c.deref-in-Label.result.now c.in-Label.is c.deref-in-Label.ensures (record { all = c.in_ok-find_stmt-in-Label.ensures.row.all })

pub find_stmt-returns-in_ok-find_handler-in-Try : goal.find_stmt-returns-in_ok-find_handler-in-Try
find_stmt-returns-in_ok-find_handler-in-Try t c = arm.at_try _ c.in-Try.boxed c.deref-statement-in-Try.result.now c.deref-in-Try.result.now c.deref-in-Try-2.result.now c.in-Try.is c.deref-statement-in-Try.ensures c.deref-in-Try.ensures.value c.deref-in-Try-2.ensures.value (record { all = both c.in_ok-find_block-in-Try.ensures.all c.in_ok-find_handler-in-Try.ensures.all })
