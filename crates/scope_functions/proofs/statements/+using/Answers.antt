use Rattle.std.proofs.Common.{List, ◌++◌, map, option_map, refl, sym, ap, ◌∙◌, arith}
use Rattle.script_grammar.specs.declared.tree.Stmt.{Stmt}
use Rattle.script_grammar.specs.declared.tree.ForInStatement.{out-ForInStatement}
use Rattle.script_grammar.specs.declared.tree.TryStatement.{out-TryStatement}
use Rattle.script_grammar.specs.declared.tree.Clause.{Clause}
use Rattle.script_grammar.specs.Interpretation.{maybe_named}
use Rattle.script_grammar.specs.TreeLists.{maybe_expr_of, stmts_of, clauses_of}
use Rattle.script_grammar.specs.TreeOf.{expr_of, init_of, each_of, stmt_of, clause_of}
use Rattle.script_grammar.proofs.PartEquations.{clause_of-fields, func_of-fields}
use Rattle.script_grammar.proofs.StmtEquations.{stmt_of-Block, stmt_of-Binds, stmt_of-Value, stmt_of-If, stmt_of-Do, stmt_of-While, stmt_of-For, stmt_of-ForIn, stmt_of-Return, stmt_of-Throw, stmt_of-Switch, stmt_of-Label, stmt_of-Try, stmt_of-Func}
use Rattle.scope_analysis.specs.DeclaredNames.{has_text, texts_of, texts_without, name_list, lexical_names, clauses_lexical_names, init_lexical_names, each_lexical_names}
use Rattle.scope_analysis.specs.Kept.{under}
use Rattle.scope_analysis.specs.Uses.{uses_expr, uses_maybe, uses_init, uses_each, uses_stmt, uses_stmts, uses_clauses}
use Rattle.scope_functions.proofs.OwnUses.{has_either, has_third, two_first, three_first, used_first, used_behind, used_unbound, used_bound}
use Rattle.scope_functions.proofs.Turns.{turn_found, turn_on, turns_end}
use Rattle.scope_functions.proofs.statements.+using.Goals as goal

pub uses_block-returns-then-not-is_lexical : goal.uses_block-returns-then-not-is_lexical
uses_block-returns-then-not-is_lexical t c = λ bodies.
    used_unbound (texts_of (lexical_names (stmts_of (map (stmt_of (under c.args.wanted.now.texts.now bodies)) c.args.items.now)))) (uses_stmts (stmts_of (map (stmt_of (under c.args.wanted.now.texts.now bodies)) c.args.items.now))).own c.args.wanted.now.units.now _ _ (c.is_lexical.ensures bodies) c.if-not-is_lexical.true (c.uses_stmts.ensures bodies)

pub uses_block-returns-else-not-is_lexical : goal.uses_block-returns-else-not-is_lexical
uses_block-returns-else-not-is_lexical t c = λ bodies.
    used_bound (texts_of (lexical_names (stmts_of (map (stmt_of (under c.args.wanted.now.texts.now bodies)) c.args.items.now)))) (uses_stmts (stmts_of (map (stmt_of (under c.args.wanted.now.texts.now bodies)) c.args.items.now))).own c.args.wanted.now.units.now _ (c.is_lexical.ensures bodies) c.if-not-is_lexical.false

pub uses_switch-returns-then-not-is_lexical_in_clauses : goal.uses_switch-returns-then-not-is_lexical_in_clauses
uses_switch-returns-then-not-is_lexical_in_clauses t c = λ bodies.
    used_unbound (texts_of (clauses_lexical_names (clauses_of (map (clause_of (under c.args.wanted.now.texts.now bodies)) c.args.clauses.now)))) (uses_clauses (clauses_of (map (clause_of (under c.args.wanted.now.texts.now bodies)) c.args.clauses.now))).own c.args.wanted.now.units.now _ _ (c.is_lexical_in_clauses.ensures bodies) c.if-not-is_lexical_in_clauses.true (c.uses_clauses.ensures bodies)

pub uses_switch-returns-else-not-is_lexical_in_clauses : goal.uses_switch-returns-else-not-is_lexical_in_clauses
uses_switch-returns-else-not-is_lexical_in_clauses t c = λ bodies.
    used_bound (texts_of (clauses_lexical_names (clauses_of (map (clause_of (under c.args.wanted.now.texts.now bodies)) c.args.clauses.now)))) (uses_clauses (clauses_of (map (clause_of (under c.args.wanted.now.texts.now bodies)) c.args.clauses.now))).own c.args.wanted.now.units.now _ (c.is_lexical_in_clauses.ensures bodies) c.if-not-is_lexical_in_clauses.false

pub uses_clause-returns-then-uses_maybe : goal.uses_clause-returns-then-uses_maybe
uses_clause-returns-then-uses_maybe t c = λ bodies.
    rw (clause_of-fields (under c.args.wanted.now.texts.now bodies) c.args.clause.now) (used_first _ _ c.args.wanted.now.units.now _ (c.uses_maybe.ensures bodies) c.if-uses_maybe.true)

pub uses_clause-returns-else-uses_maybe : goal.uses_clause-returns-else-uses_maybe
uses_clause-returns-else-uses_maybe t c = λ bodies.
    rw (clause_of-fields (under c.args.wanted.now.texts.now bodies) c.args.clause.now) (rw (sym c.deref.ensures.value) (used_behind _ _ c.args.wanted.now.units.now _ _ (c.uses_maybe.ensures bodies) c.if-uses_maybe.false (c.uses_stmts.ensures bodies)))

pub uses_stmts-returns-then-uses_stmt : goal.uses_stmts-returns-then-uses_stmt
uses_stmts-returns-then-uses_stmt t c = λ bodies.
    turn_found (λ (ys : List Stmt). (uses_stmts (stmts_of (map (stmt_of (under c.args.wanted.now.texts.now bodies)) ys))).own) (λ (x : Stmt). (uses_stmt (stmt_of (under c.args.wanted.now.texts.now bodies) x)).own) c.args.wanted.now.units.now (λ (x : Stmt) (xs : List Stmt). has_either (uses_stmt (stmt_of (under c.args.wanted.now.texts.now bodies) x)).own (uses_stmts (stmts_of (map (stmt_of (under c.args.wanted.now.texts.now bodies)) xs))).own c.args.wanted.now.units.now) c.args.items.now c.loop-item.item-index c.item-item.result c.uses_stmt.result (omega arith) c.item-item.is (c.uses_stmt.ensures bodies) (c.loop-item.invariant bodies) c.if-uses_stmt.true

pub uses_stmts-loop-item-preserved : goal.uses_stmts-loop-item-preserved
uses_stmts-loop-item-preserved t c = λ bodies.
    turn_on (λ (ys : List Stmt). (uses_stmts (stmts_of (map (stmt_of (under c.args.wanted.now.texts.now bodies)) ys))).own) (λ (x : Stmt). (uses_stmt (stmt_of (under c.args.wanted.now.texts.now bodies) x)).own) c.args.wanted.now.units.now (λ (x : Stmt) (xs : List Stmt). has_either (uses_stmt (stmt_of (under c.args.wanted.now.texts.now bodies) x)).own (uses_stmts (stmts_of (map (stmt_of (under c.args.wanted.now.texts.now bodies)) xs))).own c.args.wanted.now.units.now) c.args.items.now c.loop-item.item-index c.item-item.result c.uses_stmt.result (omega arith) c.item-item.is (c.uses_stmt.ensures bodies) (c.loop-item.invariant bodies) c.if-uses_stmt.false

pub uses_stmts-returns : goal.uses_stmts-returns
uses_stmts-returns t c = λ bodies.
    turns_end (λ (ys : List Stmt). (uses_stmts (stmts_of (map (stmt_of (under c.args.wanted.now.texts.now bodies)) ys))).own) c.args.wanted.now.units.now refl c.args.items.now c.loop-item.item-index (omega arith) (c.loop-item.invariant bodies)

pub uses_clauses-returns-then-uses_clause : goal.uses_clauses-returns-then-uses_clause
uses_clauses-returns-then-uses_clause t c = λ bodies.
    turn_found (λ (ys : List Clause). (uses_clauses (clauses_of (map (clause_of (under c.args.wanted.now.texts.now bodies)) ys))).own) (λ (x : Clause). (uses_maybe (maybe_expr_of (clause_of (under c.args.wanted.now.texts.now bodies) x).test)).own ++ (uses_stmts (stmts_of (clause_of (under c.args.wanted.now.texts.now bodies) x).items)).own) c.args.wanted.now.units.now (λ (x : Clause) (xs : List Clause). has_third (uses_maybe (maybe_expr_of (clause_of (under c.args.wanted.now.texts.now bodies) x).test)).own (uses_stmts (stmts_of (clause_of (under c.args.wanted.now.texts.now bodies) x).items)).own (uses_clauses (clauses_of (map (clause_of (under c.args.wanted.now.texts.now bodies)) xs))).own c.args.wanted.now.units.now) c.args.clauses.now c.loop-clause.clause-index c.clause-item.result c.uses_clause.result (omega arith) c.clause-item.is (c.uses_clause.ensures bodies) (c.loop-clause.invariant bodies) c.if-uses_clause.true

pub uses_clauses-loop-clause-preserved : goal.uses_clauses-loop-clause-preserved
uses_clauses-loop-clause-preserved t c = λ bodies.
    turn_on (λ (ys : List Clause). (uses_clauses (clauses_of (map (clause_of (under c.args.wanted.now.texts.now bodies)) ys))).own) (λ (x : Clause). (uses_maybe (maybe_expr_of (clause_of (under c.args.wanted.now.texts.now bodies) x).test)).own ++ (uses_stmts (stmts_of (clause_of (under c.args.wanted.now.texts.now bodies) x).items)).own) c.args.wanted.now.units.now (λ (x : Clause) (xs : List Clause). has_third (uses_maybe (maybe_expr_of (clause_of (under c.args.wanted.now.texts.now bodies) x).test)).own (uses_stmts (stmts_of (clause_of (under c.args.wanted.now.texts.now bodies) x).items)).own (uses_clauses (clauses_of (map (clause_of (under c.args.wanted.now.texts.now bodies)) xs))).own c.args.wanted.now.units.now) c.args.clauses.now c.loop-clause.clause-index c.clause-item.result c.uses_clause.result (omega arith) c.clause-item.is (c.uses_clause.ensures bodies) (c.loop-clause.invariant bodies) c.if-uses_clause.false

pub uses_clauses-returns : goal.uses_clauses-returns
uses_clauses-returns t c = λ bodies.
    turns_end (λ (ys : List Clause). (uses_clauses (clauses_of (map (clause_of (under c.args.wanted.now.texts.now bodies)) ys))).own) c.args.wanted.now.units.now refl c.args.clauses.now c.loop-clause.clause-index (omega arith) (c.loop-clause.invariant bodies)

pub uses_else-returns-in-Some : goal.uses_else-returns-in-Some
uses_else-returns-in-Some t c = λ bodies.
    rw c.in-Some.is (rw (sym c.deref.ensures) (c.uses_stmt.ensures bodies))

pub uses_stmt-returns-in-Block : goal.uses_stmt-returns-in-Block
uses_stmt-returns-in-Block t c = λ bodies.
    rw c.in-Block.is (rw (stmt_of-Block (under c.args.wanted.now.texts.now bodies) c.in-Block.items) (rw (sym c.deref.ensures.value) (c.uses_block.ensures bodies)))

pub uses_stmt-returns-in-Binds : goal.uses_stmt-returns-in-Binds
uses_stmt-returns-in-Binds t c = λ bodies.
    rw c.in-Binds.is (rw (stmt_of-Binds (under c.args.wanted.now.texts.now bodies) c.in-Binds.decl c.in-Binds.binds c.in-Binds.semi) (rw (sym c.deref-in-Binds.ensures.value) (c.uses_binds.ensures bodies)))

pub uses_stmt-returns-in-Value : goal.uses_stmt-returns-in-Value
uses_stmt-returns-in-Value t c = λ bodies.
    rw c.in-Value.is (rw (stmt_of-Value (under c.args.wanted.now.texts.now bodies) c.in-Value.value c.in-Value.semi) (c.uses_expr.ensures bodies))

pub uses_stmt-returns-then-uses_expr : goal.uses_stmt-returns-then-uses_expr
uses_stmt-returns-then-uses_expr t c = λ bodies.
    rw c.in-If.is (rw (stmt_of-If (under c.args.wanted.now.texts.now bodies) c.in-If.boxed) (rw (sym c.deref-statement.ensures) (used_first _ _ c.args.wanted.now.units.now _ (c.uses_expr-in-If.ensures bodies) c.if-uses_expr.true)))

pub uses_stmt-returns-then-uses_stmt : goal.uses_stmt-returns-then-uses_stmt
uses_stmt-returns-then-uses_stmt t c = λ bodies.
    rw c.in-If.is (rw (stmt_of-If (under c.args.wanted.now.texts.now bodies) c.in-If.boxed) (rw (sym c.deref-statement.ensures) ((used_behind _ _ c.args.wanted.now.units.now _ _ (c.uses_expr-in-If.ensures bodies) c.if-uses_expr.false (used_first _ _ c.args.wanted.now.units.now _ (c.uses_stmt.ensures bodies) c.if-uses_stmt.true)))))

pub uses_stmt-returns-else-uses_stmt : goal.uses_stmt-returns-else-uses_stmt
uses_stmt-returns-else-uses_stmt t c = λ bodies.
    rw c.in-If.is (rw (stmt_of-If (under c.args.wanted.now.texts.now bodies) c.in-If.boxed) (rw (sym c.deref-statement.ensures) ((used_behind _ _ c.args.wanted.now.units.now _ _ (c.uses_expr-in-If.ensures bodies) c.if-uses_expr.false (used_behind _ _ c.args.wanted.now.units.now _ _ (c.uses_stmt.ensures bodies) c.if-uses_stmt.false (c.uses_else.ensures bodies))))))

pub uses_stmt-returns-then-uses_stmt-2 : goal.uses_stmt-returns-then-uses_stmt-2
uses_stmt-returns-then-uses_stmt-2 t c = λ bodies.
    rw c.in-Do.is (rw (stmt_of-Do (under c.args.wanted.now.texts.now bodies) c.in-Do.semi c.in-Do.body c.in-Do.test) (rw (sym c.deref-in-Do.ensures) (used_first _ _ c.args.wanted.now.units.now _ (c.uses_stmt-in-Do.ensures bodies) c.if-uses_stmt-2.true)))

pub uses_stmt-returns-else-uses_stmt-2 : goal.uses_stmt-returns-else-uses_stmt-2
uses_stmt-returns-else-uses_stmt-2 t c = λ bodies.
    rw c.in-Do.is (rw (stmt_of-Do (under c.args.wanted.now.texts.now bodies) c.in-Do.semi c.in-Do.body c.in-Do.test) (rw (sym c.deref-in-Do.ensures) (used_behind _ _ c.args.wanted.now.units.now _ _ (c.uses_stmt-in-Do.ensures bodies) c.if-uses_stmt-2.false (c.uses_expr-else-uses_stmt-2.ensures bodies))))

pub uses_stmt-returns-then-uses_expr-2 : goal.uses_stmt-returns-then-uses_expr-2
uses_stmt-returns-then-uses_expr-2 t c = λ bodies.
    rw c.in-While.is (rw (stmt_of-While (under c.args.wanted.now.texts.now bodies) c.in-While.test c.in-While.body) (used_first _ _ c.args.wanted.now.units.now _ (c.uses_expr-in-While.ensures bodies) c.if-uses_expr-2.true))

pub uses_stmt-returns-else-uses_expr-2 : goal.uses_stmt-returns-else-uses_expr-2
uses_stmt-returns-else-uses_expr-2 t c = λ bodies.
    rw c.in-While.is (rw (stmt_of-While (under c.args.wanted.now.texts.now bodies) c.in-While.test c.in-While.body) (rw (sym c.deref-else-uses_expr-2.ensures) (used_behind _ _ c.args.wanted.now.units.now _ _ (c.uses_expr-in-While.ensures bodies) c.if-uses_expr-2.false (c.uses_stmt-else-uses_expr-2.ensures bodies))))

pub uses_stmt-returns-then-uses_for_head : goal.uses_stmt-returns-then-uses_for_head
uses_stmt-returns-then-uses_for_head t c = λ bodies.
    rw c.in-For.is (rw (stmt_of-For (under c.args.wanted.now.texts.now bodies) c.in-For.boxed) (rw (sym c.deref-statement-in-For.ensures) (used_unbound (texts_of (init_lexical_names (init_of (under c.args.wanted.now.texts.now bodies) c.deref-statement-in-For.result.now.init))) ((uses_init (init_of (under c.args.wanted.now.texts.now bodies) c.deref-statement-in-For.result.now.init)).own ++ ((uses_maybe (maybe_expr_of (option_map (expr_of (under c.args.wanted.now.texts.now bodies)) c.deref-statement-in-For.result.now.test))).own ++ ((uses_maybe (maybe_expr_of (option_map (expr_of (under c.args.wanted.now.texts.now bodies)) c.deref-statement-in-For.result.now.update))).own ++ (uses_stmt (stmt_of (under c.args.wanted.now.texts.now bodies) c.deref-statement-in-For.result.now.body)).own))) c.args.wanted.now.units.now _ _ (c.is_lexical_in_init.ensures bodies) c.if-not-is_lexical_in_init.true (used_first ((uses_init (init_of (under c.args.wanted.now.texts.now bodies) c.deref-statement-in-For.result.now.init)).own ++ ((uses_maybe (maybe_expr_of (option_map (expr_of (under c.args.wanted.now.texts.now bodies)) c.deref-statement-in-For.result.now.test))).own ++ (uses_maybe (maybe_expr_of (option_map (expr_of (under c.args.wanted.now.texts.now bodies)) c.deref-statement-in-For.result.now.update))).own)) (uses_stmt (stmt_of (under c.args.wanted.now.texts.now bodies) c.deref-statement-in-For.result.now.body)).own c.args.wanted.now.units.now _ (c.uses_for_head.ensures bodies) c.if-uses_for_head.true ∙ three_first (uses_init (init_of (under c.args.wanted.now.texts.now bodies) c.deref-statement-in-For.result.now.init)).own (uses_maybe (maybe_expr_of (option_map (expr_of (under c.args.wanted.now.texts.now bodies)) c.deref-statement-in-For.result.now.test))).own (uses_maybe (maybe_expr_of (option_map (expr_of (under c.args.wanted.now.texts.now bodies)) c.deref-statement-in-For.result.now.update))).own (uses_stmt (stmt_of (under c.args.wanted.now.texts.now bodies) c.deref-statement-in-For.result.now.body)).own c.args.wanted.now.units.now))))

pub uses_stmt-returns-else-uses_for_head : goal.uses_stmt-returns-else-uses_for_head
uses_stmt-returns-else-uses_for_head t c = λ bodies.
    rw c.in-For.is (rw (stmt_of-For (under c.args.wanted.now.texts.now bodies) c.in-For.boxed) (rw (sym c.deref-statement-in-For.ensures) (used_unbound (texts_of (init_lexical_names (init_of (under c.args.wanted.now.texts.now bodies) c.deref-statement-in-For.result.now.init))) ((uses_init (init_of (under c.args.wanted.now.texts.now bodies) c.deref-statement-in-For.result.now.init)).own ++ ((uses_maybe (maybe_expr_of (option_map (expr_of (under c.args.wanted.now.texts.now bodies)) c.deref-statement-in-For.result.now.test))).own ++ ((uses_maybe (maybe_expr_of (option_map (expr_of (under c.args.wanted.now.texts.now bodies)) c.deref-statement-in-For.result.now.update))).own ++ (uses_stmt (stmt_of (under c.args.wanted.now.texts.now bodies) c.deref-statement-in-For.result.now.body)).own))) c.args.wanted.now.units.now _ _ (c.is_lexical_in_init.ensures bodies) c.if-not-is_lexical_in_init.true (used_behind ((uses_init (init_of (under c.args.wanted.now.texts.now bodies) c.deref-statement-in-For.result.now.init)).own ++ ((uses_maybe (maybe_expr_of (option_map (expr_of (under c.args.wanted.now.texts.now bodies)) c.deref-statement-in-For.result.now.test))).own ++ (uses_maybe (maybe_expr_of (option_map (expr_of (under c.args.wanted.now.texts.now bodies)) c.deref-statement-in-For.result.now.update))).own)) (uses_stmt (stmt_of (under c.args.wanted.now.texts.now bodies) c.deref-statement-in-For.result.now.body)).own c.args.wanted.now.units.now _ _ (c.uses_for_head.ensures bodies) c.if-uses_for_head.false (c.uses_stmt-else-uses_for_head.ensures bodies) ∙ three_first (uses_init (init_of (under c.args.wanted.now.texts.now bodies) c.deref-statement-in-For.result.now.init)).own (uses_maybe (maybe_expr_of (option_map (expr_of (under c.args.wanted.now.texts.now bodies)) c.deref-statement-in-For.result.now.test))).own (uses_maybe (maybe_expr_of (option_map (expr_of (under c.args.wanted.now.texts.now bodies)) c.deref-statement-in-For.result.now.update))).own (uses_stmt (stmt_of (under c.args.wanted.now.texts.now bodies) c.deref-statement-in-For.result.now.body)).own c.args.wanted.now.units.now))))

pub uses_stmt-returns-else-not-is_lexical_in_init : goal.uses_stmt-returns-else-not-is_lexical_in_init
uses_stmt-returns-else-not-is_lexical_in_init t c = λ bodies.
    rw c.in-For.is (rw (stmt_of-For (under c.args.wanted.now.texts.now bodies) c.in-For.boxed) (rw (sym c.deref-statement-in-For.ensures) (used_bound (texts_of (init_lexical_names (init_of (under c.args.wanted.now.texts.now bodies) c.deref-statement-in-For.result.now.init))) ((uses_init (init_of (under c.args.wanted.now.texts.now bodies) c.deref-statement-in-For.result.now.init)).own ++ ((uses_maybe (maybe_expr_of (option_map (expr_of (under c.args.wanted.now.texts.now bodies)) c.deref-statement-in-For.result.now.test))).own ++ ((uses_maybe (maybe_expr_of (option_map (expr_of (under c.args.wanted.now.texts.now bodies)) c.deref-statement-in-For.result.now.update))).own ++ (uses_stmt (stmt_of (under c.args.wanted.now.texts.now bodies) c.deref-statement-in-For.result.now.body)).own))) c.args.wanted.now.units.now _ (c.is_lexical_in_init.ensures bodies) c.if-not-is_lexical_in_init.false)))

pub uses_stmt-returns-then-uses_for_in_head : goal.uses_stmt-returns-then-uses_for_in_head
uses_stmt-returns-then-uses_for_in_head t c = λ bodies.
    rw c.in-ForIn.is (rw (stmt_of-ForIn (under c.args.wanted.now.texts.now bodies) c.in-ForIn.boxed) (rw (sym c.deref-statement-in-ForIn.ensures) (used_unbound (texts_of (each_lexical_names (each_of (under c.args.wanted.now.texts.now bodies) (out-ForInStatement c.deref-statement-in-ForIn.result.now).each))) ((uses_each (each_of (under c.args.wanted.now.texts.now bodies) (out-ForInStatement c.deref-statement-in-ForIn.result.now).each)).own ++ ((uses_expr (expr_of (under c.args.wanted.now.texts.now bodies) (out-ForInStatement c.deref-statement-in-ForIn.result.now).over)).own ++ (uses_stmt (stmt_of (under c.args.wanted.now.texts.now bodies) (out-ForInStatement c.deref-statement-in-ForIn.result.now).body)).own)) c.args.wanted.now.units.now _ _ (c.is_lexical_in_each.ensures bodies) c.if-not-is_lexical_in_each.true (used_first ((uses_each (each_of (under c.args.wanted.now.texts.now bodies) (out-ForInStatement c.deref-statement-in-ForIn.result.now).each)).own ++ (uses_expr (expr_of (under c.args.wanted.now.texts.now bodies) (out-ForInStatement c.deref-statement-in-ForIn.result.now).over)).own) (uses_stmt (stmt_of (under c.args.wanted.now.texts.now bodies) (out-ForInStatement c.deref-statement-in-ForIn.result.now).body)).own c.args.wanted.now.units.now _ (c.uses_for_in_head.ensures bodies) c.if-uses_for_in_head.true ∙ two_first (uses_each (each_of (under c.args.wanted.now.texts.now bodies) (out-ForInStatement c.deref-statement-in-ForIn.result.now).each)).own (uses_expr (expr_of (under c.args.wanted.now.texts.now bodies) (out-ForInStatement c.deref-statement-in-ForIn.result.now).over)).own (uses_stmt (stmt_of (under c.args.wanted.now.texts.now bodies) (out-ForInStatement c.deref-statement-in-ForIn.result.now).body)).own c.args.wanted.now.units.now))))

pub uses_stmt-returns-else-uses_for_in_head : goal.uses_stmt-returns-else-uses_for_in_head
uses_stmt-returns-else-uses_for_in_head t c = λ bodies.
    rw c.in-ForIn.is (rw (stmt_of-ForIn (under c.args.wanted.now.texts.now bodies) c.in-ForIn.boxed) (rw (sym c.deref-statement-in-ForIn.ensures) (used_unbound (texts_of (each_lexical_names (each_of (under c.args.wanted.now.texts.now bodies) (out-ForInStatement c.deref-statement-in-ForIn.result.now).each))) ((uses_each (each_of (under c.args.wanted.now.texts.now bodies) (out-ForInStatement c.deref-statement-in-ForIn.result.now).each)).own ++ ((uses_expr (expr_of (under c.args.wanted.now.texts.now bodies) (out-ForInStatement c.deref-statement-in-ForIn.result.now).over)).own ++ (uses_stmt (stmt_of (under c.args.wanted.now.texts.now bodies) (out-ForInStatement c.deref-statement-in-ForIn.result.now).body)).own)) c.args.wanted.now.units.now _ _ (c.is_lexical_in_each.ensures bodies) c.if-not-is_lexical_in_each.true (used_behind ((uses_each (each_of (under c.args.wanted.now.texts.now bodies) (out-ForInStatement c.deref-statement-in-ForIn.result.now).each)).own ++ (uses_expr (expr_of (under c.args.wanted.now.texts.now bodies) (out-ForInStatement c.deref-statement-in-ForIn.result.now).over)).own) (uses_stmt (stmt_of (under c.args.wanted.now.texts.now bodies) (out-ForInStatement c.deref-statement-in-ForIn.result.now).body)).own c.args.wanted.now.units.now _ _ (c.uses_for_in_head.ensures bodies) c.if-uses_for_in_head.false (c.uses_stmt-else-uses_for_in_head.ensures bodies) ∙ two_first (uses_each (each_of (under c.args.wanted.now.texts.now bodies) (out-ForInStatement c.deref-statement-in-ForIn.result.now).each)).own (uses_expr (expr_of (under c.args.wanted.now.texts.now bodies) (out-ForInStatement c.deref-statement-in-ForIn.result.now).over)).own (uses_stmt (stmt_of (under c.args.wanted.now.texts.now bodies) (out-ForInStatement c.deref-statement-in-ForIn.result.now).body)).own c.args.wanted.now.units.now))))

pub uses_stmt-returns-else-not-is_lexical_in_each : goal.uses_stmt-returns-else-not-is_lexical_in_each
uses_stmt-returns-else-not-is_lexical_in_each t c = λ bodies.
    rw c.in-ForIn.is (rw (stmt_of-ForIn (under c.args.wanted.now.texts.now bodies) c.in-ForIn.boxed) (rw (sym c.deref-statement-in-ForIn.ensures) (used_bound (texts_of (each_lexical_names (each_of (under c.args.wanted.now.texts.now bodies) (out-ForInStatement c.deref-statement-in-ForIn.result.now).each))) ((uses_each (each_of (under c.args.wanted.now.texts.now bodies) (out-ForInStatement c.deref-statement-in-ForIn.result.now).each)).own ++ ((uses_expr (expr_of (under c.args.wanted.now.texts.now bodies) (out-ForInStatement c.deref-statement-in-ForIn.result.now).over)).own ++ (uses_stmt (stmt_of (under c.args.wanted.now.texts.now bodies) (out-ForInStatement c.deref-statement-in-ForIn.result.now).body)).own)) c.args.wanted.now.units.now _ (c.is_lexical_in_each.ensures bodies) c.if-not-is_lexical_in_each.false)))

pub uses_stmt-returns-in-Return : goal.uses_stmt-returns-in-Return
uses_stmt-returns-in-Return t c = λ bodies.
    rw c.in-Return.is (rw (stmt_of-Return (under c.args.wanted.now.texts.now bodies) c.in-Return.semi c.in-Return.value) (c.uses_maybe.ensures bodies))

pub uses_stmt-returns-in-Throw : goal.uses_stmt-returns-in-Throw
uses_stmt-returns-in-Throw t c = λ bodies.
    rw c.in-Throw.is (rw (stmt_of-Throw (under c.args.wanted.now.texts.now bodies) c.in-Throw.value c.in-Throw.semi) (c.uses_expr-in-Throw.ensures bodies))

pub uses_stmt-returns-then-uses_expr-3 : goal.uses_stmt-returns-then-uses_expr-3
uses_stmt-returns-then-uses_expr-3 t c = λ bodies.
    rw c.in-Switch.is (rw (stmt_of-Switch (under c.args.wanted.now.texts.now bodies) c.in-Switch.boxed) (rw (sym c.deref-statement-in-Switch.ensures) (used_first _ _ c.args.wanted.now.units.now _ (c.uses_expr-in-Switch.ensures bodies) c.if-uses_expr-3.true)))

pub uses_stmt-returns-else-uses_expr-3 : goal.uses_stmt-returns-else-uses_expr-3
uses_stmt-returns-else-uses_expr-3 t c = λ bodies.
    rw c.in-Switch.is (rw (stmt_of-Switch (under c.args.wanted.now.texts.now bodies) c.in-Switch.boxed) (rw (sym c.deref-statement-in-Switch.ensures) (rw (sym c.deref-else-uses_expr-3.ensures.value) (used_behind _ _ c.args.wanted.now.units.now _ _ (c.uses_expr-in-Switch.ensures bodies) c.if-uses_expr-3.false (c.uses_switch.ensures bodies)))))

pub uses_stmt-returns-in-Label : goal.uses_stmt-returns-in-Label
uses_stmt-returns-in-Label t c = λ bodies.
    rw c.in-Label.is (rw (stmt_of-Label (under c.args.wanted.now.texts.now bodies) c.in-Label.name c.in-Label.body) (rw (sym c.deref-in-Label.ensures) (c.uses_stmt-in-Label.ensures bodies)))

pub uses_stmt-returns-then-uses_block : goal.uses_stmt-returns-then-uses_block
uses_stmt-returns-then-uses_block t c = λ bodies.
    rw c.in-Try.is (rw (stmt_of-Try (under c.args.wanted.now.texts.now bodies) c.in-Try.boxed) (rw (sym c.deref-statement-in-Try.ensures) (rw (sym c.deref-in-Try.ensures.value) (used_first _ _ c.args.wanted.now.units.now _ (c.uses_block-in-Try.ensures bodies) c.if-uses_block.true))))

pub uses_stmt-returns-then-not-is_named : goal.uses_stmt-returns-then-not-is_named
uses_stmt-returns-then-not-is_named t c = λ bodies.
    rw c.in-Try.is (rw (stmt_of-Try (under c.args.wanted.now.texts.now bodies) c.in-Try.boxed) (rw (sym c.deref-statement-in-Try.ensures) (rw (sym c.deref-in-Try.ensures.value) (rw (sym c.deref-then-not-is_named.ensures.value) (used_behind _ _ c.args.wanted.now.units.now _ _ (c.uses_block-in-Try.ensures bodies) c.if-uses_block.false (used_unbound (name_list (maybe_named (under c.args.wanted.now.texts.now bodies) (out-TryStatement c.deref-statement-in-Try.result.now).param)) (texts_without (texts_of (lexical_names (stmts_of (map (stmt_of (under c.args.wanted.now.texts.now bodies)) c.deref-then-not-is_named.result.now)))) (uses_stmts (stmts_of (map (stmt_of (under c.args.wanted.now.texts.now bodies)) c.deref-then-not-is_named.result.now))).own) c.args.wanted.now.units.now _ _ (c.is_named.ensures bodies) c.if-not-is_named.true (c.uses_block-then-not-is_named.ensures bodies)))))))

pub uses_stmt-returns-else-not-is_named : goal.uses_stmt-returns-else-not-is_named
uses_stmt-returns-else-not-is_named t c = λ bodies.
    rw c.in-Try.is (rw (stmt_of-Try (under c.args.wanted.now.texts.now bodies) c.in-Try.boxed) (rw (sym c.deref-statement-in-Try.ensures) (rw (sym c.deref-in-Try.ensures.value) (used_behind _ _ c.args.wanted.now.units.now _ _ (c.uses_block-in-Try.ensures bodies) c.if-uses_block.false (used_bound (name_list (maybe_named (under c.args.wanted.now.texts.now bodies) (out-TryStatement c.deref-statement-in-Try.result.now).param)) (texts_without (texts_of (lexical_names (stmts_of (map (stmt_of (under c.args.wanted.now.texts.now bodies)) (out-TryStatement c.deref-statement-in-Try.result.now).handler.items)))) (uses_stmts (stmts_of (map (stmt_of (under c.args.wanted.now.texts.now bodies)) (out-TryStatement c.deref-statement-in-Try.result.now).handler.items))).own) c.args.wanted.now.units.now _ (c.is_named.ensures bodies) c.if-not-is_named.false)))))

pub uses_stmt-returns-in-Func : goal.uses_stmt-returns-in-Func
uses_stmt-returns-in-Func t c = λ bodies.
    rw c.in-Func.is (rw (stmt_of-Func (under c.args.wanted.now.texts.now bodies) c.in-Func.field-0) (rw (func_of-fields (under c.args.wanted.now.texts.now bodies) c.in-Func.field-0.value) refl))
