use Rattle.std.proofs.Common.{List, map, refl, sym, ap, ◌∙◌, arith}
use Rattle.script_grammar.specs.declared.tree.Stmt.{Stmt}
use Rattle.script_grammar.specs.declared.tree.Clause.{Clause}
use Rattle.script_grammar.specs.TreeLists as part
use Rattle.script_grammar.specs.TreeLists.{binds_of, stmts_of, clauses_of}
use Rattle.script_grammar.specs.TreeOf.{stmt_of, clause_of}
use Rattle.script_grammar.proofs.PartEquations.{clause_of-fields}
use Rattle.scope_analysis.specs.DeclaredNames.{has_text, var_names_in, var_names, clauses_var_names}
use Rattle.scope_analysis.specs.Kept.{under}
use Rattle.script_grammar.proofs.StmtEquations.{stmt_of-Block, stmt_of-Binds, stmt_of-If, stmt_of-Do, stmt_of-While, stmt_of-For, stmt_of-ForIn, stmt_of-Switch, stmt_of-Label, stmt_of-Try}
use Rattle.scope_functions.proofs.OwnUses.{has_either, used_first, used_behind}
use Rattle.scope_functions.proofs.Turns.{turn_found, turn_on, turns_end}
use Rattle.scope_functions.proofs.declared.+vars.Goals as goal

pub is_var-returns-then-is_var_in : goal.is_var-returns-then-is_var_in
is_var-returns-then-is_var_in t c = λ bodies.
    turn_found (λ (ys : List Stmt). var_names (stmts_of (map (stmt_of (under c.args.wanted.now.texts.now bodies)) ys))) (λ (x : Stmt). var_names_in (stmt_of (under c.args.wanted.now.texts.now bodies) x)) c.args.wanted.now.units.now (λ (x : Stmt) (xs : List Stmt). has_either (var_names_in (stmt_of (under c.args.wanted.now.texts.now bodies) x)) (var_names (stmts_of (map (stmt_of (under c.args.wanted.now.texts.now bodies)) xs))) c.args.wanted.now.units.now) c.args.items.now c.loop-item.item-index c.item-item.result c.is_var_in.result (omega arith) c.item-item.is (c.is_var_in.ensures bodies) (c.loop-item.invariant bodies) c.if-is_var_in.true

pub is_var-loop-item-preserved : goal.is_var-loop-item-preserved
is_var-loop-item-preserved t c = λ bodies.
    turn_on (λ (ys : List Stmt). var_names (stmts_of (map (stmt_of (under c.args.wanted.now.texts.now bodies)) ys))) (λ (x : Stmt). var_names_in (stmt_of (under c.args.wanted.now.texts.now bodies) x)) c.args.wanted.now.units.now (λ (x : Stmt) (xs : List Stmt). has_either (var_names_in (stmt_of (under c.args.wanted.now.texts.now bodies) x)) (var_names (stmts_of (map (stmt_of (under c.args.wanted.now.texts.now bodies)) xs))) c.args.wanted.now.units.now) c.args.items.now c.loop-item.item-index c.item-item.result c.is_var_in.result (omega arith) c.item-item.is (c.is_var_in.ensures bodies) (c.loop-item.invariant bodies) c.if-is_var_in.false

pub is_var-returns : goal.is_var-returns
is_var-returns t c = λ bodies.
    turns_end (λ (ys : List Stmt). var_names (stmts_of (map (stmt_of (under c.args.wanted.now.texts.now bodies)) ys))) c.args.wanted.now.units.now refl c.args.items.now c.loop-item.item-index (omega arith) (c.loop-item.invariant bodies)

pub is_var_in_clauses-returns-then-is_var : goal.is_var_in_clauses-returns-then-is_var
is_var_in_clauses-returns-then-is_var t c = λ bodies.
    turn_found (λ (ys : List Clause). clauses_var_names (clauses_of (map (clause_of (under c.args.wanted.now.texts.now bodies)) ys))) (λ (x : Clause). var_names (stmts_of (clause_of (under c.args.wanted.now.texts.now bodies) x).items)) c.args.wanted.now.units.now (λ (x : Clause) (xs : List Clause). has_either (var_names (stmts_of (clause_of (under c.args.wanted.now.texts.now bodies) x).items)) (clauses_var_names (clauses_of (map (clause_of (under c.args.wanted.now.texts.now bodies)) xs))) c.args.wanted.now.units.now) c.args.clauses.now c.loop-clause.clause-index c.clause-item.result c.is_var.result (omega arith) c.clause-item.is (c.is_var.ensures bodies ∙ (ap (λ (xs : List Stmt). has_text (var_names (stmts_of (map (stmt_of (under c.args.wanted.now.texts.now bodies)) xs))) c.args.wanted.now.units.now) c.deref.ensures.value ∙ ap (λ (p : part.Clause). has_text (var_names (stmts_of p.items)) c.args.wanted.now.units.now) (sym (clause_of-fields (under c.args.wanted.now.texts.now bodies) c.clause-item.result)))) (c.loop-clause.invariant bodies) c.if-is_var.true

pub is_var_in_clauses-loop-clause-preserved : goal.is_var_in_clauses-loop-clause-preserved
is_var_in_clauses-loop-clause-preserved t c = λ bodies.
    turn_on (λ (ys : List Clause). clauses_var_names (clauses_of (map (clause_of (under c.args.wanted.now.texts.now bodies)) ys))) (λ (x : Clause). var_names (stmts_of (clause_of (under c.args.wanted.now.texts.now bodies) x).items)) c.args.wanted.now.units.now (λ (x : Clause) (xs : List Clause). has_either (var_names (stmts_of (clause_of (under c.args.wanted.now.texts.now bodies) x).items)) (clauses_var_names (clauses_of (map (clause_of (under c.args.wanted.now.texts.now bodies)) xs))) c.args.wanted.now.units.now) c.args.clauses.now c.loop-clause.clause-index c.clause-item.result c.is_var.result (omega arith) c.clause-item.is (c.is_var.ensures bodies ∙ (ap (λ (xs : List Stmt). has_text (var_names (stmts_of (map (stmt_of (under c.args.wanted.now.texts.now bodies)) xs))) c.args.wanted.now.units.now) c.deref.ensures.value ∙ ap (λ (p : part.Clause). has_text (var_names (stmts_of p.items)) c.args.wanted.now.units.now) (sym (clause_of-fields (under c.args.wanted.now.texts.now bodies) c.clause-item.result)))) (c.loop-clause.invariant bodies) c.if-is_var.false

pub is_var_in_clauses-returns : goal.is_var_in_clauses-returns
is_var_in_clauses-returns t c = λ bodies.
    turns_end (λ (ys : List Clause). clauses_var_names (clauses_of (map (clause_of (under c.args.wanted.now.texts.now bodies)) ys))) c.args.wanted.now.units.now refl c.args.clauses.now c.loop-clause.clause-index (omega arith) (c.loop-clause.invariant bodies)

pub is_var_in-returns-in-Block : goal.is_var_in-returns-in-Block
is_var_in-returns-in-Block t c = λ bodies.
    rw c.in-Block.is (rw (stmt_of-Block (under c.args.wanted.now.texts.now bodies) c.in-Block.items) (rw (sym c.deref.ensures.value) (c.is_var.ensures bodies)))

pub is_var_in-returns-in-Binds : goal.is_var_in-returns-in-Binds
is_var_in-returns-in-Binds t c = λ bodies.
    rw c.in-Binds.is (rw (stmt_of-Binds (under c.args.wanted.now.texts.now bodies) c.in-Binds.decl c.in-Binds.binds c.in-Binds.semi) (rw (sym c.deref-in-Binds.ensures.value) (c.is_var_bound.ensures bodies)))

pub is_var_in-returns-in-Do : goal.is_var_in-returns-in-Do
is_var_in-returns-in-Do t c = λ bodies.
    rw c.in-Do.is (rw (stmt_of-Do (under c.args.wanted.now.texts.now bodies) c.in-Do.semi c.in-Do.body c.in-Do.test) (rw (sym c.deref-in-Do.ensures) (c.is_var_in-in-Do.ensures bodies)))

pub is_var_in-returns-in-While : goal.is_var_in-returns-in-While
is_var_in-returns-in-While t c = λ bodies.
    rw c.in-While.is (rw (stmt_of-While (under c.args.wanted.now.texts.now bodies) c.in-While.test c.in-While.body) (rw (sym c.deref-in-While.ensures) (c.is_var_in-in-While.ensures bodies)))

pub is_var_in-returns-in-Switch : goal.is_var_in-returns-in-Switch
is_var_in-returns-in-Switch t c = λ bodies.
    rw c.in-Switch.is (rw (stmt_of-Switch (under c.args.wanted.now.texts.now bodies) c.in-Switch.boxed) (rw (sym c.deref-in-Switch.ensures) (rw (sym c.deref-in-Switch-2.ensures.value) (c.is_var_in_clauses.ensures bodies))))

pub is_var_in-returns-in-Label : goal.is_var_in-returns-in-Label
is_var_in-returns-in-Label t c = λ bodies.
    rw c.in-Label.is (rw (stmt_of-Label (under c.args.wanted.now.texts.now bodies) c.in-Label.name c.in-Label.body) (rw (sym c.deref-in-Label.ensures) (c.is_var_in-in-Label.ensures bodies)))

pub is_var_in-returns-then-is_var_in : goal.is_var_in-returns-then-is_var_in
is_var_in-returns-then-is_var_in t c = λ bodies.
    rw c.in-If.is (rw (stmt_of-If (under c.args.wanted.now.texts.now bodies) c.in-If.boxed) (rw (sym c.deref-statement.ensures) ((used_first _ _ c.args.wanted.now.units.now _ (c.is_var_in.ensures bodies) c.if-is_var_in.true))))

pub is_var_in-returns-else-is_var_in : goal.is_var_in-returns-else-is_var_in
is_var_in-returns-else-is_var_in t c = λ bodies.
    rw c.in-If.is (rw (stmt_of-If (under c.args.wanted.now.texts.now bodies) c.in-If.boxed) (rw (sym c.deref-statement.ensures) (((used_behind _ _ c.args.wanted.now.units.now _ _ (c.is_var_in.ensures bodies) c.if-is_var_in.false (c.is_var_in_else.ensures bodies))))))

pub is_var_in-returns-then-is_var_in_init : goal.is_var_in-returns-then-is_var_in_init
is_var_in-returns-then-is_var_in_init t c = λ bodies.
    rw c.in-For.is (rw (stmt_of-For (under c.args.wanted.now.texts.now bodies) c.in-For.boxed) (rw (sym c.deref-statement-in-For.ensures) ((used_first _ _ c.args.wanted.now.units.now _ (c.is_var_in_init.ensures bodies) c.if-is_var_in_init.true))))

pub is_var_in-returns-else-is_var_in_init : goal.is_var_in-returns-else-is_var_in_init
is_var_in-returns-else-is_var_in_init t c = λ bodies.
    rw c.in-For.is (rw (stmt_of-For (under c.args.wanted.now.texts.now bodies) c.in-For.boxed) (rw (sym c.deref-statement-in-For.ensures) (((used_behind _ _ c.args.wanted.now.units.now _ _ (c.is_var_in_init.ensures bodies) c.if-is_var_in_init.false (c.is_var_in-else-is_var_in_init.ensures bodies))))))

pub is_var_in-returns-then-is_var_in_each : goal.is_var_in-returns-then-is_var_in_each
is_var_in-returns-then-is_var_in_each t c = λ bodies.
    rw c.in-ForIn.is (rw (stmt_of-ForIn (under c.args.wanted.now.texts.now bodies) c.in-ForIn.boxed) (rw (sym c.deref-statement-in-ForIn.ensures) ((used_first _ _ c.args.wanted.now.units.now _ (c.is_var_in_each.ensures bodies) c.if-is_var_in_each.true))))

pub is_var_in-returns-else-is_var_in_each : goal.is_var_in-returns-else-is_var_in_each
is_var_in-returns-else-is_var_in_each t c = λ bodies.
    rw c.in-ForIn.is (rw (stmt_of-ForIn (under c.args.wanted.now.texts.now bodies) c.in-ForIn.boxed) (rw (sym c.deref-statement-in-ForIn.ensures) (((used_behind _ _ c.args.wanted.now.units.now _ _ (c.is_var_in_each.ensures bodies) c.if-is_var_in_each.false (c.is_var_in-else-is_var_in_each.ensures bodies))))))

pub is_var_in-returns-then-is_var : goal.is_var_in-returns-then-is_var
is_var_in-returns-then-is_var t c = λ bodies.
    rw c.in-Try.is (rw (stmt_of-Try (under c.args.wanted.now.texts.now bodies) c.in-Try.boxed) (rw (sym c.deref-statement-in-Try.ensures) (rw (sym c.deref-in-Try.ensures.value) (used_first _ _ c.args.wanted.now.units.now _ (c.is_var-in-Try.ensures bodies) c.if-is_var.true))))

pub is_var_in-returns-else-is_var : goal.is_var_in-returns-else-is_var
is_var_in-returns-else-is_var t c = λ bodies.
    rw c.in-Try.is (rw (stmt_of-Try (under c.args.wanted.now.texts.now bodies) c.in-Try.boxed) (rw (sym c.deref-statement-in-Try.ensures) (rw (sym c.deref-in-Try.ensures.value) (rw (sym c.deref-else-is_var.ensures.value) (used_behind _ _ c.args.wanted.now.units.now _ _ (c.is_var-in-Try.ensures bodies) c.if-is_var.false (c.is_var-else-is_var.ensures bodies))))))

pub is_var_in_else-returns-in-Some : goal.is_var_in_else-returns-in-Some
is_var_in_else-returns-in-Some t c = λ bodies.
    rw c.in-Some.is (rw (sym c.deref.ensures) (c.is_var_in.ensures bodies))
