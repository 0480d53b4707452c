use Rattle.std.proofs.Common.{◌≡◌, ◌++◌, ℕ, ◌+◌, List, [], drop, Option, Result, OnOk, Box, Global, map, option_map, refl, sym, ◌∙◌, ap}
use Rattle.std.proofs.lemmas.Result.{on_ok_weaker}
use Rattle.script_grammar.specs.declared.tree.Bind.{Bind}
use Rattle.script_grammar.specs.declared.tree.Clause.{Clause}
use Rattle.script_grammar.specs.declared.tree.ForInStatement.{ForInStatement, out-ForInStatement}
use Rattle.script_grammar.specs.declared.tree.ForStatement.{ForStatement}
use Rattle.script_grammar.specs.declared.tree.IfStatement.{IfStatement}
use Rattle.script_grammar.specs.declared.tree.Stmt.{Stmt}
use Rattle.script_grammar.specs.declared.tree.SwitchStatement.{SwitchStatement, out-SwitchStatement}
use Rattle.script_grammar.specs.declared.tree.TryStatement.{TryStatement, out-TryStatement}
use Rattle.script_grammar.specs.Interpretation.{Interpretation, text_of, maybe_named}
use Rattle.script_grammar.specs.Tree as model
use Rattle.script_grammar.specs.TreeLists as part
use Rattle.script_grammar.specs.TreeLists.{binds_of, stmts_of, maybe_stmt_of, maybe_expr_of, clauses_of}
use Rattle.script_grammar.specs.TreeOf.{bind_of, stmt_of, clause_of, init_of, each_of, expr_of, func_of}
use Rattle.script_grammar.proofs.PartEquations.{clause_of-fields}
use Rattle.script_grammar.proofs.StmtEquations.{stmt_of-Block, stmt_of-Empty, stmt_of-Debugger, stmt_of-Binds, stmt_of-Value, stmt_of-If, stmt_of-Do, stmt_of-While, stmt_of-For, stmt_of-ForIn, stmt_of-Continue, stmt_of-Break, stmt_of-Return, stmt_of-Throw, stmt_of-Switch, stmt_of-Label, stmt_of-Try, stmt_of-Func}
use Rattle.scope_analysis.specs.DeclaredNames.{Text, var_names, var_names_in, else_var_names, clauses_var_names, var_binds, init_var_names, each_var_names}
use Rattle.scope_analysis.proofs.Appending.{nothing_new, both_new, step_on, all_done}
use Rattle.scope_analysis.proofs.names.+var_names.Goals as goal

-- what was appended for a part is what the whole asks for
part_new : {T E : Type 0} (r : Result T E) (old new : List ℕ) (part whole : Interpretation → List Text) → ((i : Interpretation) → part i ≡ whole i)
    → OnOk r ((i : Interpretation) → map (text_of i) new ≡ map (text_of i) old ++ part i)
    → OnOk r ((i : Interpretation) → map (text_of i) new ≡ map (text_of i) old ++ whole i)
part_new r old new part whole same = on_ok_weaker r (λ appended i. appended i ∙ ap (λ (l : List Text). map (text_of i) old ++ l) (same i))

-- a statement that declares nothing
none_in : (i : Interpretation) (old : List ℕ) (s : Stmt) (m : model.Stmt) → stmt_of i s ≡ m → [] ≡ var_names_in m → map (text_of i) old ≡ map (text_of i) old ++ var_names_in (stmt_of i s)
none_in i old s m is none = nothing_new (map (text_of i) old) (var_names_in (stmt_of i s)) (none ∙ sym (ap var_names_in is))

-- two parts of a statement, one after the other
both_in : (i : Interpretation) (old between new : List ℕ) (s : Stmt) (m : model.Stmt) (one two : List Text) → m ≡ stmt_of i s → one ++ two ≡ var_names_in m
    → map (text_of i) between ≡ map (text_of i) old ++ one → map (text_of i) new ≡ map (text_of i) between ++ two
    → map (text_of i) new ≡ map (text_of i) old ++ var_names_in (stmt_of i s)
both_in i old between new s m one two is parts first second =
    both_new (map (text_of i) old) (map (text_of i) between) (map (text_of i) new) one two first second
    ∙ ap (λ (l : List Text). map (text_of i) old ++ l) (parts ∙ ap var_names_in is)

pub push_all_var_names-loop-item-preserved : goal.push_all_var_names-loop-item-preserved
push_all_var_names-loop-item-preserved t c = λ i.
    step_on (λ items. var_names (stmts_of (map (stmt_of i) items))) c.args.items.now c.loop-item.item-index c.item-item.result
    (map (text_of i) c.loop-item.atoms.items) (map (text_of i) c.push_var_names.new.atoms.items) (var_names_in (stmt_of i c.item-item.result))
    (map (text_of i) c.args.atoms.now.items ++ var_names (stmts_of (map (stmt_of i) c.args.items.now)))
    c.loop-item-test.true c.item-item.is refl (c.in_ok-push_var_names.ensures i) (c.loop-item.invariant i)

pub push_all_var_names-returns : goal.push_all_var_names-returns
push_all_var_names-returns t c = λ i.
    all_done (λ items. var_names (stmts_of (map (stmt_of i) items))) c.args.items.now c.loop-item.item-index (map (text_of i) c.loop-item.atoms.items)
    (map (text_of i) c.args.atoms.now.items ++ var_names (stmts_of (map (stmt_of i) c.args.items.now)))
    c.loop-item-test.false refl (c.loop-item.invariant i)

pub push_clauses_var_names-loop-clause-preserved : goal.push_clauses_var_names-loop-clause-preserved
push_clauses_var_names-loop-clause-preserved t c = λ i.
    step_on (λ clauses. clauses_var_names (clauses_of (map (clause_of i) clauses))) c.args.clauses.now c.loop-clause.clause-index c.clause-item.result
    (map (text_of i) c.loop-clause.atoms.items) (map (text_of i) c.push_all_var_names.new.atoms.items)
    (var_names (stmts_of (map (stmt_of i) c.clause-item.result.items.items)))
    (map (text_of i) c.args.atoms.now.items ++ clauses_var_names (clauses_of (map (clause_of i) c.args.clauses.now)))
    c.loop-clause-test.true c.clause-item.is
    (ap (λ (p : part.Clause). var_names (stmts_of p.items) ++ clauses_var_names (clauses_of (map (clause_of i) (drop (c.loop-clause.clause-index + 1) c.args.clauses.now))))
    (clause_of-fields i c.clause-item.result))
    (c.in_ok-push_all_var_names.ensures i
    ∙ ap (λ (items : List Stmt). map (text_of i) c.loop-clause.atoms.items ++ var_names (stmts_of (map (stmt_of i) items))) c.deref.ensures.value)
    (c.loop-clause.invariant i)

pub push_clauses_var_names-returns : goal.push_clauses_var_names-returns
push_clauses_var_names-returns t c = λ i.
    all_done (λ clauses. clauses_var_names (clauses_of (map (clause_of i) clauses))) c.args.clauses.now c.loop-clause.clause-index
    (map (text_of i) c.loop-clause.atoms.items)
    (map (text_of i) c.args.atoms.now.items ++ clauses_var_names (clauses_of (map (clause_of i) c.args.clauses.now)))
    c.loop-clause-test.false refl (c.loop-clause.invariant i)

pub push_else_var_names-returns-in-None : goal.push_else_var_names-returns-in-None
push_else_var_names-returns-in-None t c = λ i.
    nothing_new (map (text_of i) c.args.atoms.now.items) (else_var_names (maybe_stmt_of (option_map (λ boxed. stmt_of i boxed.value) c.args.no.now)))
    (sym (ap (λ (o : Option (Box Stmt Global)). else_var_names (maybe_stmt_of (option_map (λ boxed. stmt_of i boxed.value) o))) c.in-None.is))

pub push_else_var_names-returns-in-Some : goal.push_else_var_names-returns-in-Some
push_else_var_names-returns-in-Some t c =
    part_new c.push_var_names.result c.args.atoms.now.items c.push_var_names.new.atoms.items (λ i. var_names_in (stmt_of i c.deref.result.now))
    (λ i. else_var_names (maybe_stmt_of (option_map (λ boxed. stmt_of i boxed.value) c.args.no.now)))
    (λ i. ap (λ (s : Stmt). var_names_in (stmt_of i s)) c.deref.ensures
    ∙ sym (ap (λ (o : Option (Box Stmt Global)). else_var_names (maybe_stmt_of (option_map (λ boxed. stmt_of i boxed.value) o))) c.in-Some.is))
    c.push_var_names.ensures

pub push_var_names-returns-in-Block : goal.push_var_names-returns-in-Block
push_var_names-returns-in-Block t c =
    part_new c.push_all_var_names.result c.args.atoms.now.items c.push_all_var_names.new.atoms.items (λ i. var_names (stmts_of (map (stmt_of i) c.deref.result.now)))
    (λ i. var_names_in (stmt_of i c.args.stmt.now))
    (λ i. ap (λ (items : List Stmt). var_names (stmts_of (map (stmt_of i) items))) c.deref.ensures.value
    ∙ sym (ap var_names_in (ap (stmt_of i) c.in-Block.is ∙ stmt_of-Block i c.in-Block.items)))
    c.push_all_var_names.ensures

pub push_var_names-returns-in-Empty : goal.push_var_names-returns-in-Empty
push_var_names-returns-in-Empty t c = λ i. none_in i c.args.atoms.now.items c.args.stmt.now model.Empty (ap (stmt_of i) c.in-Empty.is ∙ stmt_of-Empty i) refl

pub push_var_names-returns-in-Debugger : goal.push_var_names-returns-in-Debugger
push_var_names-returns-in-Debugger t c = λ i. none_in i c.args.atoms.now.items c.args.stmt.now (model.Debugger c.in-Debugger.semi) (ap (stmt_of i) c.in-Debugger.is ∙ stmt_of-Debugger i c.in-Debugger.semi) refl

pub push_var_names-returns-in-Binds : goal.push_var_names-returns-in-Binds
push_var_names-returns-in-Binds t c =
    part_new c.push_var_binds.result c.args.atoms.now.items c.push_var_binds.new.atoms.items (λ i. var_binds c.in-Binds.decl (binds_of (map (bind_of i) c.deref-in-Binds.result.now)))
    (λ i. var_names_in (stmt_of i c.args.stmt.now))
    (λ i. ap (λ (binds : List Bind). var_binds c.in-Binds.decl (binds_of (map (bind_of i) binds))) c.deref-in-Binds.ensures.value
    ∙ sym (ap var_names_in (ap (stmt_of i) c.in-Binds.is ∙ stmt_of-Binds i c.in-Binds.decl c.in-Binds.binds c.in-Binds.semi)))
    c.push_var_binds.ensures

pub push_var_names-returns-in-Value : goal.push_var_names-returns-in-Value
push_var_names-returns-in-Value t c = λ i. none_in i c.args.atoms.now.items c.args.stmt.now (model.Value (expr_of i c.in-Value.value) c.in-Value.semi) (ap (stmt_of i) c.in-Value.is ∙ stmt_of-Value i c.in-Value.value c.in-Value.semi) refl

pub push_var_names-returns-in_ok-push_else_var_names-in-If : goal.push_var_names-returns-in_ok-push_else_var_names-in-If
push_var_names-returns-in_ok-push_else_var_names-in-If t c = λ i.
    both_in i c.args.atoms.now.items c.push_var_names.new.atoms.items c.push_else_var_names.new.atoms.items c.args.stmt.now
    (model.If (expr_of i c.deref-statement.result.now.test) (stmt_of i c.deref-statement.result.now.yes) (maybe_stmt_of (option_map (λ boxed. stmt_of i boxed.value) c.deref-statement.result.now.no)))
    (var_names_in (stmt_of i c.deref-statement.result.now.yes)) (else_var_names (maybe_stmt_of (option_map (λ boxed. stmt_of i boxed.value) c.deref-statement.result.now.no)))
    (ap (λ (z : IfStatement). model.If (expr_of i z.test) (stmt_of i z.yes) (maybe_stmt_of (option_map (λ boxed. stmt_of i boxed.value) z.no))) c.deref-statement.ensures
    ∙ sym (ap (stmt_of i) c.in-If.is ∙ stmt_of-If i c.in-If.boxed))
    refl (c.in_ok-push_var_names-in-If.ensures i) (c.in_ok-push_else_var_names-in-If.ensures i)

pub push_var_names-returns-in-Do : goal.push_var_names-returns-in-Do
push_var_names-returns-in-Do t c =
    part_new c.push_var_names-in-Do.result c.args.atoms.now.items c.push_var_names-in-Do.new.atoms.items (λ i. var_names_in (stmt_of i c.deref-in-Do.result.now))
    (λ i. var_names_in (stmt_of i c.args.stmt.now))
    (λ i. ap (λ (s : Stmt). var_names_in (stmt_of i s)) c.deref-in-Do.ensures
    ∙ sym (ap var_names_in (ap (stmt_of i) c.in-Do.is ∙ stmt_of-Do i c.in-Do.semi c.in-Do.body c.in-Do.test)))
    c.push_var_names-in-Do.ensures

pub push_var_names-returns-in-While : goal.push_var_names-returns-in-While
push_var_names-returns-in-While t c =
    part_new c.push_var_names-in-While.result c.args.atoms.now.items c.push_var_names-in-While.new.atoms.items (λ i. var_names_in (stmt_of i c.deref-in-While.result.now))
    (λ i. var_names_in (stmt_of i c.args.stmt.now))
    (λ i. ap (λ (s : Stmt). var_names_in (stmt_of i s)) c.deref-in-While.ensures
    ∙ sym (ap var_names_in (ap (stmt_of i) c.in-While.is ∙ stmt_of-While i c.in-While.test c.in-While.body)))
    c.push_var_names-in-While.ensures

pub push_var_names-returns-in_ok-push_var_names-in-For : goal.push_var_names-returns-in_ok-push_var_names-in-For
push_var_names-returns-in_ok-push_var_names-in-For t c = λ i.
    both_in i c.args.atoms.now.items c.push_init_vars.new.atoms.items c.push_var_names-in-For.new.atoms.items c.args.stmt.now
    (model.For (init_of i c.deref-statement-in-For.result.now.init) (maybe_expr_of (option_map (expr_of i) c.deref-statement-in-For.result.now.test)) (maybe_expr_of (option_map (expr_of i) c.deref-statement-in-For.result.now.update)) (stmt_of i c.deref-statement-in-For.result.now.body))
    (init_var_names (init_of i c.deref-statement-in-For.result.now.init)) (var_names_in (stmt_of i c.deref-statement-in-For.result.now.body))
    (ap (λ (z : ForStatement). model.For (init_of i z.init) (maybe_expr_of (option_map (expr_of i) z.test)) (maybe_expr_of (option_map (expr_of i) z.update)) (stmt_of i z.body)) c.deref-statement-in-For.ensures
    ∙ sym (ap (stmt_of i) c.in-For.is ∙ stmt_of-For i c.in-For.boxed))
    refl (c.in_ok-push_init_vars-in-For.ensures i) (c.in_ok-push_var_names-in-For.ensures i)

pub push_var_names-returns-in_ok-push_var_names-in-ForIn : goal.push_var_names-returns-in_ok-push_var_names-in-ForIn
push_var_names-returns-in_ok-push_var_names-in-ForIn t c = λ i.
    both_in i c.args.atoms.now.items c.push_each_var.new.atoms.items c.push_var_names-in-ForIn.new.atoms.items c.args.stmt.now
    (model.ForIn (each_of i (out-ForInStatement c.deref-statement-in-ForIn.result.now).each) (expr_of i (out-ForInStatement c.deref-statement-in-ForIn.result.now).over) (stmt_of i (out-ForInStatement c.deref-statement-in-ForIn.result.now).body))
    (each_var_names (each_of i (out-ForInStatement c.deref-statement-in-ForIn.result.now).each)) (var_names_in (stmt_of i (out-ForInStatement c.deref-statement-in-ForIn.result.now).body))
    (ap (λ (z : ForInStatement). model.ForIn (each_of i (out-ForInStatement z).each) (expr_of i (out-ForInStatement z).over) (stmt_of i (out-ForInStatement z).body)) c.deref-statement-in-ForIn.ensures
    ∙ sym (ap (stmt_of i) c.in-ForIn.is ∙ stmt_of-ForIn i c.in-ForIn.boxed))
    refl (c.in_ok-push_each_var-in-ForIn.ensures i) (c.in_ok-push_var_names-in-ForIn.ensures i)

pub push_var_names-returns-in-Continue : goal.push_var_names-returns-in-Continue
push_var_names-returns-in-Continue t c = λ i. none_in i c.args.atoms.now.items c.args.stmt.now (model.Continue c.in-Continue.at (maybe_named i c.in-Continue.label) c.in-Continue.semi) (ap (stmt_of i) c.in-Continue.is ∙ stmt_of-Continue i c.in-Continue.at c.in-Continue.label c.in-Continue.semi) refl

pub push_var_names-returns-in-Break : goal.push_var_names-returns-in-Break
push_var_names-returns-in-Break t c = λ i. none_in i c.args.atoms.now.items c.args.stmt.now (model.Break c.in-Break.at (maybe_named i c.in-Break.label) c.in-Break.semi) (ap (stmt_of i) c.in-Break.is ∙ stmt_of-Break i c.in-Break.at c.in-Break.label c.in-Break.semi) refl

pub push_var_names-returns-in-Return : goal.push_var_names-returns-in-Return
push_var_names-returns-in-Return t c = λ i. none_in i c.args.atoms.now.items c.args.stmt.now (model.Return (maybe_expr_of (option_map (expr_of i) c.in-Return.value)) c.in-Return.semi) (ap (stmt_of i) c.in-Return.is ∙ stmt_of-Return i c.in-Return.semi c.in-Return.value) refl

pub push_var_names-returns-in-Throw : goal.push_var_names-returns-in-Throw
push_var_names-returns-in-Throw t c = λ i. none_in i c.args.atoms.now.items c.args.stmt.now (model.Throw (expr_of i c.in-Throw.value) c.in-Throw.semi) (ap (stmt_of i) c.in-Throw.is ∙ stmt_of-Throw i c.in-Throw.value c.in-Throw.semi) refl

pub push_var_names-returns-in-Switch : goal.push_var_names-returns-in-Switch
push_var_names-returns-in-Switch t c =
    part_new c.push_clauses_var_names.result c.args.atoms.now.items c.push_clauses_var_names.new.atoms.items
    (λ i. clauses_var_names (clauses_of (map (clause_of i) c.deref-in-Switch-2.result.now))) (λ i. var_names_in (stmt_of i c.args.stmt.now))
    (λ i. ap (λ (clauses : List Clause). clauses_var_names (clauses_of (map (clause_of i) clauses))) c.deref-in-Switch-2.ensures.value
    ∙ (ap (λ (z : SwitchStatement). clauses_var_names (clauses_of (map (clause_of i) (out-SwitchStatement z).clauses.items))) c.deref-in-Switch.ensures
    ∙ sym (ap var_names_in (ap (stmt_of i) c.in-Switch.is ∙ stmt_of-Switch i c.in-Switch.boxed))))
    c.push_clauses_var_names.ensures

pub push_var_names-returns-in-Label : goal.push_var_names-returns-in-Label
push_var_names-returns-in-Label t c =
    part_new c.push_var_names-in-Label.result c.args.atoms.now.items c.push_var_names-in-Label.new.atoms.items (λ i. var_names_in (stmt_of i c.deref-in-Label.result.now))
    (λ i. var_names_in (stmt_of i c.args.stmt.now))
    (λ i. ap (λ (s : Stmt). var_names_in (stmt_of i s)) c.deref-in-Label.ensures
    ∙ sym (ap var_names_in (ap (stmt_of i) c.in-Label.is ∙ stmt_of-Label i c.in-Label.name c.in-Label.body)))
    c.push_var_names-in-Label.ensures

pub push_var_names-returns-in_ok-push_all_var_names-in-Try-2 : goal.push_var_names-returns-in_ok-push_all_var_names-in-Try-2
push_var_names-returns-in_ok-push_all_var_names-in-Try-2 t c = λ i.
    both_in i c.args.atoms.now.items c.push_all_var_names-in-Try.new.atoms.items c.push_all_var_names-in-Try-2.new.atoms.items c.args.stmt.now
    (model.Try (stmts_of (map (stmt_of i) (out-TryStatement c.deref-statement-in-Try.result.now).body.items))
    (maybe_named i (out-TryStatement c.deref-statement-in-Try.result.now).param)
    (stmts_of (map (stmt_of i) (out-TryStatement c.deref-statement-in-Try.result.now).handler.items)))
    (var_names (stmts_of (map (stmt_of i) (out-TryStatement c.deref-statement-in-Try.result.now).body.items)))
    (var_names (stmts_of (map (stmt_of i) (out-TryStatement c.deref-statement-in-Try.result.now).handler.items)))
    (ap (λ (z : TryStatement). model.Try (stmts_of (map (stmt_of i) (out-TryStatement z).body.items)) (maybe_named i (out-TryStatement z).param)
    (stmts_of (map (stmt_of i) (out-TryStatement z).handler.items))) c.deref-statement-in-Try.ensures
    ∙ sym (ap (stmt_of i) c.in-Try.is ∙ stmt_of-Try i c.in-Try.boxed))
    refl
    (c.in_ok-push_all_var_names-in-Try.ensures i
    ∙ ap (λ (items : List Stmt). map (text_of i) c.args.atoms.now.items ++ var_names (stmts_of (map (stmt_of i) items))) c.deref-in-Try.ensures.value)
    (c.in_ok-push_all_var_names-in-Try-2.ensures i
    ∙ ap (λ (items : List Stmt). map (text_of i) c.push_all_var_names-in-Try.new.atoms.items ++ var_names (stmts_of (map (stmt_of i) items)))
    c.deref-in-Try-2.ensures.value)

pub push_var_names-returns-in-Func : goal.push_var_names-returns-in-Func
push_var_names-returns-in-Func t c = λ i. none_in i c.args.atoms.now.items c.args.stmt.now (model.Declared (func_of i c.in-Func.field-0.value)) (ap (stmt_of i) c.in-Func.is ∙ stmt_of-Func i c.in-Func.field-0) refl
