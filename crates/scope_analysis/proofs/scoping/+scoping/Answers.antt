use Rattle.std.proofs.Common.{◌+◌, List, Option, map, drop, option_map, ap, sym, ◌∙◌, subst, arith}
use Rattle.std.proofs.lemmas.List.{drop_all}
use Rattle.std.specs.declared.alloc.Global.{Global}
use Rattle.std.specs.declared.boxed.Box.{Box}
use Rattle.script_grammar.specs.declared.tree.Stmt.{Stmt}
use Rattle.script_grammar.specs.declared.tree.Clause.{Clause}
use Rattle.script_grammar.specs.declared.tree.ForInStatement.{ForInStatement, out-ForInStatement}
use Rattle.script_grammar.specs.declared.tree.ForStatement.{ForStatement}
use Rattle.script_grammar.specs.declared.tree.IfStatement.{IfStatement}
use Rattle.script_grammar.specs.declared.tree.SwitchStatement.{SwitchStatement, out-SwitchStatement}
use Rattle.script_grammar.specs.declared.tree.TryStatement.{TryStatement, out-TryStatement}
use Rattle.script_grammar.specs.Interpretation.{Interpretation, named, maybe_named}
use Rattle.script_grammar.specs.Tree.{Stmts}
use Rattle.script_grammar.specs.Tree as model
use Rattle.script_grammar.specs.TreeLists.{stmts_of, maybe_stmt_of, maybe_expr_of, clauses_of}
use Rattle.script_grammar.specs.TreeOf.{stmt_of, expr_of, clause_of, init_of, each_of}
use Rattle.script_grammar.proofs.StmtEquations.{stmt_of-Block, stmt_of-If, stmt_of-Do, stmt_of-While, stmt_of-For, stmt_of-ForIn, stmt_of-Switch, stmt_of-Label, stmt_of-Try, stmt_of-Empty, stmt_of-Debugger, stmt_of-Binds, stmt_of-Value, stmt_of-Continue, stmt_of-Break, stmt_of-Return, stmt_of-Throw, stmt_of-Func}
use Rattle.scope_analysis.specs.Kept.{under}
use Rattle.stencil_data.specs.declared.scopes.ScopeKind.TheVariants as scope_kind
use Rattle.scope_analysis.specs.DeclaredNames.{lexical_names, init_lexical_names, each_lexical_names}
use Rattle.scope_analysis.specs.Scopes.{scope_count, scope_around, catch_names, for_inner, for_in_inner, block_inner, catch_inner, count_stmt, count_stmts, count_else, scopes_stmt, scopes_stmts, scopes_else}
use Rattle.scope_analysis.specs.Walked.{Scoped}
use Rattle.scope_analysis.proofs.Adding.{scoped_at, scoped_none, scoped_both, scoped_inside, stmts_turn, clauses_turn, stmts_end, clauses_end}
use Rattle.scope_analysis.proofs.scoping.+scoping.Goals as goal

pub add_stmts-loop-item-preserved : goal.add_stmts-loop-item-preserved
add_stmts-loop-item-preserved t c = λ bodies final last rest.
    c.loop-item.invariant bodies final last
    (stmts_turn c.args.known.now.texts.now c.args.known.now.closed.now c.args.around c.loop-item.made.scopes.items c.add_stmt.new.made.scopes.items final c.loop-item.made.closed c.add_stmt.new.made.closed last
    (under c.args.known.now.texts.now bodies) c.args.items.now c.loop-item.item-index c.item-item.result (omega arith) c.item-item.is (c.in_ok-add_stmt.ensures bodies) rest)

pub add_clauses-loop-clause-preserved : goal.add_clauses-loop-clause-preserved
add_clauses-loop-clause-preserved t c = λ bodies final last rest.
    c.loop-clause.invariant bodies final last
    (clauses_turn c.args.known.now.texts.now c.args.known.now.closed.now c.args.around c.loop-clause.made.scopes.items c.add_stmts.new.made.scopes.items final c.loop-clause.made.closed c.add_stmts.new.made.closed last
    (under c.args.known.now.texts.now bodies) c.args.clauses.now c.loop-clause.clause-index c.clause-item.result c.deref.result.now (omega arith) c.clause-item.is c.deref.ensures.value (c.in_ok-add_stmts.ensures bodies) rest)

pub add_stmts-returns : goal.add_stmts-returns
add_stmts-returns t c = λ bodies.
    c.loop-item.invariant bodies c.loop-item.made.scopes.items c.loop-item.made.closed
    (stmts_end c.args.known.now.texts.now c.args.known.now.closed.now c.args.around c.loop-item.made.scopes.items c.loop-item.made.closed (under c.args.known.now.texts.now bodies)
    (drop c.loop-item.item-index c.args.items.now) (drop_all c.loop-item.item-index c.args.items.now (omega arith)))

pub add_clauses-returns : goal.add_clauses-returns
add_clauses-returns t c = λ bodies.
    c.loop-clause.invariant bodies c.loop-clause.made.scopes.items c.loop-clause.made.closed
    (clauses_end c.args.known.now.texts.now c.args.known.now.closed.now c.args.around c.loop-clause.made.scopes.items c.loop-clause.made.closed (under c.args.known.now.texts.now bodies)
    (drop c.loop-clause.clause-index c.args.clauses.now) (drop_all c.loop-clause.clause-index c.args.clauses.now (omega arith)))

pub add_block-returns : goal.add_block-returns
add_block-returns t c = λ bodies.
    scoped_inside c.args.known.now.texts.now c.args.known.now.closed.now c.args.around c.in_ok-inside.inside c.args.made.now.scopes.items c.open_block.new.made.scopes.items c.add_stmts.new.made.scopes.items c.args.made.now.closed c.open_block.new.made.closed c.add_stmts.new.made.closed
    _ _ _ _ _ (c.in_ok-inside.ensures bodies) (c.in_ok-add_stmts.ensures bodies)

pub add_switch-returns : goal.add_switch-returns
add_switch-returns t c = λ bodies.
    scoped_inside c.args.known.now.texts.now c.args.known.now.closed.now c.args.around c.in_ok-inside.inside c.args.made.now.scopes.items c.open_switch.new.made.scopes.items c.add_clauses.new.made.scopes.items c.args.made.now.closed c.open_switch.new.made.closed c.add_clauses.new.made.closed
    _ _ _ _ _ (c.in_ok-inside.ensures bodies) (c.in_ok-add_clauses.ensures bodies)

pub add_else-returns-in_ok-add_stmt-in-Some : goal.add_else-returns-in_ok-add_stmt-in-Some
add_else-returns-in_ok-add_stmt-in-Some t c = λ bodies.
    let i : Interpretation = under c.args.known.now.texts.now bodies in
    subst (λ (o : Option (Box Stmt Global)). Scoped c.args.known.now.texts.now c.args.known.now.closed.now c.args.around c.args.made.now.scopes.items c.args.made.now.closed c.add_stmt.new.made.scopes.items c.add_stmt.new.made.closed (count_else (maybe_stmt_of (option_map (λ (boxed : Box Stmt Global). stmt_of i boxed.value) o))) (scopes_else (maybe_stmt_of (option_map (λ (boxed : Box Stmt Global). stmt_of i boxed.value) o)))) (sym c.in-Some.is)
    (subst (λ (s : Stmt). Scoped c.args.known.now.texts.now c.args.known.now.closed.now c.args.around c.args.made.now.scopes.items c.args.made.now.closed c.add_stmt.new.made.scopes.items c.add_stmt.new.made.closed (count_stmt (stmt_of i s)) (scopes_stmt (stmt_of i s))) c.deref.ensures (c.in_ok-add_stmt-in-Some.ensures bodies))

pub add_stmt-returns-in_ok-add_block-in-Block : goal.add_stmt-returns-in_ok-add_block-in-Block
add_stmt-returns-in_ok-add_block-in-Block t c = λ bodies.
    let i : Interpretation = under c.args.known.now.texts.now bodies in
    scoped_at c.args.known.now.texts.now c.args.known.now.closed.now c.args.around c.args.made.now.scopes.items c.add_block.new.made.scopes.items c.args.made.now.closed c.add_block.new.made.closed
    (model.Block (stmts_of (map (stmt_of i) c.deref.result.now))) (stmt_of i c.args.stmt.now)
    (ap (λ (xs : List Stmt). model.Block (stmts_of (map (stmt_of i) xs))) c.deref.ensures.value ∙ sym (ap (stmt_of i) c.in-Block.is ∙ stmt_of-Block i c.in-Block.items))
    (c.in_ok-add_block-in-Block.ensures bodies)

pub add_stmt-returns-in_ok-add_else-in-If : goal.add_stmt-returns-in_ok-add_else-in-If
add_stmt-returns-in_ok-add_else-in-If t c = λ bodies.
    let i : Interpretation = under c.args.known.now.texts.now bodies in
    scoped_at c.args.known.now.texts.now c.args.known.now.closed.now c.args.around c.args.made.now.scopes.items c.add_else.new.made.scopes.items c.args.made.now.closed c.add_else.new.made.closed
    (model.If (expr_of i c.deref-statement.result.now.test) (stmt_of i c.deref-statement.result.now.yes) (maybe_stmt_of (option_map (λ (boxed : Box Stmt Global). stmt_of i boxed.value) c.deref-statement.result.now.no))) (stmt_of i c.args.stmt.now)
    (ap (λ (z : IfStatement). model.If (expr_of i z.test) (stmt_of i z.yes) (maybe_stmt_of (option_map (λ boxed. stmt_of i boxed.value) z.no))) c.deref-statement.ensures ∙ sym (ap (stmt_of i) c.in-If.is ∙ stmt_of-If i c.in-If.boxed))
    (scoped_both c.args.known.now.texts.now c.args.known.now.closed.now c.args.around c.args.made.now.scopes.items c.add_stmt.new.made.scopes.items c.add_else.new.made.scopes.items c.args.made.now.closed c.add_stmt.new.made.closed c.add_else.new.made.closed (count_stmt (stmt_of i c.deref-statement.result.now.yes)) (count_else (maybe_stmt_of (option_map (λ (boxed : Box Stmt Global). stmt_of i boxed.value) c.deref-statement.result.now.no))) (scopes_stmt (stmt_of i c.deref-statement.result.now.yes)) (scopes_else (maybe_stmt_of (option_map (λ (boxed : Box Stmt Global). stmt_of i boxed.value) c.deref-statement.result.now.no))) (c.in_ok-add_stmt-in-If.ensures bodies) (c.in_ok-add_else-in-If.ensures bodies))

pub add_stmt-returns-in_ok-add_stmt-in-Do : goal.add_stmt-returns-in_ok-add_stmt-in-Do
add_stmt-returns-in_ok-add_stmt-in-Do t c = λ bodies.
    let i : Interpretation = under c.args.known.now.texts.now bodies in
    scoped_at c.args.known.now.texts.now c.args.known.now.closed.now c.args.around c.args.made.now.scopes.items c.add_stmt-in-Do.new.made.scopes.items c.args.made.now.closed c.add_stmt-in-Do.new.made.closed
    (model.Do (stmt_of i c.deref-in-Do.result.now) (expr_of i c.in-Do.test) c.in-Do.semi) (stmt_of i c.args.stmt.now)
    (ap (λ (s : Stmt). model.Do (stmt_of i s) (expr_of i c.in-Do.test) c.in-Do.semi) c.deref-in-Do.ensures ∙ sym (ap (stmt_of i) c.in-Do.is ∙ stmt_of-Do i c.in-Do.semi c.in-Do.body c.in-Do.test))
    (c.in_ok-add_stmt-in-Do.ensures bodies)

pub add_stmt-returns-in_ok-add_stmt-in-While : goal.add_stmt-returns-in_ok-add_stmt-in-While
add_stmt-returns-in_ok-add_stmt-in-While t c = λ bodies.
    let i : Interpretation = under c.args.known.now.texts.now bodies in
    scoped_at c.args.known.now.texts.now c.args.known.now.closed.now c.args.around c.args.made.now.scopes.items c.add_stmt-in-While.new.made.scopes.items c.args.made.now.closed c.add_stmt-in-While.new.made.closed
    (model.While (expr_of i c.in-While.test) (stmt_of i c.deref-in-While.result.now)) (stmt_of i c.args.stmt.now)
    (ap (λ (s : Stmt). model.While (expr_of i c.in-While.test) (stmt_of i s)) c.deref-in-While.ensures ∙ sym (ap (stmt_of i) c.in-While.is ∙ stmt_of-While i c.in-While.test c.in-While.body))
    (c.in_ok-add_stmt-in-While.ensures bodies)

pub add_stmt-returns-in_ok-add_stmt-in-For : goal.add_stmt-returns-in_ok-add_stmt-in-For
add_stmt-returns-in_ok-add_stmt-in-For t c = λ bodies.
    let i : Interpretation = under c.args.known.now.texts.now bodies in
    scoped_at c.args.known.now.texts.now c.args.known.now.closed.now c.args.around c.args.made.now.scopes.items c.add_stmt-in-For.new.made.scopes.items c.args.made.now.closed c.add_stmt-in-For.new.made.closed
    (model.For (init_of i c.deref-statement-in-For.result.now.init) (maybe_expr_of (option_map (expr_of i) c.deref-statement-in-For.result.now.test)) (maybe_expr_of (option_map (expr_of i) c.deref-statement-in-For.result.now.update)) (stmt_of i c.deref-statement-in-For.result.now.body)) (stmt_of i c.args.stmt.now)
    (ap (λ (z : ForStatement). model.For (init_of i z.init) (maybe_expr_of (option_map (expr_of i) z.test)) (maybe_expr_of (option_map (expr_of i) z.update)) (stmt_of i z.body)) c.deref-statement-in-For.ensures ∙ sym (ap (stmt_of i) c.in-For.is ∙ stmt_of-For i c.in-For.boxed))
    (scoped_inside c.args.known.now.texts.now c.args.known.now.closed.now c.args.around c.in_ok-inside-in-For.inside c.args.made.now.scopes.items c.open_init.new.made.scopes.items c.add_stmt-in-For.new.made.scopes.items c.args.made.now.closed c.open_init.new.made.closed c.add_stmt-in-For.new.made.closed (count_stmt (stmt_of i c.deref-statement-in-For.result.now.body)) scope_kind.Lexical (init_lexical_names (init_of i c.deref-statement-in-For.result.now.init)) (for_inner (init_of i c.deref-statement-in-For.result.now.init) (maybe_expr_of (option_map (expr_of i) c.deref-statement-in-For.result.now.test)) (maybe_expr_of (option_map (expr_of i) c.deref-statement-in-For.result.now.update)) (stmt_of i c.deref-statement-in-For.result.now.body)) (scopes_stmt (stmt_of i c.deref-statement-in-For.result.now.body)) (c.in_ok-inside-in-For.ensures bodies) (c.in_ok-add_stmt-in-For.ensures bodies))

pub add_stmt-returns-in_ok-add_stmt-in-ForIn : goal.add_stmt-returns-in_ok-add_stmt-in-ForIn
add_stmt-returns-in_ok-add_stmt-in-ForIn t c = λ bodies.
    let i : Interpretation = under c.args.known.now.texts.now bodies in
    scoped_at c.args.known.now.texts.now c.args.known.now.closed.now c.args.around c.args.made.now.scopes.items c.add_stmt-in-ForIn.new.made.scopes.items c.args.made.now.closed c.add_stmt-in-ForIn.new.made.closed
    (model.ForIn (each_of i (out-ForInStatement c.deref-statement-in-ForIn.result.now).each) (expr_of i (out-ForInStatement c.deref-statement-in-ForIn.result.now).over) (stmt_of i (out-ForInStatement c.deref-statement-in-ForIn.result.now).body)) (stmt_of i c.args.stmt.now)
    (ap (λ (z : ForInStatement). model.ForIn (each_of i (out-ForInStatement z).each) (expr_of i (out-ForInStatement z).over) (stmt_of i (out-ForInStatement z).body)) c.deref-statement-in-ForIn.ensures ∙ sym (ap (stmt_of i) c.in-ForIn.is ∙ stmt_of-ForIn i c.in-ForIn.boxed))
    (scoped_inside c.args.known.now.texts.now c.args.known.now.closed.now c.args.around c.in_ok-inside-in-ForIn.inside c.args.made.now.scopes.items c.open_each.new.made.scopes.items c.add_stmt-in-ForIn.new.made.scopes.items c.args.made.now.closed c.open_each.new.made.closed c.add_stmt-in-ForIn.new.made.closed (count_stmt (stmt_of i (out-ForInStatement c.deref-statement-in-ForIn.result.now).body)) scope_kind.Lexical (each_lexical_names (each_of i (out-ForInStatement c.deref-statement-in-ForIn.result.now).each)) (for_in_inner (each_of i (out-ForInStatement c.deref-statement-in-ForIn.result.now).each) (expr_of i (out-ForInStatement c.deref-statement-in-ForIn.result.now).over) (stmt_of i (out-ForInStatement c.deref-statement-in-ForIn.result.now).body)) (scopes_stmt (stmt_of i (out-ForInStatement c.deref-statement-in-ForIn.result.now).body)) (c.in_ok-inside-in-ForIn.ensures bodies) (c.in_ok-add_stmt-in-ForIn.ensures bodies))

pub add_stmt-returns-in_ok-add_switch-in-Switch : goal.add_stmt-returns-in_ok-add_switch-in-Switch
add_stmt-returns-in_ok-add_switch-in-Switch t c = λ bodies.
    let i : Interpretation = under c.args.known.now.texts.now bodies in
    scoped_at c.args.known.now.texts.now c.args.known.now.closed.now c.args.around c.args.made.now.scopes.items c.add_switch.new.made.scopes.items c.args.made.now.closed c.add_switch.new.made.closed
    (model.Switch (expr_of i (out-SwitchStatement c.deref-in-Switch.result.now).of) (clauses_of (map (clause_of i) c.deref-in-Switch-2.result.now))) (stmt_of i c.args.stmt.now)
    (ap (λ (xs : List Clause). model.Switch (expr_of i (out-SwitchStatement c.deref-in-Switch.result.now).of) (clauses_of (map (clause_of i) xs))) c.deref-in-Switch-2.ensures.value ∙ (ap (λ (z : SwitchStatement). model.Switch (expr_of i (out-SwitchStatement z).of) (clauses_of (map (clause_of i) (out-SwitchStatement z).clauses.items))) c.deref-in-Switch.ensures ∙ sym (ap (stmt_of i) c.in-Switch.is ∙ stmt_of-Switch i c.in-Switch.boxed)))
    (c.in_ok-add_switch-in-Switch.ensures bodies)

pub add_stmt-returns-in_ok-add_stmt-in-Label : goal.add_stmt-returns-in_ok-add_stmt-in-Label
add_stmt-returns-in_ok-add_stmt-in-Label t c = λ bodies.
    let i : Interpretation = under c.args.known.now.texts.now bodies in
    scoped_at c.args.known.now.texts.now c.args.known.now.closed.now c.args.around c.args.made.now.scopes.items c.add_stmt-in-Label.new.made.scopes.items c.args.made.now.closed c.add_stmt-in-Label.new.made.closed
    (model.Label (named i c.in-Label.name) (stmt_of i c.deref-in-Label.result.now)) (stmt_of i c.args.stmt.now)
    (ap (λ (s : Stmt). model.Label (named i c.in-Label.name) (stmt_of i s)) c.deref-in-Label.ensures ∙ sym (ap (stmt_of i) c.in-Label.is ∙ stmt_of-Label i c.in-Label.name c.in-Label.body))
    (c.in_ok-add_stmt-in-Label.ensures bodies)

pub add_stmt-returns-in_ok-add_block-in-Try-2 : goal.add_stmt-returns-in_ok-add_block-in-Try-2
add_stmt-returns-in_ok-add_block-in-Try-2 t c = λ bodies.
    let i : Interpretation = under c.args.known.now.texts.now bodies in
    scoped_at c.args.known.now.texts.now c.args.known.now.closed.now c.args.around c.args.made.now.scopes.items c.add_block-in-Try-2.new.made.scopes.items c.args.made.now.closed c.add_block-in-Try-2.new.made.closed
    (model.Try (stmts_of (map (stmt_of i) c.deref-in-Try.result.now)) (maybe_named i (out-TryStatement c.deref-statement-in-Try.result.now).param) (stmts_of (map (stmt_of i) c.deref-in-Try-2.result.now))) (stmt_of i c.args.stmt.now)
    (ap (λ (xs : List Stmt). model.Try (stmts_of (map (stmt_of i) xs)) (maybe_named i (out-TryStatement c.deref-statement-in-Try.result.now).param) (stmts_of (map (stmt_of i) c.deref-in-Try-2.result.now))) c.deref-in-Try.ensures.value ∙ (ap (λ (xs : List Stmt). model.Try (stmts_of (map (stmt_of i) (out-TryStatement c.deref-statement-in-Try.result.now).body.items)) (maybe_named i (out-TryStatement c.deref-statement-in-Try.result.now).param) (stmts_of (map (stmt_of i) xs))) c.deref-in-Try-2.ensures.value ∙ (ap (λ (z : TryStatement). model.Try (stmts_of (map (stmt_of i) (out-TryStatement z).body.items)) (maybe_named i (out-TryStatement z).param) (stmts_of (map (stmt_of i) (out-TryStatement z).handler.items))) c.deref-statement-in-Try.ensures ∙ sym (ap (stmt_of i) c.in-Try.is ∙ stmt_of-Try i c.in-Try.boxed))))
    (scoped_both c.args.known.now.texts.now c.args.known.now.closed.now c.args.around c.args.made.now.scopes.items c.add_block-in-Try.new.made.scopes.items c.add_block-in-Try-2.new.made.scopes.items c.args.made.now.closed c.add_block-in-Try.new.made.closed c.add_block-in-Try-2.new.made.closed (scope_count (lexical_names (stmts_of (map (stmt_of i) c.deref-in-Try.result.now))) + count_stmts (stmts_of (map (stmt_of i) c.deref-in-Try.result.now))) (scope_count (catch_names (maybe_named i (out-TryStatement c.deref-statement-in-Try.result.now).param)) + (scope_count (lexical_names (stmts_of (map (stmt_of i) c.deref-in-Try-2.result.now))) + count_stmts (stmts_of (map (stmt_of i) c.deref-in-Try-2.result.now)))) (scope_around scope_kind.Lexical (lexical_names (stmts_of (map (stmt_of i) c.deref-in-Try.result.now))) (block_inner (stmts_of (map (stmt_of i) c.deref-in-Try.result.now))) (scopes_stmts (stmts_of (map (stmt_of i) c.deref-in-Try.result.now)))) (scope_around scope_kind.SimpleCatch (catch_names (maybe_named i (out-TryStatement c.deref-statement-in-Try.result.now).param)) (catch_inner (stmts_of (map (stmt_of i) c.deref-in-Try-2.result.now))) (scope_around scope_kind.Lexical (lexical_names (stmts_of (map (stmt_of i) c.deref-in-Try-2.result.now))) (block_inner (stmts_of (map (stmt_of i) c.deref-in-Try-2.result.now))) (scopes_stmts (stmts_of (map (stmt_of i) c.deref-in-Try-2.result.now))))) (c.in_ok-add_block-in-Try.ensures bodies) (scoped_inside c.args.known.now.texts.now c.args.known.now.closed.now c.args.around c.in_ok-inside-in-Try.inside c.add_block-in-Try.new.made.scopes.items c.open_catch.new.made.scopes.items c.add_block-in-Try-2.new.made.scopes.items c.add_block-in-Try.new.made.closed c.open_catch.new.made.closed c.add_block-in-Try-2.new.made.closed (scope_count (lexical_names (stmts_of (map (stmt_of i) c.deref-in-Try-2.result.now))) + count_stmts (stmts_of (map (stmt_of i) c.deref-in-Try-2.result.now))) scope_kind.SimpleCatch (catch_names (maybe_named i (out-TryStatement c.deref-statement-in-Try.result.now).param)) (catch_inner (stmts_of (map (stmt_of i) c.deref-in-Try-2.result.now))) (scope_around scope_kind.Lexical (lexical_names (stmts_of (map (stmt_of i) c.deref-in-Try-2.result.now))) (block_inner (stmts_of (map (stmt_of i) c.deref-in-Try-2.result.now))) (scopes_stmts (stmts_of (map (stmt_of i) c.deref-in-Try-2.result.now)))) (c.in_ok-inside-in-Try.ensures bodies) (c.in_ok-add_block-in-Try-2.ensures bodies)))

pub add_stmt-returns-in-Empty : goal.add_stmt-returns-in-Empty
add_stmt-returns-in-Empty t c = λ bodies.
    let i : Interpretation = under c.args.known.now.texts.now bodies in
    scoped_at c.args.known.now.texts.now c.args.known.now.closed.now c.args.around c.args.made.now.scopes.items c.args.made.now.scopes.items c.args.made.now.closed c.args.made.now.closed
    _ (stmt_of i c.args.stmt.now) (sym (ap (stmt_of i) c.in-Empty.is ∙ stmt_of-Empty i))
    (scoped_none c.args.known.now.texts.now c.args.known.now.closed.now c.args.around c.args.made.now.scopes.items c.args.made.now.closed)

pub add_stmt-returns-in-Debugger : goal.add_stmt-returns-in-Debugger
add_stmt-returns-in-Debugger t c = λ bodies.
    let i : Interpretation = under c.args.known.now.texts.now bodies in
    scoped_at c.args.known.now.texts.now c.args.known.now.closed.now c.args.around c.args.made.now.scopes.items c.args.made.now.scopes.items c.args.made.now.closed c.args.made.now.closed
    _ (stmt_of i c.args.stmt.now) (sym (ap (stmt_of i) c.in-Debugger.is ∙ stmt_of-Debugger i c.in-Debugger.semi))
    (scoped_none c.args.known.now.texts.now c.args.known.now.closed.now c.args.around c.args.made.now.scopes.items c.args.made.now.closed)

pub add_stmt-returns-in-Binds : goal.add_stmt-returns-in-Binds
add_stmt-returns-in-Binds t c = λ bodies.
    let i : Interpretation = under c.args.known.now.texts.now bodies in
    scoped_at c.args.known.now.texts.now c.args.known.now.closed.now c.args.around c.args.made.now.scopes.items c.args.made.now.scopes.items c.args.made.now.closed c.args.made.now.closed
    _ (stmt_of i c.args.stmt.now) (sym (ap (stmt_of i) c.in-Binds.is ∙ stmt_of-Binds i c.in-Binds.decl c.in-Binds.binds c.in-Binds.semi))
    (scoped_none c.args.known.now.texts.now c.args.known.now.closed.now c.args.around c.args.made.now.scopes.items c.args.made.now.closed)

pub add_stmt-returns-in-Value : goal.add_stmt-returns-in-Value
add_stmt-returns-in-Value t c = λ bodies.
    let i : Interpretation = under c.args.known.now.texts.now bodies in
    scoped_at c.args.known.now.texts.now c.args.known.now.closed.now c.args.around c.args.made.now.scopes.items c.args.made.now.scopes.items c.args.made.now.closed c.args.made.now.closed
    _ (stmt_of i c.args.stmt.now) (sym (ap (stmt_of i) c.in-Value.is ∙ stmt_of-Value i c.in-Value.value c.in-Value.semi))
    (scoped_none c.args.known.now.texts.now c.args.known.now.closed.now c.args.around c.args.made.now.scopes.items c.args.made.now.closed)

pub add_stmt-returns-in-Continue : goal.add_stmt-returns-in-Continue
add_stmt-returns-in-Continue t c = λ bodies.
    let i : Interpretation = under c.args.known.now.texts.now bodies in
    scoped_at c.args.known.now.texts.now c.args.known.now.closed.now c.args.around c.args.made.now.scopes.items c.args.made.now.scopes.items c.args.made.now.closed c.args.made.now.closed
    _ (stmt_of i c.args.stmt.now) (sym (ap (stmt_of i) c.in-Continue.is ∙ stmt_of-Continue i c.in-Continue.at c.in-Continue.label c.in-Continue.semi))
    (scoped_none c.args.known.now.texts.now c.args.known.now.closed.now c.args.around c.args.made.now.scopes.items c.args.made.now.closed)

pub add_stmt-returns-in-Break : goal.add_stmt-returns-in-Break
add_stmt-returns-in-Break t c = λ bodies.
    let i : Interpretation = under c.args.known.now.texts.now bodies in
    scoped_at c.args.known.now.texts.now c.args.known.now.closed.now c.args.around c.args.made.now.scopes.items c.args.made.now.scopes.items c.args.made.now.closed c.args.made.now.closed
    _ (stmt_of i c.args.stmt.now) (sym (ap (stmt_of i) c.in-Break.is ∙ stmt_of-Break i c.in-Break.at c.in-Break.label c.in-Break.semi))
    (scoped_none c.args.known.now.texts.now c.args.known.now.closed.now c.args.around c.args.made.now.scopes.items c.args.made.now.closed)

pub add_stmt-returns-in-Return : goal.add_stmt-returns-in-Return
add_stmt-returns-in-Return t c = λ bodies.
    let i : Interpretation = under c.args.known.now.texts.now bodies in
    scoped_at c.args.known.now.texts.now c.args.known.now.closed.now c.args.around c.args.made.now.scopes.items c.args.made.now.scopes.items c.args.made.now.closed c.args.made.now.closed
    _ (stmt_of i c.args.stmt.now) (sym (ap (stmt_of i) c.in-Return.is ∙ stmt_of-Return i c.in-Return.semi c.in-Return.value))
    (scoped_none c.args.known.now.texts.now c.args.known.now.closed.now c.args.around c.args.made.now.scopes.items c.args.made.now.closed)

pub add_stmt-returns-in-Throw : goal.add_stmt-returns-in-Throw
add_stmt-returns-in-Throw t c = λ bodies.
    let i : Interpretation = under c.args.known.now.texts.now bodies in
    scoped_at c.args.known.now.texts.now c.args.known.now.closed.now c.args.around c.args.made.now.scopes.items c.args.made.now.scopes.items c.args.made.now.closed c.args.made.now.closed
    _ (stmt_of i c.args.stmt.now) (sym (ap (stmt_of i) c.in-Throw.is ∙ stmt_of-Throw i c.in-Throw.value c.in-Throw.semi))
    (scoped_none c.args.known.now.texts.now c.args.known.now.closed.now c.args.around c.args.made.now.scopes.items c.args.made.now.closed)

pub add_stmt-returns-in-Func : goal.add_stmt-returns-in-Func
add_stmt-returns-in-Func t c = λ bodies.
    let i : Interpretation = under c.args.known.now.texts.now bodies in
    scoped_at c.args.known.now.texts.now c.args.known.now.closed.now c.args.around c.args.made.now.scopes.items c.args.made.now.scopes.items c.args.made.now.closed c.args.made.now.closed
    _ (stmt_of i c.args.stmt.now) (sym (ap (stmt_of i) c.in-Func.is ∙ stmt_of-Func i c.in-Func.field-0))
    (scoped_none c.args.known.now.texts.now c.args.known.now.closed.now c.args.around c.args.made.now.scopes.items c.args.made.now.closed)
