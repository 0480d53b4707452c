-- The arms of a statement: what was found is what stands in the statement that each variant stands for.
use Rattle.std.proofs.Common.{◌≡◌, ℕ, Bool, List, [], Option, map, option_map, sym, ◌∙◌, ap}
use Rattle.std.specs.declared.boxed.Box.{Box}
use Rattle.std.specs.declared.vec.Vec.{Vec}
use Rattle.std.specs.declared.alloc.Global.{Global}
use Rattle.script_grammar.specs.declared.token.Decl.{Decl}
use Rattle.script_grammar.specs.declared.tree.Bind.{Bind}
use Rattle.script_grammar.specs.declared.tree.Clause.{Clause}
use Rattle.script_grammar.specs.declared.tree.Each.{Each}
use Rattle.script_grammar.specs.declared.tree.Expr.{Expr}
use Rattle.script_grammar.specs.declared.tree.ForInStatement.{ForInStatement, out-ForInStatement}
use Rattle.script_grammar.specs.declared.tree.ForStatement.{ForStatement}
use Rattle.script_grammar.specs.declared.tree.Ident.{Ident}
use Rattle.script_grammar.specs.declared.tree.IfStatement.{IfStatement}
use Rattle.script_grammar.specs.declared.tree.Init.{Init}
use Rattle.script_grammar.specs.declared.tree.Stmt.{Stmt}
use Rattle.script_grammar.specs.declared.tree.SwitchStatement.{SwitchStatement, out-SwitchStatement}
use Rattle.script_grammar.specs.declared.tree.TryStatement.{TryStatement, out-TryStatement}
use Rattle.script_grammar.specs.declared.tree.Stmt.TheVariants as in_stmt
use Rattle.script_grammar.specs.Interpretation.{Interpretation, named, maybe_named}
use Rattle.script_grammar.specs.Tree as model
use Rattle.script_grammar.specs.TreeLists.{binds_of, maybe_expr_of}
use Rattle.script_grammar.specs.TreeOf.{expr_of, each_of, init_of, bind_of, stmt_of}
use Rattle.script_grammar.proofs.StmtEquations as equation
use Rattle.scope_analysis.specs.Functions.{inner_stmt}
use Rattle.scope_analysis.specs.Scopes.{count_stmt}
use Rattle.scope_inner.specs.declared.places.Walk.{Walk}
use Rattle.scope_inner.specs.Spots.{Spot}
use Rattle.scope_inner.specs.StmtFinds.{stmts_in, clauses_in, else_in, RowFinds, StmtFinds}
use Rattle.scope_inner.proofs.StmtRows.{found_in, nothing}

pub stmt_at : {p : Spot} {a b : Walk} (s : Stmt) (m : Interpretation → model.Stmt) → ((i : Interpretation) → stmt_of i s ≡ m i) → RowFinds p a b m → StmtFinds p a b s
stmt_at s m is x = record { row = record { all = found_in (λ i. ap count_stmt (sym (is i))) (λ i n r. ap (λ (t : model.Stmt). inner_stmt t n r) (sym (is i))) x.all } }

-- a statement without functions and scopes in it
pub stmt_none : (p : Spot) (a : Walk) (s : Stmt) (m : Interpretation → model.Stmt) → ((i : Interpretation) → stmt_of i s ≡ m i) → ((i : Interpretation) → count_stmt (m i) ≡ 0) → ((i : Interpretation) (n : ℕ) (r : List ℕ) → inner_stmt (m i) n r ≡ []) → StmtFinds p a a s
stmt_none p a s m is no_count none = stmt_at s m is (record { all = found_in (λ i. sym (no_count i)) (λ i n r. sym (none i n r)) (nothing p a.sites.items a.next) })

pub at_block : {p : Spot} {a b : Walk} (s : Stmt) (items : Vec Stmt Global) (xs : List Stmt) → s ≡ in_stmt.Block items → xs ≡ items.items → RowFinds p a b (λ i. model.Block (stmts_in i xs)) → StmtFinds p a b s
at_block s items xs is same x = stmt_at s (λ i. model.Block (stmts_in i xs)) (λ i. ap (stmt_of i) is ∙ (equation.stmt_of-Block i items ∙ ap (λ (l : List Stmt). model.Block (stmts_in i l)) (sym same))) x

pub at_binds : {p : Spot} {a b : Walk} (s : Stmt) (decl : Decl) (binds : Vec Bind Global) (semi : Bool) (xs : List Bind) → s ≡ in_stmt.Binds decl binds semi → xs ≡ binds.items → RowFinds p a b (λ i. model.Binding decl (binds_of (map (bind_of i) xs)) semi) → StmtFinds p a b s
at_binds s decl binds semi xs is same x = stmt_at s (λ i. model.Binding decl (binds_of (map (bind_of i) xs)) semi) (λ i. ap (stmt_of i) is ∙ (equation.stmt_of-Binds i decl binds semi ∙ ap (λ (l : List Bind). model.Binding decl (binds_of (map (bind_of i) l)) semi) (sym same))) x

pub at_if : {p : Spot} {a b : Walk} (s : Stmt) (boxed : Box IfStatement Global) (x : IfStatement) → s ≡ in_stmt.If boxed → x ≡ boxed.value → RowFinds p a b (λ i. model.If (expr_of i x.test) (stmt_of i x.yes) (else_in i x.no)) → StmtFinds p a b s
at_if s boxed x is same y = stmt_at s (λ i. model.If (expr_of i x.test) (stmt_of i x.yes) (else_in i x.no)) (λ i. ap (stmt_of i) is ∙ (equation.stmt_of-If i boxed ∙ ap (λ (z : IfStatement). model.If (expr_of i z.test) (stmt_of i z.yes) (else_in i z.no)) (sym same))) y

pub at_do : {p : Spot} {a b : Walk} (s : Stmt) (body : Box Stmt Global) (test : Expr) (semi : Bool) (inner : Stmt) → s ≡ in_stmt.Do semi body test → inner ≡ body.value → RowFinds p a b (λ i. model.Do (stmt_of i inner) (expr_of i test) semi) → StmtFinds p a b s
at_do s body test semi inner is same x = stmt_at s (λ i. model.Do (stmt_of i inner) (expr_of i test) semi) (λ i. ap (stmt_of i) is ∙ (equation.stmt_of-Do i semi body test ∙ ap (λ (t : Stmt). model.Do (stmt_of i t) (expr_of i test) semi) (sym same))) x

pub at_while : {p : Spot} {a b : Walk} (s : Stmt) (test : Expr) (body : Box Stmt Global) (inner : Stmt) → s ≡ in_stmt.While test body → inner ≡ body.value → RowFinds p a b (λ i. model.While (expr_of i test) (stmt_of i inner)) → StmtFinds p a b s
at_while s test body inner is same x = stmt_at s (λ i. model.While (expr_of i test) (stmt_of i inner)) (λ i. ap (stmt_of i) is ∙ (equation.stmt_of-While i test body ∙ ap (λ (t : Stmt). model.While (expr_of i test) (stmt_of i t)) (sym same))) x

pub at_for : {p : Spot} {a b : Walk} (s : Stmt) (boxed : Box ForStatement Global) (x : ForStatement) → s ≡ in_stmt.For boxed → x ≡ boxed.value → RowFinds p a b (λ i. model.For (init_of i x.init) (maybe_expr_of (option_map (expr_of i) x.test)) (maybe_expr_of (option_map (expr_of i) x.update)) (stmt_of i x.body)) → StmtFinds p a b s
at_for s boxed x is same y = stmt_at s (λ i. model.For (init_of i x.init) (maybe_expr_of (option_map (expr_of i) x.test)) (maybe_expr_of (option_map (expr_of i) x.update)) (stmt_of i x.body)) (λ i. ap (stmt_of i) is ∙ (equation.stmt_of-For i boxed ∙ ap (λ (z : ForStatement). model.For (init_of i z.init) (maybe_expr_of (option_map (expr_of i) z.test)) (maybe_expr_of (option_map (expr_of i) z.update)) (stmt_of i z.body)) (sym same))) y

pub at_for_in : {p : Spot} {a b : Walk} (s : Stmt) (boxed : Box ForInStatement Global) (x : ForInStatement) → s ≡ in_stmt.ForIn boxed → x ≡ boxed.value → RowFinds p a b (λ i. model.ForIn (each_of i (out-ForInStatement x).each) (expr_of i (out-ForInStatement x).over) (stmt_of i (out-ForInStatement x).body)) → StmtFinds p a b s
at_for_in s boxed x is same y = stmt_at s (λ i. model.ForIn (each_of i (out-ForInStatement x).each) (expr_of i (out-ForInStatement x).over) (stmt_of i (out-ForInStatement x).body)) (λ i. ap (stmt_of i) is ∙ (equation.stmt_of-ForIn i boxed ∙ ap (λ (z : ForInStatement). model.ForIn (each_of i (out-ForInStatement z).each) (expr_of i (out-ForInStatement z).over) (stmt_of i (out-ForInStatement z).body)) (sym same))) y

pub at_switch : {p : Spot} {a b : Walk} (s : Stmt) (boxed : Box SwitchStatement Global) (x : SwitchStatement) (xs : List Clause) → s ≡ in_stmt.Switch boxed → x ≡ boxed.value → xs ≡ (out-SwitchStatement x).clauses.items → RowFinds p a b (λ i. model.Switch (expr_of i (out-SwitchStatement x).of) (clauses_in i xs)) → StmtFinds p a b s
at_switch s boxed x xs is same same_clauses y = stmt_at s (λ i. model.Switch (expr_of i (out-SwitchStatement x).of) (clauses_in i xs)) (λ i. ap (stmt_of i) is ∙ (equation.stmt_of-Switch i boxed ∙ (ap (λ (z : SwitchStatement). model.Switch (expr_of i (out-SwitchStatement z).of) (clauses_in i (out-SwitchStatement z).clauses.items)) (sym same) ∙ ap (λ (l : List Clause). model.Switch (expr_of i (out-SwitchStatement x).of) (clauses_in i l)) (sym same_clauses)))) y

pub at_label : {p : Spot} {a b : Walk} (s : Stmt) (name : Ident) (body : Box Stmt Global) (inner : Stmt) → s ≡ in_stmt.Label name body → inner ≡ body.value → RowFinds p a b (λ i. model.Label (named i name) (stmt_of i inner)) → StmtFinds p a b s
at_label s name body inner is same x = stmt_at s (λ i. model.Label (named i name) (stmt_of i inner)) (λ i. ap (stmt_of i) is ∙ (equation.stmt_of-Label i name body ∙ ap (λ (t : Stmt). model.Label (named i name) (stmt_of i t)) (sym same))) x

pub at_try : {p : Spot} {a b : Walk} (s : Stmt) (boxed : Box TryStatement Global) (x : TryStatement) (xs ys : List Stmt) → s ≡ in_stmt.Try boxed → x ≡ boxed.value → xs ≡ (out-TryStatement x).body.items → ys ≡ (out-TryStatement x).handler.items
    → RowFinds p a b (λ i. model.Try (stmts_in i xs) (maybe_named i (out-TryStatement x).param) (stmts_in i ys)) → StmtFinds p a b s
at_try s boxed x xs ys is same same_body same_handler y = stmt_at s (λ i. model.Try (stmts_in i xs) (maybe_named i (out-TryStatement x).param) (stmts_in i ys))
    (λ i. ap (stmt_of i) is ∙ (equation.stmt_of-Try i boxed ∙ (ap (λ (z : TryStatement). model.Try (stmts_in i (out-TryStatement z).body.items) (maybe_named i (out-TryStatement z).param) (stmts_in i (out-TryStatement z).handler.items)) (sym same)
    ∙ (ap (λ (l : List Stmt). model.Try (stmts_in i l) (maybe_named i (out-TryStatement x).param) (stmts_in i (out-TryStatement x).handler.items)) (sym same_body) ∙ ap (λ (l : List Stmt). model.Try (stmts_in i xs) (maybe_named i (out-TryStatement x).param) (stmts_in i l)) (sym same_handler))))) y
