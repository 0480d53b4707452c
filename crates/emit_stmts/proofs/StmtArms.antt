-- The arms of a statement: the code of each variant is that of the statement that it stands for.
use Rattle.std.proofs.Common.{◌≡◌, ℕ, Bool, List, Option, Some, None, map, option_map, sym, ◌∙◌, ap, ap₂, refl}
use Rattle.std.specs.declared.boxed.Box.{Box}
use Rattle.std.specs.declared.vec.Vec.{Vec}
use Rattle.std.specs.declared.alloc.Global.{Global}
use Rattle.script_grammar.specs.declared.token.Decl.{Decl}
use Rattle.script_grammar.specs.declared.tree.Bind.{Bind}
use Rattle.script_grammar.specs.declared.tree.Clause.{Clause}
use Rattle.script_grammar.specs.declared.tree.Each.{Each}
use Rattle.script_grammar.specs.declared.tree.Expr.{Expr}
use Rattle.script_grammar.specs.declared.tree.ForInStatement.{ForInStatement, out-ForInStatement}
use Rattle.script_grammar.specs.declared.tree.ForStatement.{ForStatement}
use Rattle.script_grammar.specs.declared.tree.Func.{Func}
use Rattle.script_grammar.specs.declared.tree.Ident.{Ident}
use Rattle.script_grammar.specs.declared.tree.IfStatement.{IfStatement}
use Rattle.script_grammar.specs.declared.tree.Init.{Init}
use Rattle.script_grammar.specs.declared.tree.Stmt.{Stmt}
use Rattle.script_grammar.specs.declared.tree.SwitchStatement.{SwitchStatement, out-SwitchStatement}
use Rattle.script_grammar.specs.declared.tree.TryStatement.{TryStatement, out-TryStatement}
use Rattle.script_grammar.specs.declared.tree.Stmt.TheVariants as in_stmt
use Rattle.script_grammar.specs.Interpretation.{named, maybe_named}
use Rattle.script_grammar.specs.Tree as model
use Rattle.script_grammar.specs.TreeLists.{binds_of, maybe_stmt_of}
use Rattle.script_grammar.specs.TreeOf.{expr_of, each_of, init_of, bind_of, func_of, stmt_of}
use Rattle.script_grammar.proofs.StmtEquations as equation
use Rattle.bytecode_buf.specs.Appends.{Emitted}
use Rattle.emit_stmts.specs.PartCode.{BlockWritten, stmts_in, clauses_in, maybe_in}
use Rattle.emit_stmts.specs.Positions.{Position, within}
use Rattle.emit_stmts.specs.StmtCode.{RowWritten, StmtWritten}
use Rattle.emit_stmts.proofs.Writing.{written_none, row_of, stmt_at}

pub at_block : {p : Position} {a b : Emitted} {k l : ℕ} (s : Stmt) (items : Vec Stmt Global) (xs : List Stmt) → s ≡ in_stmt.Block items → xs ≡ items.items → BlockWritten p a b k l xs → StmtWritten p a b k l s
at_block {p} s items xs is e1 x = stmt_at s (λ w. model.Block (stmts_in p w xs)) (λ w. ap (stmt_of (within p w)) is ∙ (equation.stmt_of-Block (within p w) items ∙ ap (λ (l : List Stmt). model.Block (stmts_in p w l)) (sym e1))) (record { code = x.code })

pub at_empty : {p : Position} {now : Emitted} {k : ℕ} (s : Stmt) → s ≡ in_stmt.Empty → StmtWritten p now now k k s
at_empty {p} {now} {k} s is = stmt_at s (λ w. model.Empty) (λ w. ap (stmt_of (within p w)) is ∙ equation.stmt_of-Empty (within p w)) (row_of (λ w. model.Empty) (λ w f. tt) (λ w. refl) (λ w i stands. refl) (written_none p now k))

pub at_func : {p : Position} {now : Emitted} {k : ℕ} (s : Stmt) (func : Box Func Global) → s ≡ in_stmt.Func func → StmtWritten p now now k k s
at_func {p} {now} {k} s func is = stmt_at s (λ w. model.Declared (func_of (within p w) func.value)) (λ w. ap (stmt_of (within p w)) is ∙ equation.stmt_of-Func (within p w) func) (row_of (λ w. model.Declared (func_of (within p w) func.value)) (λ w f. tt) (λ w. refl) (λ w i stands. refl) (written_none p now k))

pub at_debugger : {p : Position} {a b : Emitted} {k l : ℕ} (s : Stmt) (semi : Bool) → s ≡ in_stmt.Debugger semi → RowWritten p a b k l (λ w. model.Debugger semi) → StmtWritten p a b k l s
at_debugger {p} s semi is x = stmt_at s (λ w. model.Debugger semi) (λ w. ap (stmt_of (within p w)) is ∙ equation.stmt_of-Debugger (within p w) semi) x

pub at_binds : {p : Position} {a b : Emitted} {k l : ℕ} (s : Stmt) (decl : Decl) (binds : Vec Bind Global) (semi : Bool) (xs : List Bind) → s ≡ in_stmt.Binds decl binds semi → xs ≡ binds.items → RowWritten p a b k l (λ w. model.Binding decl (binds_of (map (bind_of (within p w)) xs)) semi) → StmtWritten p a b k l s
at_binds {p} s decl binds semi xs is e1 x = stmt_at s (λ w. model.Binding decl (binds_of (map (bind_of (within p w)) xs)) semi) (λ w. ap (stmt_of (within p w)) is ∙ (equation.stmt_of-Binds (within p w) decl binds semi ∙ ap (λ (l : List Bind). model.Binding decl (binds_of (map (bind_of (within p w)) l)) semi) (sym e1))) x

pub at_value : {p : Position} {a b : Emitted} {k l : ℕ} (s : Stmt) (value : Expr) (semi : Bool) → s ≡ in_stmt.Value value semi → RowWritten p a b k l (λ w. model.Value (expr_of (within p w) value) semi) → StmtWritten p a b k l s
at_value {p} s value semi is x = stmt_at s (λ w. model.Value (expr_of (within p w) value) semi) (λ w. ap (stmt_of (within p w)) is ∙ equation.stmt_of-Value (within p w) value semi) x

pub at_then : {p : Position} {a b : Emitted} {k l : ℕ} (s : Stmt) (boxed : Box IfStatement Global) (x : IfStatement) → s ≡ in_stmt.If boxed → x ≡ boxed.value → x.no ≡ None → RowWritten p a b k l (λ w. model.If (expr_of (within p w) x.test) (stmt_of (within p w) x.yes) model.no_stmt) → StmtWritten p a b k l s
at_then {p} s boxed x is e1 e2 y = stmt_at s (λ w. model.If (expr_of (within p w) x.test) (stmt_of (within p w) x.yes) model.no_stmt) (λ w. ap (stmt_of (within p w)) is ∙ (equation.stmt_of-If (within p w) boxed ∙ (ap (λ (z : IfStatement). model.If (expr_of (within p w) z.test) (stmt_of (within p w) z.yes) (maybe_stmt_of (option_map (λ boxed. stmt_of (within p w) boxed.value) z.no))) (sym e1)
    ∙ ap (λ (o : Option (Box Stmt Global)). model.If (expr_of (within p w) x.test) (stmt_of (within p w) x.yes) (maybe_stmt_of (option_map (λ boxed. stmt_of (within p w) boxed.value) o))) e2))) y

pub at_choice : {p : Position} {a b : Emitted} {k l : ℕ} (s : Stmt) (boxed : Box IfStatement Global) (x : IfStatement) (other : Box Stmt Global) (second : Stmt) → s ≡ in_stmt.If boxed → x ≡ boxed.value → x.no ≡ Some other → second ≡ other.value → RowWritten p a b k l (λ w. model.If (expr_of (within p w) x.test) (stmt_of (within p w) x.yes) (model.some_stmt (stmt_of (within p w) second))) → StmtWritten p a b k l s
at_choice {p} s boxed x other second is e1 e2 e3 y = stmt_at s (λ w. model.If (expr_of (within p w) x.test) (stmt_of (within p w) x.yes) (model.some_stmt (stmt_of (within p w) second))) (λ w. ap (stmt_of (within p w)) is ∙ (equation.stmt_of-If (within p w) boxed ∙ (ap (λ (z : IfStatement). model.If (expr_of (within p w) z.test) (stmt_of (within p w) z.yes) (maybe_stmt_of (option_map (λ boxed. stmt_of (within p w) boxed.value) z.no))) (sym e1)
    ∙ (ap (λ (o : Option (Box Stmt Global)). model.If (expr_of (within p w) x.test) (stmt_of (within p w) x.yes) (maybe_stmt_of (option_map (λ boxed. stmt_of (within p w) boxed.value) o))) e2 ∙ ap (λ (o : Stmt). model.If (expr_of (within p w) x.test) (stmt_of (within p w) x.yes) (model.some_stmt (stmt_of (within p w) o))) (sym e3))))) y

pub at_do : {p : Position} {a b : Emitted} {k l : ℕ} (s : Stmt) (body : Box Stmt Global) (test : Expr) (semi : Bool) (inner : Stmt) → s ≡ in_stmt.Do semi body test → inner ≡ body.value → RowWritten p a b k l (λ w. model.Do (stmt_of (within p w) inner) (expr_of (within p w) test) semi) → StmtWritten p a b k l s
at_do {p} s body test semi inner is e1 x = stmt_at s (λ w. model.Do (stmt_of (within p w) inner) (expr_of (within p w) test) semi) (λ w. ap (stmt_of (within p w)) is ∙ (equation.stmt_of-Do (within p w) semi body test ∙ ap (λ (o : Stmt). model.Do (stmt_of (within p w) o) (expr_of (within p w) test) semi) (sym e1))) x

pub at_while : {p : Position} {a b : Emitted} {k l : ℕ} (s : Stmt) (test : Expr) (body : Box Stmt Global) (inner : Stmt) → s ≡ in_stmt.While test body → inner ≡ body.value → RowWritten p a b k l (λ w. model.While (expr_of (within p w) test) (stmt_of (within p w) inner)) → StmtWritten p a b k l s
at_while {p} s test body inner is e1 x = stmt_at s (λ w. model.While (expr_of (within p w) test) (stmt_of (within p w) inner)) (λ w. ap (stmt_of (within p w)) is ∙ (equation.stmt_of-While (within p w) test body ∙ ap (λ (o : Stmt). model.While (expr_of (within p w) test) (stmt_of (within p w) o)) (sym e1))) x

pub at_for : {p : Position} {a b : Emitted} {k l : ℕ} (s : Stmt) (boxed : Box ForStatement Global) (x : ForStatement) → s ≡ in_stmt.For boxed → x ≡ boxed.value → RowWritten p a b k l (λ w. model.For (init_of (within p w) x.init) (maybe_in p w x.test) (maybe_in p w x.update) (stmt_of (within p w) x.body)) → StmtWritten p a b k l s
at_for {p} s boxed x is e1 y = stmt_at s (λ w. model.For (init_of (within p w) x.init) (maybe_in p w x.test) (maybe_in p w x.update) (stmt_of (within p w) x.body)) (λ w. ap (stmt_of (within p w)) is ∙ (equation.stmt_of-For (within p w) boxed ∙ ap (λ (z : ForStatement). model.For (init_of (within p w) z.init) (maybe_in p w z.test) (maybe_in p w z.update) (stmt_of (within p w) z.body)) (sym e1))) y

pub at_for_in : {p : Position} {a b : Emitted} {k l : ℕ} (s : Stmt) (boxed : Box ForInStatement Global) (x : ForInStatement) → s ≡ in_stmt.ForIn boxed → x ≡ boxed.value → RowWritten p a b k l (λ w. model.ForIn (each_of (within p w) (out-ForInStatement x).each) (expr_of (within p w) (out-ForInStatement x).over) (stmt_of (within p w) (out-ForInStatement x).body)) → StmtWritten p a b k l s
at_for_in {p} s boxed x is e1 y = stmt_at s (λ w. model.ForIn (each_of (within p w) (out-ForInStatement x).each) (expr_of (within p w) (out-ForInStatement x).over) (stmt_of (within p w) (out-ForInStatement x).body)) (λ w. ap (stmt_of (within p w)) is ∙ (equation.stmt_of-ForIn (within p w) boxed ∙ ap (λ (z : ForInStatement). model.ForIn (each_of (within p w) (out-ForInStatement z).each) (expr_of (within p w) (out-ForInStatement z).over) (stmt_of (within p w) (out-ForInStatement z).body)) (sym e1))) y

pub at_continue : {p : Position} {a b : Emitted} {k l : ℕ} (s : Stmt) (at : ℕ) (label : Option Ident) (semi : Bool) → s ≡ in_stmt.Continue at label semi → RowWritten p a b k l (λ w. model.Continue at (maybe_named (within p w) label) semi) → StmtWritten p a b k l s
at_continue {p} s at label semi is x = stmt_at s (λ w. model.Continue at (maybe_named (within p w) label) semi) (λ w. ap (stmt_of (within p w)) is ∙ equation.stmt_of-Continue (within p w) at label semi) x

pub at_break : {p : Position} {a b : Emitted} {k l : ℕ} (s : Stmt) (at : ℕ) (label : Option Ident) (semi : Bool) → s ≡ in_stmt.Break at label semi → RowWritten p a b k l (λ w. model.Break at (maybe_named (within p w) label) semi) → StmtWritten p a b k l s
at_break {p} s at label semi is x = stmt_at s (λ w. model.Break at (maybe_named (within p w) label) semi) (λ w. ap (stmt_of (within p w)) is ∙ equation.stmt_of-Break (within p w) at label semi) x

pub at_return : {p : Position} {a b : Emitted} {k l : ℕ} (s : Stmt) (value : Option Expr) (semi : Bool) → s ≡ in_stmt.Return semi value → RowWritten p a b k l (λ w. model.Return (maybe_in p w value) semi) → StmtWritten p a b k l s
at_return {p} s value semi is x = stmt_at s (λ w. model.Return (maybe_in p w value) semi) (λ w. ap (stmt_of (within p w)) is ∙ equation.stmt_of-Return (within p w) semi value) x

pub at_throw : {p : Position} {a b : Emitted} {k l : ℕ} (s : Stmt) (value : Expr) (semi : Bool) → s ≡ in_stmt.Throw value semi → RowWritten p a b k l (λ w. model.Throw (expr_of (within p w) value) semi) → StmtWritten p a b k l s
at_throw {p} s value semi is x = stmt_at s (λ w. model.Throw (expr_of (within p w) value) semi) (λ w. ap (stmt_of (within p w)) is ∙ equation.stmt_of-Throw (within p w) value semi) x

pub at_switch : {p : Position} {a b : Emitted} {k l : ℕ} (s : Stmt) (boxed : Box SwitchStatement Global) (x : SwitchStatement) (xs : List Clause) → s ≡ in_stmt.Switch boxed → x ≡ boxed.value → xs ≡ (out-SwitchStatement x).clauses.items → RowWritten p a b k l (λ w. model.Switch (expr_of (within p w) (out-SwitchStatement x).of) (clauses_in p w xs)) → StmtWritten p a b k l s
at_switch {p} s boxed x xs is e1 e2 y = stmt_at s (λ w. model.Switch (expr_of (within p w) (out-SwitchStatement x).of) (clauses_in p w xs)) (λ w. ap (stmt_of (within p w)) is ∙ (equation.stmt_of-Switch (within p w) boxed ∙ (ap (λ (z : SwitchStatement). model.Switch (expr_of (within p w) (out-SwitchStatement z).of) (clauses_in p w (out-SwitchStatement z).clauses.items)) (sym e1)
    ∙ ap (λ (l : List Clause). model.Switch (expr_of (within p w) (out-SwitchStatement x).of) (clauses_in p w l)) (sym e2)))) y

pub at_label : {p : Position} {a b : Emitted} {k l : ℕ} (s : Stmt) (name : Ident) (body : Box Stmt Global) (inner : Stmt) → s ≡ in_stmt.Label name body → inner ≡ body.value → RowWritten p a b k l (λ w. model.Label (named (within p w) name) (stmt_of (within p w) inner)) → StmtWritten p a b k l s
at_label {p} s name body inner is e1 x = stmt_at s (λ w. model.Label (named (within p w) name) (stmt_of (within p w) inner)) (λ w. ap (stmt_of (within p w)) is ∙ (equation.stmt_of-Label (within p w) name body ∙ ap (λ (o : Stmt). model.Label (named (within p w) name) (stmt_of (within p w) o)) (sym e1))) x

pub at_try : {p : Position} {a b : Emitted} {k l : ℕ} (s : Stmt) (boxed : Box TryStatement Global) (x : TryStatement) (xs ys : List Stmt) → s ≡ in_stmt.Try boxed → x ≡ boxed.value → xs ≡ (out-TryStatement x).body.items → ys ≡ (out-TryStatement x).handler.items → RowWritten p a b k l (λ w. model.Try (stmts_in p w xs) (maybe_named (within p w) (out-TryStatement x).param) (stmts_in p w ys)) → StmtWritten p a b k l s
at_try {p} s boxed x xs ys is e0 e1 e2 y = stmt_at s (λ w. model.Try (stmts_in p w xs) (maybe_named (within p w) (out-TryStatement x).param) (stmts_in p w ys)) (λ w. ap (stmt_of (within p w)) is ∙ (equation.stmt_of-Try (within p w) boxed ∙ (ap (λ (z : TryStatement). model.Try (stmts_in p w (out-TryStatement z).body.items) (maybe_named (within p w) (out-TryStatement z).param) (stmts_in p w (out-TryStatement z).handler.items)) (sym e0)
    ∙ ap₂ (λ (l : List Stmt) (m : List Stmt). model.Try (stmts_in p w l) (maybe_named (within p w) (out-TryStatement x).param) (stmts_in p w m)) (sym e1) (sym e2)))) y
