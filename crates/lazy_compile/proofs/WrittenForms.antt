-- Each function of a script is written in the form of its kind.
use Rattle.std.proofs.Common.{◌≡◌, ◌<◌, Bool, false, ℕ, zero, suc, List, [], ◌∷◌, ◌++◌, length, slice_index_or, refl, subst, Option, arith}
use Rattle.std.specs.List.{Contains}
use Rattle.script_grammar.specs.declared.token.FuncForm.{FuncForm}
use Rattle.script_grammar.specs.declared.token.FuncForm.TheVariants as form
use Rattle.script_grammar.specs.Pieces.{whole}
use Rattle.script_grammar.specs.Proper.{Proper, ProperExprs, ProperMaybe, ProperOption, ProperArgs, ProperParts, ProperItems, ProperOperands, ProperTails, ProperTail, ProperKey, ProperProp, ProperProps, ProperFunction, ProperParams, ProperBody, ProperBinds, ProperInit, ProperEach, ProperClauses, ProperStmts, ProperElse, ProperStmt, IsFuncExpression, IsDeclaration, IsNamelessOf}
use Rattle.script_grammar.specs.Tree.{Named, Expr, Exprs, no_exprs, more_exprs, MaybeExpr, no_expr, some_expr, MaybeArgs, no_args, some_args, Parts, no_parts, more_parts, Items, no_items, more_items, Operands, no_operands, more_operands, Tail, Tails, no_tails, more_tails, Key, Prop, Props, no_props, more_props, Function, function, Params, no_params, more_params, Body, Binds, no_binds, more_binds, Init, Each, Clauses, no_clauses, more_clauses, Stmt, Stmts, no_stmts, more_stmts, MaybeStmt, no_stmt, some_stmt}
use Rattle.script_grammar.specs.Tree as tree
use Rattle.stencil_data.specs.declared.functions.FuncKind.{FuncKind}
use Rattle.stencil_data.specs.declared.functions.FuncKind.TheVariants as func
use Rattle.grammar_start_laws.specs.Own.{AllOf}
use Rattle.scope_analysis.specs.DeclaredNames.{Text, has_initializer}
use Rattle.scope_analysis.specs.Functions.{Inner, expression_kind, function_form, named_inner, nameless_inner, inner_expr, inner_exprs, inner_maybe, inner_args, inner_parts, inner_items, inner_operands, inner_tails, inner_tail, inner_key, inner_prop, inner_props, inner_binds, inner_init, inner_each, inner_stmt, inner_stmts, inner_else, inner_clauses, inner_params, inner_body, params_around, inner_function, inner_script}
use Rattle.scope_closed_laws.specs.Sites.{IsFunctionOf, directly, inside}
use Rattle.emit_limit_laws.proofs.FullLists.{all_both}
use Rattle.lazy_compile.specs.Forms.{form_of}

-- a function of the grammar that is written in the form of its kind
record IsWritten (i : Inner) : Type 0 where
  proper : ProperFunction whole i.func
  written : function_form i.func ≡ form_of i.kind

record AllWritten (is : List Inner) : Type 0 where
  all : AllOf IsWritten is

none : AllWritten []
none = record { all = tt }

both : {is js : List Inner} → AllWritten is → AllWritten js → AllWritten (is ++ js)
both {is} {js} a b = record { all = all_both IsWritten is js a.all b.all }

-- ---- one function

expression_form : (at : ℕ) (f : Function) → IsFuncExpression at f → function_form f ≡ form_of (expression_kind (function_form f))
expression_form at (function form.Script start end name ps comma bare body) p = absurd p
expression_form at (function form.Function start end name ps comma bare body) p = refl
expression_form at (function form.Arrow start end name ps comma bare body) p = refl
expression_form at (function form.Method start end name ps comma bare body) p = absurd p
expression_form at (function form.Getter start end name ps comma bare body) p = absurd p
expression_form at (function form.Setter start end name ps comma bare body) p = absurd p

declared_form : (f : Function) → IsDeclaration f → function_form f ≡ form.Function
declared_form (function form.Script start end name ps comma bare body) p = absurd p
declared_form (function form.Function start end name ps comma bare body) p = refl
declared_form (function form.Arrow start end name ps comma bare body) p = absurd p
declared_form (function form.Method start end name ps comma bare body) p = absurd p
declared_form (function form.Getter start end name ps comma bare body) p = absurd p
declared_form (function form.Setter start end name ps comma bare body) p = absurd p

nameless_form : (wanted : FuncForm) (f : Function) → IsNamelessOf wanted f → function_form f ≡ wanted
nameless_form wanted (function form start end name ps comma bare body) p = p.0

one_named : (kind : FuncKind) (f : Function) (around : List ℕ) → ProperFunction whole f → function_form f ≡ form_of kind → AllWritten (named_inner kind f around)
one_named kind f around p e = record { all = (record { proper = p; written = e }, tt) }

one_nameless : (kind : FuncKind) (f : Function) (around : List ℕ) → ProperFunction whole f → function_form f ≡ form_of kind → AllWritten (nameless_inner kind f around)
one_nameless kind f around p e = record { all = (record { proper = p; written = e }, tt) }

-- ---- in a part of a tree

mutual
  in_expr : (x : Expr) (around : List ℕ) → Proper whole x → AllWritten (inner_expr x around)
  in_expr (tree.This at) around p = none
  in_expr (tree.Name name) around p = none
  in_expr (tree.Null at) around p = none
  in_expr (tree.True at) around p = none
  in_expr (tree.False at) around p = none
  in_expr (tree.Number at value) around p = none
  in_expr (tree.Str at end text) around p = none
  in_expr (tree.Template at first parts) around p = in_parts parts around p
  in_expr (tree.Array at items comma) around p = in_items items around p.1
  in_expr (tree.Object at props comma) around p = in_props props around p.1
  in_expr (tree.Func at f) around p = one_named (expression_kind (function_form f)) f around p.1 (expression_form at f p.0)
  in_expr (tree.Paren at inner) around p = in_expr inner around p
  in_expr (tree.Chain head tails) around p = both (in_expr head around p.1) (in_tails tails around p.3)
  in_expr (tree.New at callee args) around p = both (in_expr callee around p.1) (in_args args around p.2)
  in_expr (tree.Unary at op operand is_word) around p = in_expr operand around p.2
  in_expr (tree.Update at op prefix operand) around p = in_expr operand around p.2
  in_expr (tree.Binary first rest) around p = both (in_expr first around p.3) (in_operands rest _ around p.4)
  in_expr (tree.Cond test then_value else_value) around p = both (both (in_expr test around p.1) (in_expr then_value around p.3)) (in_expr else_value around p.5)
  in_expr (tree.Assign op target value) around p = both (in_expr target around p.2) (in_expr value around p.4)
  in_expr (tree.Comma items) around p = in_exprs items around p.1

  in_exprs : (x : Exprs) (around : List ℕ) → ProperExprs whole x → AllWritten (inner_exprs x around)
  in_exprs no_exprs around p = none
  in_exprs (more_exprs e es) around p = both (in_expr e around p.1) (in_exprs es around p.2)

  in_maybe : (x : MaybeExpr) (around : List ℕ) → ProperMaybe whole x → AllWritten (inner_maybe x around)
  in_maybe no_expr around p = none
  in_maybe (some_expr e) around p = in_expr e around p.1

  in_args : (x : MaybeArgs) (around : List ℕ) → ProperArgs whole x → AllWritten (inner_args x around)
  in_args no_args around p = none
  in_args (some_args es comma) around p = in_exprs es around p.1

  in_parts : (x : Parts) (around : List ℕ) → ProperParts whole x → AllWritten (inner_parts x around)
  in_parts no_parts around p = none
  in_parts (more_parts value behind rest) around p = both (in_expr value around p.0) (in_parts rest around p.1)

  in_items : (x : Items) (around : List ℕ) → ProperItems whole x → AllWritten (inner_items x around)
  in_items no_items around p = none
  in_items (more_items i is) around p = both (in_maybe i around p.0) (in_items is around p.1)

  in_operands : (x : Operands) (n : ℕ) (around : List ℕ) → ProperOperands whole n x → AllWritten (inner_operands x around)
  in_operands no_operands n around p = none
  in_operands (more_operands op is_word value rest) n around p = both (in_expr value around p.2) (in_operands rest n around p.3)

  in_tails : (x : Tails) (around : List ℕ) → ProperTails whole x → AllWritten (inner_tails x around)
  in_tails no_tails around p = none
  in_tails (more_tails t ts) around p = both (in_tail t around p.0) (in_tails ts around p.1)

  in_tail : (x : Tail) (around : List ℕ) → ProperTail whole x → AllWritten (inner_tail x around)
  in_tail (tree.Dot text) around p = none
  in_tail (tree.Index e) around p = in_expr e around p
  in_tail (tree.Call es comma) around p = in_exprs es around p.1

  in_key : (x : Key) (around : List ℕ) → ProperKey whole x → AllWritten (inner_key x around)
  in_key (tree.WordKey n) around p = none
  in_key (tree.StrKey n) around p = none
  in_key (tree.NumberKey at value) around p = none
  in_key (tree.ComputedKey e) around p = in_expr e around p.1

  in_prop : (x : Prop) (around : List ℕ) → ProperProp whole x → AllWritten (inner_prop x around)
  in_prop (tree.Short n) around p = none
  in_prop (tree.Pair key value) around p = both (in_key key around p.0) (in_expr value around p.2)
  in_prop (tree.Method key f) around p = both (in_key key around p.0) (one_nameless func.Method f around p.2 (nameless_form form.Method f p.1))
  in_prop (tree.Get key f) around p = both (in_key key around p.0) (one_nameless func.Getter f around p.2 (nameless_form form.Getter f p.1))
  in_prop (tree.Set key f) around p = both (in_key key around p.0) (one_nameless func.Setter f around p.2 (nameless_form form.Setter f p.1))

  in_props : (x : Props) (around : List ℕ) → ProperProps whole x → AllWritten (inner_props x around)
  in_props no_props around p = none
  in_props (more_props q qs) around p = both (in_prop q around p.0) (in_props qs around p.1)

in_option : (x : MaybeExpr) (around : List ℕ) → ProperOption whole x → AllWritten (inner_maybe x around)
in_option no_expr around p = none
in_option (some_expr e) around p = in_expr e around p

in_binds : (x : Binds) (around : List ℕ) → ProperBinds whole x → AllWritten (inner_binds x around)
in_binds no_binds around p = none
in_binds (more_binds name value bs) around p = both (in_maybe value around p.0) (in_binds bs around p.1)

in_init : (x : Init) (around : List ℕ) → ProperInit whole x → AllWritten (inner_init x around)
in_init tree.NoInit around p = none
in_init (tree.ValueInit e) around p = in_expr e around p.1
in_init (tree.BindsInit decl bs) around p = in_binds bs around p.2

in_each : (x : Each) (around : List ℕ) → ProperEach whole x → AllWritten (inner_each x around)
in_each (tree.TargetEach e) around p = in_expr e around p.1
in_each (tree.BindEach decl name) around p = none

mutual
  in_stmts : (x : Stmts) (returns : Bool) (next : ℕ) (around : List ℕ) → ProperStmts whole returns x → AllWritten (inner_stmts x next around)
  in_stmts no_stmts returns next around p = none
  in_stmts (more_stmts s ss) returns next around p = both (in_stmt s returns next around p.0) (in_stmts ss returns _ around p.1)

  in_else : (x : MaybeStmt) (returns : Bool) (next : ℕ) (around : List ℕ) → ProperElse whole returns x → AllWritten (inner_else x next around)
  in_else no_stmt returns next around p = none
  in_else (some_stmt s) returns next around p = in_stmt s returns next around p.1

  in_clauses : (x : Clauses) (returns : Bool) (next : ℕ) (around : List ℕ) → ProperClauses whole returns x → AllWritten (inner_clauses x next around)
  in_clauses no_clauses returns next around p = none
  in_clauses (more_clauses test items cs) returns next around p = both (both (in_option test around p.0) (in_stmts items returns next around p.1)) (in_clauses cs returns _ around p.2)

  in_stmt : (x : Stmt) (returns : Bool) (next : ℕ) (around : List ℕ) → ProperStmt whole returns x → AllWritten (inner_stmt x next around)
  in_stmt (tree.Block items) returns next around p = in_stmts items returns _ _ p
  in_stmt tree.Empty returns next around p = none
  in_stmt (tree.Debugger semi) returns next around p = none
  in_stmt (tree.Binding decl bs semi) returns next around p = in_binds bs around p.1
  in_stmt (tree.Value e semi) returns next around p = in_expr e around p.2
  in_stmt (tree.If test then_stmt else_stmt) returns next around p = both (both (in_expr test around p.0) (in_stmt then_stmt returns next around p.2)) (in_else else_stmt returns _ around p.4)
  in_stmt (tree.Do body test semi) returns next around p = both (in_stmt body returns next around p.1) (in_expr test around p.2)
  in_stmt (tree.While test body) returns next around p = both (in_expr test around p.0) (in_stmt body returns next around p.2)
  in_stmt (tree.For init test update body) returns next around p = both (both (both (in_init init _ p.0) (in_option test _ p.1)) (in_option update _ p.2)) (in_stmt body returns _ _ p.4)
  in_stmt (tree.ForIn each over body) returns next around p = both (both (in_each each _ p.0) (in_expr over _ p.1)) (in_stmt body returns _ _ p.3)
  in_stmt (tree.Continue at label semi) returns next around p = none
  in_stmt (tree.Break at label semi) returns next around p = none
  in_stmt (tree.Return value semi) returns next around p = in_option value around p.1
  in_stmt (tree.Throw e semi) returns next around p = in_expr e around p
  in_stmt (tree.Switch of cs) returns next around p = both (in_expr of around p.0) (in_clauses cs returns _ _ p.2)
  in_stmt (tree.Label name body) returns next around p = in_stmt body returns next around p.1
  in_stmt (tree.Try body param handler) returns next around p = both (in_stmts body returns _ _ p.0) (in_stmts handler returns _ _ p.1)
  in_stmt (tree.Declared f) returns next around p = one_named func.Declared f around p.1 (declared_form f p.0)

in_params : (x : Params) (around : List ℕ) → ProperParams whole x → AllWritten (inner_params x around)
in_params no_params around p = none
in_params (more_params name value rest ps) around p = both (in_maybe value around p.0) (in_params ps around p.1)

in_body : (initialized : Bool) (written : FuncForm) (x : Body) (next : ℕ) (around : List ℕ) → ProperBody whole written x → AllWritten (inner_body initialized x next around)
in_body initialized written (tree.ShortBody value) next around p = in_expr value around p.3
in_body initialized written (tree.BracedBody items) next around p = in_stmts items _ _ _ p

in_function : (kind : FuncKind) (name : Option Text) (f : Function) → ProperFunction whole f → AllWritten (inner_function kind name f)
in_function kind name (function written start end who ps comma bare body) p = both (in_params ps (params_around kind name) p.3) (in_body (has_initializer ps) written body _ (params_around kind name) p.4)

-- ---- of a script

nth : (is : List Inner) (k : ℕ) (d : Inner) → AllOf IsWritten is → k < length is → IsWritten (slice_index_or is k d)
nth [] k d h lt = absurd (omega arith)
nth (i ∷ is) zero d h lt = h.0
nth (i ∷ is) (suc k) d h lt = nth is k d h.1 (omega arith)

contained : (is : List Inner) (i : Inner) → AllWritten is → Contains is i → IsWritten i
contained is i h c = subst IsWritten c.2 (nth is c.0 i h.all c.1)

every : (items : Stmts) → ProperStmts whole false items → (i : Inner) → IsFunctionOf items i → IsWritten i
every items p i (directly i' c) = contained (inner_script items) i' (in_stmts items false 1 (0 ∷ []) p) c
every items p i (inside around i' o c) = contained (inner_function around.kind around.name around.func) i' (in_function around.kind around.name around.func (every items p around o).proper) c

pub written_as : (items : Stmts) → ProperStmts whole false items → (i : Inner) → IsFunctionOf items i → function_form i.func ≡ form_of i.kind
written_as items p i of = (every items p i of).written
