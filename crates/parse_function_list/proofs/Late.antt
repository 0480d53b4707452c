-- The errors of rule 14 in a part of a tree are those of the functions directly in it and of those inside them.
use Rattle.std.proofs.Common.{◌≡◌, ◌∙◌, ℕ, Option, List, [], ◌∷◌, ◌++◌, append_assoc, append-nil, refl, sym, ap}
use Rattle.stencil_data.specs.declared.functions.FuncKind.{FuncKind}
use Rattle.script_grammar.specs.Tree.{Expr, Exprs, no_exprs, more_exprs, MaybeExpr, no_expr, some_expr, MaybeArgs, no_args, some_args, Parts, no_parts, more_parts, Items, no_items, more_items, Operands, no_operands, more_operands, Tail, Tails, no_tails, more_tails, Key, Prop, Props, no_props, more_props, Function, function, Params, no_params, more_params, BracedBody, ShortBody, Binds, no_binds, more_binds, Init, Each, Clauses, no_clauses, more_clauses, Stmt, Stmts, no_stmts, more_stmts, MaybeStmt, no_stmt, some_stmt}
use Rattle.script_grammar.specs.Tree as tree
use Rattle.parse_track.specs.declared.region.Early.{Early}
use Rattle.scope_analysis.specs.DeclaredNames.{Text}
use Rattle.scope_analysis.specs.Functions.{Inner, inner_expr, inner_exprs, inner_maybe, inner_args, inner_parts, inner_items, inner_operands, inner_tails, inner_tail, inner_key, inner_prop, inner_props, inner_binds, inner_init, inner_each, inner_stmt, inner_stmts, inner_else, inner_clauses, inner_params}
use Rattle.early_apart_laws.specs.Late.{late, late_exprs, late_maybe, late_args, late_parts, late_items, late_operands, late_tails, late_tail, late_key, late_prop, late_props, late_function, late_params, late_binds, late_init, late_each, late_clauses, late_stmt, late_stmts, late_else}
use Rattle.parse_function_list.specs.Listing.{late_in}

-- These errors are those of these functions.
pub record Late (errors : List Early) (fs : List Inner) : Type 0 where
  pub are : errors ≡ late_in fs

pub late_in-append : (fs gs : List Inner) → late_in (fs ++ gs) ≡ late_in fs ++ late_in gs
late_in-append [] gs = refl
late_in-append (f ∷ fs) gs = ap (λ (errors : List Early). late_function f.func ++ errors) (late_in-append fs gs) ∙ sym (append_assoc (late_function f.func) (late_in fs) (late_in gs))

none : Late [] []
none = record { are = refl }

pub both : {a b : List Early} {fs gs : List Inner} → Late a fs → Late b gs → Late (a ++ b) (fs ++ gs)
both {a = a} {b = b} {fs = fs} {gs = gs} p q = record {
  are = ap (λ (errors : List Early). errors ++ b) p.are ∙ (ap (λ (errors : List Early). late_in fs ++ errors) q.are ∙ sym (late_in-append fs gs));
}

three : {a b c : List Early} {fs gs hs : List Inner} → Late a fs → Late b gs → Late c hs → Late (a ++ (b ++ c)) (fs ++ gs ++ hs)
three {a = a} {b = b} {c = c} p q r = record { are = sym (append_assoc a b c) ∙ (both (both p q) r).are }

four : {a b c d : List Early} {fs gs hs is : List Inner} → Late a fs → Late b gs → Late c hs → Late d is → Late (a ++ (b ++ (c ++ d))) (fs ++ gs ++ hs ++ is)
four {a = a} {b = b} {c = c} {d = d} p q r s = record { are = sym (append_assoc a b (c ++ d)) ∙ (sym (append_assoc (a ++ b) c d) ∙ (both (both (both p q) r) s).are) }

-- one function
one : (f : Function) (kind : FuncKind) (name : Option Text) (around : List ℕ) → Late (late_function f) (record { func = f; kind = kind; name = name; around = around } ∷ [])
one f kind name around = record { are = sym (append-nil (late_function f)) }

mutual
  pub in_expr : (x : Expr) (around : List ℕ) → Late (late x) (inner_expr x around)
  in_expr (tree.This at) around = none
  in_expr (tree.Name name) around = none
  in_expr (tree.Null at) around = none
  in_expr (tree.True at) around = none
  in_expr (tree.False at) around = none
  in_expr (tree.Number at value) around = none
  in_expr (tree.Str at end text) around = none
  in_expr (tree.Template at first parts) around = in_parts parts around
  in_expr (tree.Array at items comma) around = in_items items around
  in_expr (tree.Object at props comma) around = in_props props around
  in_expr (tree.Func at f) around = one f _ _ _
  in_expr (tree.Paren at value) around = in_expr value around
  in_expr (tree.Chain head tails) around = both (in_expr head around) (in_tails tails around)
  in_expr (tree.New at callee args) around = both (in_expr callee around) (in_args args around)
  in_expr (tree.Unary at op operand is_word) around = in_expr operand around
  in_expr (tree.Update at op prefix operand) around = in_expr operand around
  in_expr (tree.Binary first rest) around = both (in_expr first around) (in_operands rest around)
  in_expr (tree.Cond test then_value else_value) around = three (in_expr test around) (in_expr then_value around) (in_expr else_value around)
  in_expr (tree.Assign op target value) around = both (in_expr target around) (in_expr value around)
  in_expr (tree.Comma items) around = in_exprs items around

  in_exprs : (x : Exprs) (around : List ℕ) → Late (late_exprs x) (inner_exprs x around)
  in_exprs no_exprs around = none
  in_exprs (more_exprs e rest) around = both (in_expr e around) (in_exprs rest around)

  in_maybe : (x : MaybeExpr) (around : List ℕ) → Late (late_maybe x) (inner_maybe x around)
  in_maybe no_expr around = none
  in_maybe (some_expr e) around = in_expr e around

  in_args : (x : MaybeArgs) (around : List ℕ) → Late (late_args x) (inner_args x around)
  in_args no_args around = none
  in_args (some_args items comma) around = in_exprs items around

  in_parts : (x : Parts) (around : List ℕ) → Late (late_parts x) (inner_parts x around)
  in_parts no_parts around = none
  in_parts (more_parts value behind rest) around = both (in_expr value around) (in_parts rest around)

  in_items : (x : Items) (around : List ℕ) → Late (late_items x) (inner_items x around)
  in_items no_items around = none
  in_items (more_items item rest) around = both (in_maybe item around) (in_items rest around)

  in_operands : (x : Operands) (around : List ℕ) → Late (late_operands x) (inner_operands x around)
  in_operands no_operands around = none
  in_operands (more_operands op is_word value rest) around = both (in_expr value around) (in_operands rest around)

  in_tails : (x : Tails) (around : List ℕ) → Late (late_tails x) (inner_tails x around)
  in_tails no_tails around = none
  in_tails (more_tails tail rest) around = both (in_tail tail around) (in_tails rest around)

  in_tail : (x : Tail) (around : List ℕ) → Late (late_tail x) (inner_tail x around)
  in_tail (tree.Dot text) around = none
  in_tail (tree.Index e) around = in_expr e around
  in_tail (tree.Call items comma) around = in_exprs items around

  in_key : (x : Key) (around : List ℕ) → Late (late_key x) (inner_key x around)
  in_key (tree.WordKey name) around = none
  in_key (tree.StrKey name) around = none
  in_key (tree.NumberKey at value) around = none
  in_key (tree.ComputedKey e) around = in_expr e around

  in_prop : (x : Prop) (around : List ℕ) → Late (late_prop x) (inner_prop x around)
  in_prop (tree.Short name) around = none
  in_prop (tree.Pair key value) around = both (in_key key around) (in_expr value around)
  in_prop (tree.Method key f) around = both (in_key key around) (one f _ _ _)
  in_prop (tree.Get key f) around = both (in_key key around) (one f _ _ _)
  in_prop (tree.Set key f) around = both (in_key key around) (one f _ _ _)

  in_props : (x : Props) (around : List ℕ) → Late (late_props x) (inner_props x around)
  in_props no_props around = none
  in_props (more_props prop rest) around = both (in_prop prop around) (in_props rest around)

pub in_params : (x : Params) (around : List ℕ) → Late (late_params x) (inner_params x around)
in_params no_params around = none
in_params (more_params name value rest more) around = both (in_maybe value around) (in_params more around)

in_binds : (x : Binds) (around : List ℕ) → Late (late_binds x) (inner_binds x around)
in_binds no_binds around = none
in_binds (more_binds name value rest) around = both (in_maybe value around) (in_binds rest around)

in_init : (x : Init) (around : List ℕ) → Late (late_init x) (inner_init x around)
in_init tree.NoInit around = none
in_init (tree.ValueInit e) around = in_expr e around
in_init (tree.BindsInit decl binds) around = in_binds binds around

in_each : (x : Each) (around : List ℕ) → Late (late_each x) (inner_each x around)
in_each (tree.TargetEach e) around = in_expr e around
in_each (tree.BindEach decl name) around = none

mutual
  in_clauses : (x : Clauses) (next : ℕ) (around : List ℕ) → Late (late_clauses x) (inner_clauses x next around)
  in_clauses no_clauses next around = none
  in_clauses (more_clauses test items rest) next around = three (in_maybe test around) (in_stmts items next around) (in_clauses rest _ around)

  in_stmt : (x : Stmt) (next : ℕ) (around : List ℕ) → Late (late_stmt x) (inner_stmt x next around)
  in_stmt (tree.Block items) next around = in_stmts items _ _
  in_stmt tree.Empty next around = none
  in_stmt (tree.Debugger semi) next around = none
  in_stmt (tree.Binding decl binds semi) next around = in_binds binds around
  in_stmt (tree.Value e semi) next around = in_expr e around
  in_stmt (tree.If test then_stmt else_stmt) next around = three (in_expr test around) (in_stmt then_stmt next around) (in_else else_stmt _ around)
  in_stmt (tree.Do body test semi) next around = both (in_stmt body next around) (in_expr test around)
  in_stmt (tree.While test body) next around = both (in_expr test around) (in_stmt body next around)
  in_stmt (tree.For init test update body) next around = four (in_init init _) (in_maybe test _) (in_maybe update _) (in_stmt body _ _)
  in_stmt (tree.ForIn each over body) next around = three (in_each each _) (in_expr over _) (in_stmt body _ _)
  in_stmt (tree.Continue at label semi) next around = none
  in_stmt (tree.Break at label semi) next around = none
  in_stmt (tree.Return value semi) next around = in_maybe value around
  in_stmt (tree.Throw e semi) next around = in_expr e around
  in_stmt (tree.Switch e clauses) next around = both (in_expr e around) (in_clauses clauses _ _)
  in_stmt (tree.Label name body) next around = in_stmt body next around
  in_stmt (tree.Try body param handler) next around = both (in_stmts body _ _) (in_stmts handler _ _)
  in_stmt (tree.Declared f) next around = one f _ _ _

  pub in_stmts : (x : Stmts) (next : ℕ) (around : List ℕ) → Late (late_stmts x) (inner_stmts x next around)
  in_stmts no_stmts next around = none
  in_stmts (more_stmts s rest) next around = both (in_stmt s next around) (in_stmts rest _ around)

  in_else : (x : MaybeStmt) (next : ℕ) (around : List ℕ) → Late (late_else x) (inner_else x next around)
  in_else no_stmt next around = none
  in_else (some_stmt s) next around = in_stmt s next around
