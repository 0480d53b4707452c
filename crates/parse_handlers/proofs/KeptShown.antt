-- A part over kept trees stands for one part of the model alone.
use Rattle.std.proofs.Common.{◌≡◌, ◌∙◌, ℕ, List, Option, Some, None, Result, Ok, Err, IfOk, map, option_map, unwrap_or, refl, ap, sym}
use Rattle.std.specs.declared.vec.Vec.{Vec}
use Rattle.std.specs.declared.alloc.Global.{Global}
use Rattle.script_grammar.specs.declared.tree.Expr.{Expr}
use Rattle.script_grammar.specs.declared.tree.Stmt.{Stmt}
use Rattle.script_grammar.specs.declared.node.NodeArgs.{NodeArgs}
use Rattle.script_grammar.specs.declared.node.NodeOperand.{NodeOperand}
use Rattle.script_grammar.specs.declared.node.NodeTemplatePart.{NodeTemplatePart}
use Rattle.script_grammar.specs.declared.node.NodeTail.{NodeTail}
use Rattle.script_grammar.specs.declared.node.NodeTail.TheVariants as tails
use Rattle.script_grammar.specs.declared.node.NodeKey.{NodeKey}
use Rattle.script_grammar.specs.declared.node.NodeKey.TheVariants as keys
use Rattle.script_grammar.specs.declared.node.NodeFuncBody.{NodeFuncBody}
use Rattle.script_grammar.specs.declared.node.NodeFuncBody.TheVariants as bodies
use Rattle.script_grammar.specs.declared.node.NodeParam.{NodeParam}
use Rattle.script_grammar.specs.declared.node.NodeFunc.{NodeFunc}
use Rattle.script_grammar.specs.declared.node.NodeBind.{NodeBind}
use Rattle.script_grammar.specs.declared.node.NodeInit.{NodeInit}
use Rattle.script_grammar.specs.declared.node.NodeInit.TheVariants as inits
use Rattle.script_grammar.specs.declared.node.NodeEach.{NodeEach}
use Rattle.script_grammar.specs.declared.node.NodeEach.TheVariants as eaches
use Rattle.script_grammar.specs.declared.node.NodeClause.{NodeClause}
use Rattle.script_grammar.specs.Interpretation.{Interpretation, text_of, named, maybe_named}
use Rattle.script_grammar.specs.TreeOf.{expr_of, stmt_of}
use Rattle.script_grammar.specs.Tree as model
use Rattle.script_grammar.specs.TreeLists as part
use Rattle.script_grammar.specs.TreeLists.{exprs_of, params_of, binds_of, stmts_of}
use Rattle.script_grammar.specs.Shows.{ShowAll, ShowMaybe, MaybeOf, ShowArgs, ShowOperand, ShowPart, ShowTail, ShowKey, FuncBodyOf, ShowParam, ShowFunc, ShowBind, ShowInit, ShowEach, ShowClause}
use Rattle.parse_handlers.specs.Kept.{IsExpr, IsStmt, IsBody, kept_args, kept_operand, kept_part, kept_tail, kept_key, kept_body, kept_param, kept_func, kept_bind, kept_init, kept_each, kept_clause}
use Rattle.parse_handlers.proofs.KeptLists.{map-shown}

-- what holds of a value holds of what follows from it
pub if_ok : {A E : Type 0} {P Q : A → Type 0} (r : Result A E) → ((a : A) → P a → Q a) → IfOk r P → IfOk r Q
if_ok (Ok a) f h = f a h
if_ok (Err e) f h = tt

pub exprs_shown : (i : Interpretation) (es : List Expr) (ts : List model.Expr) → ShowAll (IsExpr i) es ts → map (expr_of i) es ≡ ts
exprs_shown i = map-shown (IsExpr i) (expr_of i) (λ e t h. h)

pub stmts_shown : (i : Interpretation) (es : List Stmt) (ts : List model.Stmt) → ShowAll (IsStmt i) es ts → map (stmt_of i) es ≡ ts
stmts_shown i = map-shown (IsStmt i) (stmt_of i) (λ e t h. h)

-- an option of nodes
pub maybe_shown : {A C : Type 0} (R : A → C → Type 0) (k : A → C) → ((a : A) (c : C) → R a c → k a ≡ c) → (o : Option A) (t : Option C) → ShowMaybe R o t → option_map k o ≡ t
maybe_shown R k each None None h = refl
maybe_shown R k each None (Some c) h = absurd h
maybe_shown R k each (Some a) None h = absurd h
maybe_shown R k each (Some a) (Some c) h = ap Some (each a c h)

-- an option of an expression, inside a part that F makes of it
maybe_inside : {C : Type 0} (i : Interpretation) (F : Option model.Expr → C) (c : C) (o : Option Expr) → MaybeOf (IsExpr i) o (λ v. c ≡ F v) → F (option_map (expr_of i) o) ≡ c
maybe_inside i F c None h = sym h
maybe_inside i F c (Some e) h = ap (λ x. F (Some x)) h.1 ∙ sym h.2

pub args_shown : (i : Interpretation) (n : NodeArgs Expr) (a : part.Args) → ShowArgs (IsExpr i) n a → kept_args i n ≡ a
args_shown i n a h =
    let made : List model.Expr → part.Args = λ ts. record { items = ts; comma = n.comma } in
    ap made (exprs_shown i n.items.items h.0 h.1) ∙ sym h.2

pub operand_shown : (i : Interpretation) (n : NodeOperand Expr) (o : part.Operand) → ShowOperand (IsExpr i) n o → kept_operand i n ≡ o
operand_shown i n o h =
    let made : model.Expr → part.Operand = λ t. record { op = n.op; is_word = n.is_word; value = t } in
    ap made h.1 ∙ sym h.2

pub part_shown : (i : Interpretation) (n : NodeTemplatePart Expr) (p : part.Part) → ShowPart i (IsExpr i) n p → kept_part i n ≡ p
part_shown i n p h =
    let made : model.Expr → part.Part = λ t. record { value = t; behind = text_of i n.after } in
    ap made h.1 ∙ sym h.2

pub tail_shown : (i : Interpretation) (n : NodeTail Expr) (t : model.Tail) → ShowTail i (IsExpr i) n t → kept_tail i n ≡ t
tail_shown i (tails.Dot atom) t h = sym h
tail_shown i (tails.Index e) t h = ap model.Index h.1 ∙ sym h.2
tail_shown i (tails.Call n) t h = ap (λ ts. model.Call (exprs_of ts) n.comma) (exprs_shown i n.items.items h.0 h.1) ∙ sym h.2

pub key_shown : (i : Interpretation) (n : NodeKey Expr) (k : model.Key) → ShowKey i (IsExpr i) n k → kept_key i n ≡ k
key_shown i (keys.Word name) k h = sym h
key_shown i (keys.Str name) k h = sym h
key_shown i (keys.Number at value) k h = sym h
key_shown i (keys.Computed e) k h = ap model.ComputedKey h.1 ∙ sym h.2

body_inside : (i : Interpretation) (start : ℕ) (F : model.Body → model.Function) (f : model.Function) (n : NodeFuncBody Expr (Vec Stmt Global)) → FuncBodyOf i (IsExpr i) (IsBody i) start n (λ b. f ≡ F b) → F (unwrap_or (kept_body i n) (model.BracedBody (i.bodies start))) ≡ f
body_inside i start F f (bodies.Braced ss) h = ap (λ x. F (model.BracedBody x)) h.1 ∙ sym h.2
body_inside i start F f (bodies.Short e) h = ap (λ x. F (model.ShortBody x)) h.1 ∙ sym h.2
body_inside i start F f (bodies.Passed) h = sym h

pub param_shown : (i : Interpretation) (n : NodeParam Expr) (p : part.Param) → ShowParam i (IsExpr i) n p → kept_param i n ≡ p
param_shown i n p h =
    let made : Option model.Expr → part.Param = λ v. record { name = named i n.name; value = v; rest = n.rest } in
    maybe_inside i made p n.value h

pub func_shown : (i : Interpretation) (n : NodeFunc Expr (Vec Stmt Global)) (f : model.Function) → ShowFunc i (IsExpr i) (IsBody i) n f → kept_func i n ≡ f
func_shown i n f h =
    let body = unwrap_or (kept_body i n.body) (model.BracedBody (i.bodies n.start)) in
    ap (λ ps. model.function n.form n.start n.end (maybe_named i n.name) (params_of ps) n.comma n.bare body) (map-shown (ShowParam i (IsExpr i)) (kept_param i) (param_shown i) n.params.items h.0 h.1)
    ∙ body_inside i n.start (λ b. model.function n.form n.start n.end (maybe_named i n.name) (params_of h.0) n.comma n.bare b) f n.body h.2

pub bind_shown : (i : Interpretation) (n : NodeBind Expr) (b : part.Bind) → ShowBind i (IsExpr i) n b → kept_bind i n ≡ b
bind_shown i n b h =
    let made : Option model.Expr → part.Bind = λ v. record { name = named i n.name; value = v } in
    maybe_inside i made b n.value h

pub init_shown : (i : Interpretation) (n : NodeInit Expr) (t : model.Init) → ShowInit i (IsExpr i) n t → kept_init i n ≡ t
init_shown i (inits.Nothing) t h = sym h
init_shown i (inits.Value e) t h = ap model.ValueInit h.1 ∙ sym h.2
init_shown i (inits.Binds decl ns) t h = ap (λ bs. model.BindsInit decl (binds_of bs)) (map-shown (ShowBind i (IsExpr i)) (kept_bind i) (bind_shown i) ns.items h.0 h.1) ∙ sym h.2

pub each_shown : (i : Interpretation) (n : NodeEach Expr) (t : model.Each) → ShowEach i (IsExpr i) n t → kept_each i n ≡ t
each_shown i (eaches.Target e) t h = ap model.TargetEach h.1 ∙ sym h.2
each_shown i (eaches.Bind decl name) t h = sym h

clause_inside : (i : Interpretation) (c : part.Clause) (ns : List Stmt) (o : Option Expr)
    → MaybeOf (IsExpr i) o (λ t. (ss : List model.Stmt) × ShowAll (IsStmt i) ns ss × (c ≡ record { test = t; items = ss }))
    → ◌≡◌ {A = part.Clause} (record { test = option_map (expr_of i) o; items = map (stmt_of i) ns }) c
clause_inside i c ns None h =
    let made : List model.Stmt → part.Clause = λ ss. record { test = None; items = ss } in
    ap made (stmts_shown i ns h.0 h.1) ∙ sym h.2
clause_inside i c ns (Some e) h =
    let with_test : model.Expr → part.Clause = λ t. record { test = Some t; items = map (stmt_of i) ns } in
    let with_items : List model.Stmt → part.Clause = λ ss. record { test = Some h.0; items = ss } in
    ap with_test h.1 ∙ ap with_items (stmts_shown i ns h.2.0 h.2.1) ∙ sym h.2.2

pub clause_shown : (i : Interpretation) (n : NodeClause Expr Stmt) (c : part.Clause) → ShowClause (IsExpr i) (IsStmt i) n c → kept_clause i n ≡ c
clause_shown i n c h = clause_inside i c n.items.items n.test h
