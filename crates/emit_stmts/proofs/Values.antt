-- Values, names that are bound and functions that are declared, put together from what was appended.
use Rattle.std.proofs.Common.{◌≡◌, ℕ, List, [], ◌∷◌, ◌++◌, Option, Some, None, map, option_map, unwrap_or, refl, sym, ◌∙◌, ap, subst}
use Rattle.std.specs.declared.vec.Vec.{Vec}
use Rattle.std.specs.declared.alloc.Global.{Global}
use Rattle.script_grammar.specs.declared.token.Decl.{Decl}
use Rattle.script_grammar.specs.declared.tree.Bind.{Bind}
use Rattle.script_grammar.specs.declared.tree.Clause.{Clause}
use Rattle.script_grammar.specs.declared.tree.Expr.{Expr}
use Rattle.script_grammar.specs.declared.tree.Func.{Func, out-Func}
use Rattle.script_grammar.specs.declared.tree.Ident.{Ident}
use Rattle.script_grammar.specs.declared.tree.Init.{Init}
use Rattle.script_grammar.specs.declared.tree.Init.TheVariants as in_init
use Rattle.script_grammar.specs.declared.tree.Stmt.{Stmt}
use Rattle.script_grammar.specs.Interpretation.{Interpretation, maybe_named}
use Rattle.script_grammar.specs.Tree.{Named, Stmts, more_binds, Function, function}
use Rattle.script_grammar.specs.Tree as model
use Rattle.script_grammar.specs.TreeLists as part
use Rattle.script_grammar.specs.TreeLists.{maybe_expr_of, params_of, binds_of, stmts_of, clauses_of}
use Rattle.script_grammar.specs.TreeOf.{expr_of, bind_of, body_of, clause_of, func_of, init_of, param_of, stmt_of}
use Rattle.script_grammar.proofs.PartEquations.{bind_of-fields, clause_of-fields, func_of-fields}
use Rattle.script_grammar.proofs.StmtEquations as equation
use Rattle.scope_analysis.specs.DeclaredNames.{function_name}
use Rattle.bytecode_buf.specs.declared.opcode.Op.TheVariants as op
use Rattle.bytecode_buf.specs.Pieces.{Code}
use Rattle.bytecode_buf.proofs.AppendLemmas.{emits_none}
use Rattle.emit_exprs.specs.declared.site.Site.{Site}
use Rattle.emit_exprs.specs.declared.uses.Use.TheVariants.{Plainly}
use Rattle.emit_exprs.specs.Exprs.{Scene, basing, writing, lambda_at}
use Rattle.emit_exprs.specs.Sites.{EmitsAt, scene_of, text_in}
use Rattle.emit_exprs.specs.TreeCode.{at_site, Written, ExprEmits}
use Rattle.emit_exprs.specs.Whole.{just}
use Rattle.emit_exprs.proofs.Writing.{written_of, written_both, written_as, Left, left_begin, left_step, left_end}
use Rattle.emit_stmts.specs.StmtFits.{BindsFit, InitFits}
use Rattle.emit_stmts.specs.Stmts.{initializing, value_or_undefined, update_code, binds_code, init_code, declaring, assigning_function, declared_in, block_functions, clause_functions}
use Rattle.emit_stmts.specs.ValueCode.{named_in, declared_by, var_of, lexical_of, bind_of_decl, ValueEmits, BindsEmit, InitEmits, FunctionEmits, StmtFunctionEmits, BlockFunctionsEmit, ClauseFunctionsEmit}

-- ---- values that may be left out

pub value_some : {s : Site} {old new : List ℕ} {e : Expr} → ExprEmits s old new Plainly e → ValueEmits s old new (Some e) value_or_undefined
value_some x = record { made = written_as (λ b f. f) (λ b f. refl) x.row.code }

pub value_none : {s : Site} {old new : List ℕ} → EmitsAt s old new (just op.Undefined) → ValueEmits s old new None value_or_undefined
value_none x = record { made = written_as (λ b f. tt) (λ b f. refl) (written_of x) }

pub update_some : {s : Site} {a b c : List ℕ} {e : Expr} → ExprEmits s a b Plainly e → EmitsAt s b c (just op.Pop) → ValueEmits s a c (Some e) update_code
update_some x y = record { made = written_as (λ b f. (f, tt)) (λ b f. refl) (written_both x.row.code (written_of y)) }

pub update_none : (s : Site) (now : List ℕ) → ValueEmits s now now None update_code
update_none s now = record { made = written_as (λ b f. tt) (λ b f. refl) (written_of (emits_none s.texts.now now)) }

pub var_some : {s : Site} {a b c d e : List ℕ} {value : Expr} (name : Ident) → EmitsAt s a b (basing (scene_of s) (text_in s name.atom)) → ExprEmits s b c Plainly value → EmitsAt s c d (writing (scene_of s) (text_in s name.atom)) → EmitsAt s d e (just op.Pop) → ValueEmits s a e (Some value) (var_of (named_in s name))
var_some name x y z u = record { made = written_as (λ b f. (((tt, f), tt), tt)) (λ b f. refl) (written_both (written_both (written_both (written_of x) y.row.code) (written_of z)) (written_of u)) }

pub var_none : (s : Site) (now : List ℕ) (name : Ident) → ValueEmits s now now None (var_of (named_in s name))
var_none s now name = record { made = written_as (λ b f. tt) (λ b f. refl) (written_of (emits_none s.texts.now now)) }

pub lexical_value : {s : Site} {a b c d : List ℕ} (value : Option Expr) (name : Ident) → ValueEmits s a b value value_or_undefined → EmitsAt s b c (initializing (scene_of s) (text_in s name.atom)) → EmitsAt s c d (just op.Pop) → ValueEmits s a d value (lexical_of (named_in s name))
lexical_value value name x y z = record { made = written_as (λ b f. ((f, tt), tt)) (λ b f. refl) (written_both (written_both x.made (written_of y)) (written_of z)) }

-- ---- names, one after the other

pub record BindsLeft (s : Site) (start now : List ℕ) (kind : Decl) (all left : List Bind) : Type 0 where
  pub loop : Left s start now (λ b. BindsFit (binds_of (map (bind_of (at_site s b)) all))) (λ b. BindsFit (binds_of (map (bind_of (at_site s b)) left))) (λ b. binds_code (scene_of s) kind (binds_of (map (bind_of (at_site s b)) all))) (λ b. binds_code (scene_of s) kind (binds_of (map (bind_of (at_site s b)) left)))

pub binds_begin : (s : Site) (now : List ℕ) (kind : Decl) (all : List Bind) → BindsLeft s now now kind all all
binds_begin s now kind all = record { loop = left_begin s now _ _ }

pub binds_next : {s : Site} {start now next : List ℕ} {kind : Decl} {all : List Bind} (left further : List Bind) (x : Bind) → left ≡ x ∷ further → ValueEmits s now next x.value (bind_of_decl kind (named_in s x.name)) → BindsLeft s start now kind all left → BindsLeft s start next kind all further
binds_next {s} {kind = kind} left further x is y l = record { loop = left_step y.made (λ b f. (subst BindsFit (same b) f).0) (λ b f. (subst BindsFit (same b) f).1) (λ b f. ap (binds_code (scene_of s) kind) (same b)) l.loop }
  where
    same : (b : ℕ → Stmts) → binds_of (map (bind_of (at_site s b)) left) ≡ more_binds (named_in s x.name) (maybe_expr_of (option_map (expr_of (at_site s b)) x.value)) (binds_of (map (bind_of (at_site s b)) further))
    same b =
        ap (λ (xs : List Bind). binds_of (map (bind_of (at_site s b)) xs)) is
        ∙ ap (λ (q : part.Bind). more_binds q.name (maybe_expr_of q.value) (binds_of (map (bind_of (at_site s b)) further))) (bind_of-fields (at_site s b) x)

pub binds_end : {s : Site} {start now : List ℕ} {kind : Decl} {all : List Bind} (left : List Bind) → left ≡ [] → BindsLeft s start now kind all left → BindsEmit s start now kind all
binds_end {s} {kind = kind} left none l = record { made = left_end (λ b. ap (λ (xs : List Bind). binds_code (scene_of s) kind (binds_of (map (bind_of (at_site s b)) xs))) none) l.loop }

-- ---- heads of loops

pub init_at : {s : Site} {old new : List ℕ} {f : (ℕ → Stmts) → Type 0} (i : Init) (m : (ℕ → Stmts) → model.Init) → ((b : ℕ → Stmts) → init_of (at_site s b) i ≡ m b) → ((b : ℕ → Stmts) → InitFits (m b) → f b) → Written s old new f (λ b. init_code (scene_of s) (m b)) → InitEmits s old new i
init_at {s} i m same fit x = record { made = written_as (λ b f. fit b (subst InitFits (same b) f)) (λ b f. ap (init_code (scene_of s)) (sym (same b))) x }

pub init_nothing : (s : Site) (now : List ℕ) (i : Init) → i ≡ in_init.Nothing → InitEmits s now now i
init_nothing s now i is = init_at i (λ b. model.NoInit) (λ b. ap (init_of (at_site s b)) is ∙ equation.init_of-Nothing (at_site s b)) (λ b f. tt) (written_of (emits_none s.texts.now now))

pub init_value : {s : Site} {a b c : List ℕ} (i : Init) (e : Expr) → i ≡ in_init.Value e → ExprEmits s a b Plainly e → EmitsAt s b c (just op.Pop) → InitEmits s a c i
init_value {s} i e is x y = init_at i (λ b. model.ValueInit (expr_of (at_site s b) e)) (λ b. ap (init_of (at_site s b)) is ∙ equation.init_of-Value (at_site s b) e) (λ b f. (f, tt)) (written_both x.row.code (written_of y))

pub init_binds : {s : Site} {old new : List ℕ} (i : Init) (kind : Decl) (binds : Vec Bind Global) (xs : List Bind) → i ≡ in_init.Binds kind binds → xs ≡ binds.items → BindsEmit s old new kind xs → InitEmits s old new i
init_binds {s} i kind binds xs is xs_is x = init_at i (λ b. model.BindsInit kind (binds_of (map (bind_of (at_site s b)) xs)))
    (λ b. ap (init_of (at_site s b)) is ∙ (equation.init_of-Binds (at_site s b) kind binds ∙ ap (λ (l : List Bind). model.BindsInit kind (binds_of (map (bind_of (at_site s b)) l))) (sym xs_is))) (λ b f. f) x.made

-- ---- functions

abbrev fields : Interpretation → Func → Function
fields i f = function (out-Func f).form (out-Func f).start (out-Func f).end (maybe_named i (out-Func f).name) (params_of (map (param_of i) (out-Func f).params.items)) (out-Func f).comma (out-Func f).bare (unwrap_or (body_of i (out-Func f).body) (model.BracedBody (i.bodies (out-Func f).start)))

-- the code of a function and its name, by the fields of the code's own
by_name : (code : Function → Option Named → Code) (i : Interpretation) (f : Func) (name : Option Ident) → (out-Func f).name ≡ name → code (func_of i f) (function_name (func_of i f)) ≡ code (fields i f) (maybe_named i name)
by_name code i f name is = ap (λ (g : Function). code g (function_name g)) (func_of-fields i f) ∙ ap (λ (n : Option Ident). code (fields i f) (maybe_named i n)) is

pub declaring_some : {s : Site} {a b c d : List ℕ} (f : Func) (name : Ident) (start : ℕ) → (out-Func f).name ≡ Some name → start ≡ (out-Func f).start
    → EmitsAt s a b (lambda_at (scene_of s) start) → EmitsAt s b c (initializing (scene_of s) (text_in s name.atom)) → EmitsAt s c d (just op.Pop) → FunctionEmits s a d f declaring
declaring_some {s} f name start name_is start_is x y z = record {
  made = written_as (λ b t. ((tt, tt), tt))
      (λ b t. ap (λ (n : ℕ). lambda_at (scene_of s) n ++ initializing (scene_of s) (text_in s name.atom) ++ just op.Pop) start_is ∙ sym (by_name (declaring (scene_of s)) (at_site s b) f (Some name) name_is))
      (written_both (written_both (written_of x) (written_of y)) (written_of z));
}

pub declaring_none : (s : Site) (now : List ℕ) (f : Func) → (out-Func f).name ≡ None → FunctionEmits s now now f declaring
declaring_none s now f none = record { made = written_as (λ b t. tt) (λ b t. sym (by_name (declaring (scene_of s)) (at_site s b) f None none)) (written_of (emits_none s.texts.now now)) }

pub assigning_some : {s : Site} {a b c d : List ℕ} (f : Func) (name : Ident) (start : ℕ) → (out-Func f).name ≡ Some name → start ≡ (out-Func f).start
    → EmitsAt s a b (lambda_at (scene_of s) start) → EmitsAt s b c (writing (scene_of s) (text_in s name.atom)) → EmitsAt s c d (just op.Pop) → FunctionEmits s a d f assigning_function
assigning_some {s} f name start name_is start_is x y z = record {
  made = written_as (λ b t. ((tt, tt), tt))
      (λ b t. ap (λ (n : ℕ). lambda_at (scene_of s) n ++ writing (scene_of s) (text_in s name.atom) ++ just op.Pop) start_is ∙ sym (by_name (assigning_function (scene_of s)) (at_site s b) f (Some name) name_is))
      (written_both (written_both (written_of x) (written_of y)) (written_of z));
}

pub assigning_none : (s : Site) (now : List ℕ) (f : Func) → (out-Func f).name ≡ None → FunctionEmits s now now f assigning_function
assigning_none s now f none = record { made = written_as (λ b t. tt) (λ b t. sym (by_name (assigning_function (scene_of s)) (at_site s b) f None none)) (written_of (emits_none s.texts.now now)) }

-- the code of what a statement declares
pub declared_made : {s : Site} {old new : List ℕ} (stmt : Stmt) (f : Func) → ((i : Interpretation) (c : Scene) → declared_in c (stmt_of i stmt) ≡ declared_by c i (Some f)) → FunctionEmits s old new f declaring → StmtFunctionEmits s old new stmt
declared_made {s} stmt f is x = record { made = written_as (λ b t. tt) (λ b t. sym (is (at_site s b) (scene_of s))) x.made }

pub declared_none : (s : Site) (now : List ℕ) (stmt : Stmt) → ((i : Interpretation) (c : Scene) → declared_in c (stmt_of i stmt) ≡ []) → StmtFunctionEmits s now now stmt
declared_none s now stmt none = record { made = written_as (λ b t. tt) (λ b t. sym (none (at_site s b) (scene_of s))) (written_of (emits_none s.texts.now now)) }

-- ---- functions of a block, one after the other

pub record BlockLeft (s : Site) (start now : List ℕ) (all left : List Stmt) : Type 0 where
  pub loop : Left s start now (λ b. Unit {0}) (λ b. Unit {0}) (λ b. block_functions (scene_of s) (stmts_of (map (stmt_of (at_site s b)) all))) (λ b. block_functions (scene_of s) (stmts_of (map (stmt_of (at_site s b)) left)))

pub block_begin : (s : Site) (now : List ℕ) (all : List Stmt) → BlockLeft s now now all all
block_begin s now all = record { loop = left_begin s now _ _ }

pub block_next : {s : Site} {start now next : List ℕ} {all : List Stmt} (left further : List Stmt) (x : Stmt) → left ≡ x ∷ further → StmtFunctionEmits s now next x → BlockLeft s start now all left → BlockLeft s start next all further
block_next {s} left further x is y l = record { loop = left_step y.made (λ b f. tt) (λ b f. tt) (λ b f. ap (λ (xs : List Stmt). block_functions (scene_of s) (stmts_of (map (stmt_of (at_site s b)) xs))) is) l.loop }

pub block_end : {s : Site} {start now : List ℕ} {all : List Stmt} (left : List Stmt) → left ≡ [] → BlockLeft s start now all left → BlockFunctionsEmit s start now all
block_end {s} left none l = record { made = left_end (λ b. ap (λ (xs : List Stmt). block_functions (scene_of s) (stmts_of (map (stmt_of (at_site s b)) xs))) none) l.loop }

-- ---- functions of clauses, one after the other

pub record ClausesLeft (s : Site) (start now : List ℕ) (all left : List Clause) : Type 0 where
  pub loop : Left s start now (λ b. Unit {0}) (λ b. Unit {0}) (λ b. clause_functions (scene_of s) (clauses_of (map (clause_of (at_site s b)) all))) (λ b. clause_functions (scene_of s) (clauses_of (map (clause_of (at_site s b)) left)))

pub clauses_begin : (s : Site) (now : List ℕ) (all : List Clause) → ClausesLeft s now now all all
clauses_begin s now all = record { loop = left_begin s now _ _ }

pub clauses_next : {s : Site} {start now next : List ℕ} {all : List Clause} (left further : List Clause) (x : Clause) (items : List Stmt) → left ≡ x ∷ further → items ≡ x.items.items → BlockFunctionsEmit s now next items → ClausesLeft s start now all left → ClausesLeft s start next all further
clauses_next {s} left further x items is items_is y l = record { loop = left_step y.made (λ b f. tt) (λ b f. tt) (λ b f. same b) l.loop }
  where
    same : (b : ℕ → Stmts) → clause_functions (scene_of s) (clauses_of (map (clause_of (at_site s b)) left)) ≡ block_functions (scene_of s) (stmts_of (map (stmt_of (at_site s b)) items)) ++ clause_functions (scene_of s) (clauses_of (map (clause_of (at_site s b)) further))
    same b =
        ap (λ (xs : List Clause). clause_functions (scene_of s) (clauses_of (map (clause_of (at_site s b)) xs))) is
        ∙ (ap (λ (q : part.Clause). block_functions (scene_of s) (stmts_of q.items) ++ clause_functions (scene_of s) (clauses_of (map (clause_of (at_site s b)) further))) (clause_of-fields (at_site s b) x)
        ∙ ap (λ (xs : List Stmt). block_functions (scene_of s) (stmts_of (map (stmt_of (at_site s b)) xs)) ++ clause_functions (scene_of s) (clauses_of (map (clause_of (at_site s b)) further))) (sym items_is))

pub clauses_end : {s : Site} {start now : List ℕ} {all : List Clause} (left : List Clause) → left ≡ [] → ClausesLeft s start now all left → ClauseFunctionsEmit s start now all
clauses_end {s} left none l = record { made = left_end (λ b. ap (λ (xs : List Clause). clause_functions (scene_of s) (clauses_of (map (clause_of (at_site s b)) xs))) none) l.loop }
