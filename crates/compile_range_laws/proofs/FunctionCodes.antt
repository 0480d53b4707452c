-- The code of a function, and of a script, makes no other functions than those directly in it, and has a try note for each try
-- statement.
use Rattle.std.proofs.Common.{ℕ, ◌+◌, Bool, true, false, List, [], ◌∷◌, Option}
use Rattle.script_grammar.specs.Tree.{Named, MaybeExpr, no_expr, some_expr, Function, function, Params, no_params, more_params, Body, BracedBody, ShortBody, Stmt, Stmts, no_stmts, more_stmts, Declared}
use Rattle.stencil_data.specs.declared.chains.LinkName.{LinkName}
use Rattle.stencil_data.specs.declared.functions.FuncKind.{FuncKind}
use Rattle.stencil_data.specs.declared.scopes.BindKind.{BindKind}
use Rattle.stencil_data.specs.declared.scopes.BindKind.TheVariants as bind
use Rattle.stencil_data.specs.LinkView.{LinkView}
use Rattle.stencil_data.specs.Named.{NamedScope}
use Rattle.stencil_data.specs.Resolve.{resolve_beyond, environments_of}
use Rattle.scope_analysis.specs.DeclaredNames.{Text, has_text, Declaration, function_name, top_lexical_names, param_names, has_initializer}
use Rattle.scope_analysis.specs.Scopes.{scope_count, count_stmt, callee_names, body_var_names, function_scopes}
use Rattle.scope_analysis.specs.Functions.{inner_maybe, inner_stmt, inner_stmts, inner_params, inner_body, enclosed, params_around, inner_function, inner_script}
use Rattle.bytecode_buf.specs.declared.opcode.Op.TheVariants as op
use Rattle.bytecode_buf.specs.declared.waits.Aim.TheVariants as aim
use Rattle.bytecode_buf.specs.Command.{plain, counted}
use Rattle.emit_exprs.specs.declared.uses.Use.TheVariants.{Plainly}
use Rattle.emit_exprs.specs.Exprs.{Scene}
use Rattle.emit_exprs.specs.Names.{read}
use Rattle.emit_stmts.specs.Frames.{scope_at, chain_link}
use Rattle.emit_stmts.specs.Functions.{special_code, specials_code, default_code, rest_code, params_code, copies_code, top_function, top_functions, params_base, body_base, body_vars_code, body_setting, body_code, params_scene, code_in, starts_of, function_code, function_count, script_setting, script_code}
use Rattle.emit_stmts.specs.Stmts.{Setting, scene_at, stmts_code}
use Rattle.compile_range_laws.specs.Tries.{tries_stmts, tries_body, tries_function}
use Rattle.compile_range_laws.proofs.CodeParts.{CodeSmall, nothing, behind, before, commands, command, wait, either, at_here}
use Rattle.compile_range_laws.proofs.ExprCodes.{read_made, reads, writes, expr_small}
use Rattle.compile_range_laws.proofs.StmtCodes.{pushes, assigns, scoped, stmts_small}
use Rattle.compile_range_laws.proofs.Places.{Placed, front, back}

-- ---- before the body

one_special : (H : ℕ → Type 0) (scene : Scene) (b : LinkName) (kind : BindKind) → CodeSmall H 0 (special_code scene b kind)
one_special H scene b bind.Arguments = behind (behind (command (plain op.Arguments) tt) (writes H scene b.text)) (command (plain op.Pop) tt)
one_special H scene b bind.This = behind (behind (command (plain op.FunctionThis) tt) (writes H scene b.text)) (command (plain op.Pop) tt)
one_special H scene b _ = nothing

all_specials : (H : ℕ → Type 0) (scene : Scene) (bs : List LinkName) → CodeSmall H 0 (specials_code scene bs)
all_specials H scene [] = nothing
all_specials H scene (b ∷ bs) = behind (one_special H scene b b.kind) (all_specials H scene bs)

one_default : (H : ℕ → Type 0) (scene : Scene) (name : Named) (value : MaybeExpr) (around : List ℕ) → Placed H scene.starts (inner_maybe value around) → CodeSmall H 0 (default_code scene name value)
one_default H scene name no_expr around h = nothing
one_default H scene name (some_expr e) around h =
    at_here aim.After (behind (behind (behind (behind (behind (reads H scene name.text) (commands (plain op.Undefined ∷ plain op.StrictEq ∷ []) (tt, (tt, tt)))) (wait op.JumpIfFalse aim.After tt)) (expr_small H scene Plainly e around h)) (writes H scene name.text)) (command (plain op.Pop) tt))

one_rest : (H : ℕ → Type 0) (scene : Scene) (name : Named) (rest : Bool) → CodeSmall H 0 (rest_code scene name rest)
one_rest H scene name false = nothing
one_rest H scene name true = behind (behind (command (plain op.Rest) tt) (writes H scene name.text)) (command (plain op.Pop) tt)

all_params : (H : ℕ → Type 0) (scene : Scene) (ps : Params) (around : List ℕ) → Placed H scene.starts (inner_params ps around) → CodeSmall H 0 (params_code scene ps)
all_params H scene no_params around h = nothing
all_params H scene (more_params name value rest more) around h = behind (behind (one_default H scene name value around (front _ h)) (one_rest H scene name rest)) (all_params H scene more around (back _ h))

all_copies : (H : ℕ → Type 0) (scene : Scene) (outer : List LinkView) (hops : ℕ) (params : List Text) (bs : List LinkName) → CodeSmall H 0 (copies_code scene outer hops params bs)
all_copies H scene outer hops params [] = nothing
all_copies H scene outer hops params (b ∷ bs) =
    behind (either (has_text params b.text)
    (behind (behind (commands (read b.text (resolve_beyond hops outer b.text)) (read_made H b.text (resolve_beyond hops outer b.text))) (writes H scene b.text)) (command (plain op.Pop) tt)) nothing)
    (all_copies H scene outer hops params bs)

one_top : (H : ℕ → Type 0) (scene : Scene) (s : Stmt) (next : ℕ) (around : List ℕ) → Placed H scene.starts (inner_stmt s next around) → CodeSmall H 0 (top_function scene s)
one_top H scene (Declared f) next around h = assigns H scene f (function_name f) h.all.0
one_top H scene _ next around h = nothing

all_top : (H : ℕ → Type 0) (scene : Scene) (ss : Stmts) (next : ℕ) (around : List ℕ) → Placed H scene.starts (inner_stmts ss next around) → CodeSmall H 0 (top_functions scene ss)
all_top H scene no_stmts next around h = nothing
all_top H scene (more_stmts s rest) next around h = behind (one_top H scene s next around (front _ h)) (all_top H scene rest (next + count_stmt s) around (back _ h))

-- ---- functions

body_vars : (H : ℕ → Type 0) (scopes : List NamedScope) (starts : List ℕ) (ds : List Declaration) (params : List Text) (number : ℕ) (base : List LinkView) → CodeSmall H 0 (body_vars_code scopes starts ds params number base)
body_vars H scopes starts [] params number base = nothing
body_vars H scopes starts (d ∷ ds) params number base =
    behind (pushes H op.PushVarEnv (scope_at scopes number) number tt)
    (all_copies H (record { chain = chain_link (scope_at scopes number) ∷ base; starts = starts }) base (environments_of (chain_link (scope_at scopes number))) params (scope_at scopes number).bindings)

bodies : (H : ℕ → Type 0) (scopes : List NamedScope) (starts : List ℕ) (initialized : Bool) (params : List Text) (body : Body) (number : ℕ) (base : List LinkView) (next : ℕ) (around : List ℕ) → Placed H starts (inner_body initialized body next around)
    → CodeSmall H (tries_body body) (body_code scopes starts initialized params body number base)
bodies H scopes starts initialized params (ShortBody value) number base next around h = behind (expr_small H (record { chain = base; starts = starts }) Plainly value around h) (command (plain op.Return) tt)
bodies H scopes starts initialized params (BracedBody items) number base next around h =
    let the : Setting = body_setting scopes starts (body_base scopes (body_var_names initialized items) number base) in
    let n = next + scope_count (body_var_names initialized items) + scope_count (top_lexical_names items) in
    let r = enclosed (top_lexical_names items) (next + scope_count (body_var_names initialized items)) (enclosed (body_var_names initialized items) next around) in
    before (behind (body_vars H scopes starts (body_var_names initialized items) params number base)
    (scoped the (top_lexical_names items) (λ scene. top_functions scene items) (stmts_code the items) (number + scope_count (body_var_names initialized items)) []
    (λ fs. all_top H (scene_at the fs) items n r h) (λ m fs. stmts_small H the items m fs n r h)))
    (command (plain op.RetRval) tt)

code_small : (H : ℕ → Type 0) (scopes : List NamedScope) (starts : List ℕ) (kind : FuncKind) (name : Option Text) (outer : List LinkView) (f : Function) → Placed H starts (inner_function kind name f) → CodeSmall H (tries_function f) (code_in scopes starts (callee_names kind name) outer f)
code_small H scopes starts kind name outer (function form start end own params comma bare body) h =
    let callee = callee_names kind name in
    behind (behind (all_specials H (params_scene scopes starts callee outer) (scope_at scopes (scope_count callee)).bindings)
    (all_params H (params_scene scopes starts callee outer) params (params_around kind name) (front _ h)))
    (bodies H scopes starts (has_initializer params) (param_names params) body (scope_count callee + 1) (params_base scopes callee outer) (scope_count callee + 1) (params_around kind name) (back _ h))

pub function_small : (H : ℕ → Type 0) (kind : FuncKind) (name : Option Text) (f : Function) (outer : List LinkView) → Placed H (starts_of (inner_function kind name f)) (inner_function kind name f) → CodeSmall H (tries_function f) (function_code kind name f outer)
function_small H kind name f outer h = code_small H (function_scopes kind name f) (starts_of (inner_function kind name f)) kind name outer f h

-- ---- scripts

pub script_small : (H : ℕ → Type 0) (items : Stmts) → Placed H (starts_of (inner_script items)) (inner_script items) → CodeSmall H (tries_stmts items) (script_code items)
script_small H items h = before (behind (command (counted op.GlobalOrEvalDeclInstantiation (function_count items)) tt) (stmts_small H (script_setting items) items 1 [] 1 (0 ∷ []) h)) (command (plain op.RetRval) tt)
