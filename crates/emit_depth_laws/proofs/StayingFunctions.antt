-- The jumps in the code of every function, and of every script, stay within it.
use Rattle.std.proofs.Common.{ℕ, ◌+◌, Bool, true, false, List, [], ◌∷◌, Option}
use Rattle.script_grammar.specs.Tree.{Named, MaybeExpr, no_expr, some_expr, Function, function, Params, no_params, more_params, Body, BracedBody, ShortBody, Stmt, Stmts, no_stmts, more_stmts, Block, Declared}
use Rattle.stencil_data.specs.declared.chains.LinkName.{LinkName}
use Rattle.stencil_data.specs.declared.functions.FuncKind.{FuncKind}
use Rattle.stencil_data.specs.declared.scopes.BindKind.{BindKind}
use Rattle.stencil_data.specs.declared.scopes.BindKind.TheVariants as bind
use Rattle.stencil_data.specs.LinkView.{LinkView}
use Rattle.stencil_data.specs.Named.{NamedScope}
use Rattle.stencil_data.specs.Resolve.{resolve_beyond, environments_of}
use Rattle.scope_analysis.specs.DeclaredNames.{Text, has_text, Declaration, function_name, top_lexical_names, param_names, has_initializer}
use Rattle.scope_analysis.specs.Scopes.{scope_count, callee_names, body_var_names, function_scopes}
use Rattle.scope_analysis.specs.Functions.{inner_function}
use Rattle.bytecode_buf.specs.declared.opcode.Op.TheVariants as op
use Rattle.bytecode_buf.specs.declared.waits.Aim.TheVariants as aim
use Rattle.bytecode_buf.specs.Command.{plain, counted}
use Rattle.emit_exprs.specs.Names.{read}
use Rattle.emit_exprs.specs.Exprs.{Scene}
use Rattle.emit_stmts.specs.Frames.{scope_at, chain_link}
use Rattle.emit_stmts.specs.Functions.{special_code, specials_code, default_code, rest_code, params_code, copies_code, top_function, top_functions, body_base, body_vars_code, body_setting, body_code, params_base, params_scene, code_in, starts_of, function_script, function_count, script_setting, top_script}
use Rattle.emit_stmts.specs.Stmts.{Setting, stmts_code}
use Rattle.bytecode_flow_laws.specs.Staying.{JumpsStay, Stays}
use Rattle.bytecode_flow_laws.proofs.Staying.{stays_none, stays_both, stays_waiting, stays_command, stays_whole, stays_here, jumps_stay}
use Rattle.emit_depth_laws.proofs.StayingExprs.{stays_just, stays_if, read_no, reading_stays, writing_stays}
use Rattle.emit_depth_laws.proofs.StayingStmts.{expr_stays, push_stays, assigning_stays, scope_stays, stmts_stay}

special_stays : (scene : Scene) (b : LinkName) (kind : BindKind) → Stays (special_code scene b kind)
special_stays scene b bind.Arguments = stays_both (stays_both (stays_just op.Arguments) (writing_stays scene b.text)) (stays_just op.Pop)
special_stays scene b bind.This = stays_both (stays_both (stays_just op.FunctionThis) (writing_stays scene b.text)) (stays_just op.Pop)
special_stays scene b bind.Let = stays_none
special_stays scene b _ = stays_none

specials_stay : (scene : Scene) (bs : List LinkName) → Stays (specials_code scene bs)
specials_stay scene [] = stays_none
specials_stay scene (b ∷ bs) = stays_both (special_stays scene b b.kind) (specials_stay scene bs)

default_stays : (scene : Scene) (name : Named) (value : MaybeExpr) → Stays (default_code scene name value)
default_stays scene name no_expr = stays_none
default_stays scene name (some_expr e) =
    stays_here aim.After (stays_both (stays_both (stays_both (stays_both (stays_both (reading_stays scene name.text) (stays_whole (plain op.Undefined ∷ plain op.StrictEq ∷ []) (tt, (tt, tt)))) (stays_waiting op.JumpIfFalse aim.After)) (expr_stays scene e)) (writing_stays scene name.text)) (stays_just op.Pop))

rest_stays : (scene : Scene) (name : Named) (rest : Bool) → Stays (rest_code scene name rest)
rest_stays scene name false = stays_none
rest_stays scene name true = stays_both (stays_both (stays_just op.Rest) (writing_stays scene name.text)) (stays_just op.Pop)

params_stay : (scene : Scene) (ps : Params) → Stays (params_code scene ps)
params_stay scene no_params = stays_none
params_stay scene (more_params name value rest more) = stays_both (stays_both (default_stays scene name value) (rest_stays scene name rest)) (params_stay scene more)

copies_stay : (scene : Scene) (outer : List LinkView) (hops : ℕ) (params : List Text) (bs : List LinkName) → Stays (copies_code scene outer hops params bs)
copies_stay scene outer hops params [] = stays_none
copies_stay scene outer hops params (b ∷ bs) =
    stays_both (stays_if (has_text params b.text) (stays_both (stays_both (stays_whole (read b.text (resolve_beyond hops outer b.text)) (read_no b.text (resolve_beyond hops outer b.text))) (writing_stays scene b.text)) (stays_just op.Pop)) stays_none) (copies_stay scene outer hops params bs)

top_stays : (scene : Scene) (s : Stmt) → Stays (top_function scene s)
top_stays scene (Declared f) = assigning_stays scene f (function_name f)
top_stays scene (Block items) = stays_none
top_stays scene _ = stays_none

tops_stay : (scene : Scene) (ss : Stmts) → Stays (top_functions scene ss)
tops_stay scene no_stmts = stays_none
tops_stay scene (more_stmts s rest) = stays_both (top_stays scene s) (tops_stay scene rest)

vars_stay : (scopes : List NamedScope) (starts : List ℕ) (ds : List Declaration) (params : List Text) (number : ℕ) (base : List LinkView) → Stays (body_vars_code scopes starts ds params number base)
vars_stay scopes starts [] params number base = stays_none
vars_stay scopes starts (d ∷ ds) params number base = stays_both (push_stays op.PushVarEnv (scope_at scopes number) number) (copies_stay (record { chain = chain_link (scope_at scopes number) ∷ base; starts = starts }) base (environments_of (chain_link (scope_at scopes number))) params (scope_at scopes number).bindings)

body_stays : (scopes : List NamedScope) (starts : List ℕ) (initialized : Bool) (params : List Text) (body : Body) (number : ℕ) (base : List LinkView) → Stays (body_code scopes starts initialized params body number base)
body_stays scopes starts initialized params (ShortBody value) number base = stays_both (expr_stays _ value) (stays_just op.Return)
body_stays scopes starts initialized params (BracedBody items) number base =
    let setting : Setting = body_setting scopes starts (body_base scopes (body_var_names initialized items) number base) in
    stays_both (stays_both (vars_stay scopes starts (body_var_names initialized items) params number base) (scope_stays setting (top_lexical_names items) (λ scene. top_functions scene items) (stmts_code setting items) (number + scope_count (body_var_names initialized items)) [] (λ scene. tops_stay scene items) (stmts_stay setting items))) (stays_just op.RetRval)

code_in_stays : (scopes : List NamedScope) (starts : List ℕ) (callee : List Declaration) (outer : List LinkView) (f : Function) → Stays (code_in scopes starts callee outer f)
code_in_stays scopes starts callee outer (function form start end name params comma bare body) =
    stays_both (stays_both (specials_stay (params_scene scopes starts callee outer) (scope_at scopes (scope_count callee)).bindings) (params_stay (params_scene scopes starts callee outer) params)) (body_stays scopes starts (has_initializer params) (param_names params) body (scope_count callee + 1) (params_base scopes callee outer))

-- ---- the theorems

-- Each jump in the code of a function, whatever its kind, its name and the scopes around it, goes to a place of that code.
pub function_jumps_stay : (kind : FuncKind) (name : Option Text) (f : Function) (outer : List LinkView) → JumpsStay (function_script kind name f outer).part.code
function_jumps_stay kind name f outer = jumps_stay (code_in_stays (function_scopes kind name f) (starts_of (inner_function kind name f)) (callee_names kind name) outer f)

-- Each jump in the code of a script goes to a place of that code.
pub script_jumps_stay : (items : Stmts) (end : ℕ) → JumpsStay (top_script items end).part.code
script_jumps_stay items end = jumps_stay (stays_both (stays_both (stays_command (counted op.GlobalOrEvalDeclInstantiation (function_count items)) tt) (stmts_stay (script_setting items) items 1 [])) (stays_just op.RetRval))
