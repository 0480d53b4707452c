-- A function's script and a script's own: scopes, code, try notes, the functions in it and the chain at each. What calling
-- a function does first is ECMA-262's, 12th edition, clause 10.2.11 (FunctionDeclarationInstantiation); the instructions
-- are this project's own choice.
use Rattle.std.specs.Prelude.{ℕ, ◌+◌, Bool, true, false, if◌then◌else◌, List, [], ◌∷◌, ◌++◌, map, Option, None}
use Rattle.script_grammar.specs.Tree.{Named, MaybeExpr, no_expr, some_expr, Function, function, Params, no_params, more_params, Body}
use Rattle.script_grammar.specs.Tree.{BracedBody, ShortBody, Stmt, Stmts, no_stmts, more_stmts, Declared}
use Rattle.stencil_data.specs.declared.chains.LinkName.{LinkName}
use Rattle.stencil_data.specs.declared.functions.Extent.{Extent}
use Rattle.stencil_data.specs.declared.functions.FuncKind.{FuncKind}
use Rattle.stencil_data.specs.declared.functions.FuncKind.TheVariants as func
use Rattle.stencil_data.specs.declared.scopes.BindKind.{BindKind}
use Rattle.stencil_data.specs.declared.scopes.BindKind.TheVariants as bind
use Rattle.stencil_data.specs.LinkView.{LinkView}
use Rattle.stencil_data.specs.Named.{NamedScope, NamedFunction}
use Rattle.stencil_data.specs.Resolve.{resolve_beyond, environments_of}
use Rattle.scope_analysis.specs.DeclaredNames.{Text, has_text, Declaration, function_name, top_lexical_names, param_names, has_initializer}
use Rattle.scope_analysis.specs.Scopes.{scope_count, callee_names, body_var_names, function_scopes, script_scopes}
use Rattle.scope_analysis.specs.Functions.{Inner, inner_function, inner_script}
use Rattle.bytecode_buf.specs.declared.opcode.Op.TheVariants as op
use Rattle.bytecode_buf.specs.declared.waits.Aim.TheVariants as aim
use Rattle.bytecode_buf.specs.Command.{Command, plain, counted}
use Rattle.bytecode_buf.specs.Pieces.{Waiting, Code, one, here, settled, notes}
use Rattle.emit_exprs.specs.Names.{read}
use Rattle.emit_exprs.specs.Exprs.{Scene, reading, writing, expr_code}
use Rattle.emit_exprs.specs.Whole.{whole, just}
use Rattle.emit_stmts.specs.Frames.{scope_at, global_link, chain_link}
use Rattle.emit_stmts.specs.Stmts.{Setting, push_env, in_scope, assigning_function, stmts_code}

-- ---- before the body

-- `arguments` and `this`, where the function has them
abbrev pub special_code : Scene → LinkName → BindKind → Code
special_code scene b bind.Arguments = just op.Arguments ++ writing scene b.text ++ just op.Pop
special_code scene b bind.This = just op.FunctionThis ++ writing scene b.text ++ just op.Pop
special_code scene b _ = []

abbrev pub specials_code : Scene → List LinkName → Code
specials_code scene [] = []
specials_code scene (b ∷ bs) = special_code scene b b.kind ++ specials_code scene bs

-- a parameter's initializer, where the argument is undefined, and the rest of the arguments
abbrev pub default_code : Scene → Named → MaybeExpr → Code
default_code scene name no_expr = []
default_code scene name (some_expr e) =
    here aim.After (reading scene name.text ++ whole (plain op.Undefined ∷ plain op.StrictEq ∷ [])
    ++ (Waiting op.JumpIfFalse aim.After ∷ []) ++ expr_code scene e ++ writing scene name.text ++ just op.Pop)

abbrev pub rest_code : Scene → Named → Bool → Code
rest_code scene name false = []
rest_code scene name true = just op.Rest ++ writing scene name.text ++ just op.Pop

abbrev pub params_code : Scene → Params → Code
params_code scene no_params = []
params_code scene (more_params name value rest more) = default_code scene name value ++ rest_code scene name rest ++ params_code scene more

-- the body's var names begin with the values of the parameters of the same names, which are seen from inside their scope
abbrev pub copies_code : Scene → List LinkView → ℕ → List Text → List LinkName → Code
copies_code scene outer hops params [] = []
copies_code scene outer hops params (b ∷ bs) =
    (if has_text params b.text then whole (read b.text (resolve_beyond hops outer b.text)) ++ writing scene b.text ++ just op.Pop else [])
    ++ copies_code scene outer hops params bs

-- the functions declared at the top of a body
abbrev pub top_function : Scene → Stmt → Code
top_function scene (Declared f) = assigning_function scene f (function_name f)
top_function scene _ = []

abbrev pub top_functions : Scene → Stmts → Code
top_functions scene no_stmts = []
top_functions scene (more_stmts s rest) = top_function scene s ++ top_functions scene rest

-- ---- functions

-- the scopes around the parameters: the function's own, that of its name, those around it
abbrev pub named_base : List NamedScope → List Declaration → List LinkView → List LinkView
named_base scopes [] outer = outer
named_base scopes (d ∷ ds) outer = chain_link (scope_at scopes 0) ∷ outer

abbrev pub params_base : List NamedScope → List Declaration → List LinkView → List LinkView
params_base scopes callee outer = chain_link (scope_at scopes (scope_count callee)) ∷ named_base scopes callee outer

-- with the scope of the body's var names inside
abbrev pub body_base : List NamedScope → List Declaration → ℕ → List LinkView → List LinkView
body_base scopes [] number base = base
body_base scopes (d ∷ ds) number base = chain_link (scope_at scopes number) ∷ base

abbrev pub body_vars_code : List NamedScope → List ℕ → List Declaration → List Text → ℕ → List LinkView → Code
body_vars_code scopes starts [] params number base = []
body_vars_code scopes starts (d ∷ ds) params number base =
    push_env op.PushVarEnv (scope_at scopes number) number
    ++ copies_code (record { chain = chain_link (scope_at scopes number) ∷ base; starts = starts }) base
    (environments_of (chain_link (scope_at scopes number))) params (scope_at scopes number).bindings

abbrev pub body_setting : List NamedScope → List ℕ → List LinkView → Setting
body_setting scopes starts base = record { base = base; scopes = scopes; starts = starts; is_script = false }

-- the body, whose first scope would have this number, under the scopes of the parameters
abbrev pub body_code : List NamedScope → List ℕ → Bool → List Text → Body → ℕ → List LinkView → Code
body_code scopes starts initialized params (ShortBody value) number base = expr_code (record { chain = base; starts = starts }) value
    ++ just op.Return
body_code scopes starts initialized params (BracedBody items) number base =
    body_vars_code scopes starts (body_var_names initialized items) params number base
    ++ in_scope (body_setting scopes starts (body_base scopes (body_var_names initialized items) number base)) (top_lexical_names items)
    (λ scene. top_functions scene items)
    (stmts_code (body_setting scopes starts (body_base scopes (body_var_names initialized items) number base)) items)
    (number + scope_count (body_var_names initialized items)) []
    ++ just op.RetRval

abbrev pub params_scene : List NamedScope → List ℕ → List Declaration → List LinkView → Scene
params_scene scopes starts callee outer = record { chain = params_base scopes callee outer; starts = starts }

-- the code of a function with these scopes, whose inner functions start here
abbrev pub code_in : List NamedScope → List ℕ → List Declaration → List LinkView → Function → Code
code_in scopes starts callee outer (function _ _ _ _ params _ _ body) =
    specials_code (params_scene scopes starts callee outer) (scope_at scopes (scope_count callee)).bindings
    ++ params_code (params_scene scopes starts callee outer) params
    ++ body_code scopes starts (has_initializer params) (param_names params) body (scope_count callee + 1) (params_base scopes callee outer)

-- ---- scripts of functions

abbrev pub start_of : Function → ℕ
start_of (function _ start _ _ _ _ _ _) = start

abbrev pub extent_of : Function → Extent
extent_of (function _ start end _ _ _ _ _) = record { start = start; end = end }

abbrev pub params_of : Function → List Text
params_of (function _ _ _ _ params _ _ _) = param_names params

abbrev pub starts_of : List Inner → List ℕ
starts_of inner = map (λ (i : Inner). start_of i.func) inner

abbrev pub extents_of : List Inner → List Extent
extents_of inner = map (λ (i : Inner). extent_of i.func) inner

-- the chain at a function directly in another: the scopes around it there, and those around the other
abbrev pub chain_at : List NamedScope → List LinkView → Inner → List LinkView
chain_at scopes outer i = map (λ (number : ℕ). chain_link (scope_at scopes number)) i.around ++ outer

-- a compiled function, and the chain at each function directly in it
pub record Compiled : Type 0 where
  pub part : NamedFunction (List Command)
  pub chains : List (List LinkView)

abbrev pub count_of : List Text → ℕ
count_of [] = 0
count_of (t ∷ ts) = 1 + count_of ts

-- by its pieces of code
abbrev pub compiled : Extent → FuncKind → Option Text → ℕ → List NamedScope → List Inner → List LinkView → Code → Compiled
compiled extent kind name params scopes inner outer code = record {
  part = record {
    extent = extent;
    kind = kind;
    name = name;
    params = params;
    scopes = scopes;
    code = settled code;
    notes = notes code;
    inner = extents_of inner;
  };
  chains = map (chain_at scopes outer) inner;
}

-- the code of a function of this kind and name under a chain
abbrev pub function_code : FuncKind → Option Text → Function → List LinkView → Code
function_code kind name f outer = code_in (function_scopes kind name f) (starts_of (inner_function kind name f)) (callee_names kind name) outer f

-- a function of this kind and name under a chain
abbrev pub function_script : FuncKind → Option Text → Function → List LinkView → Compiled
function_script kind name f outer =
    compiled (extent_of f) kind name (count_of (params_of f)) (function_scopes kind name f) (inner_function kind name f) outer
    (function_code kind name f outer)

-- ---- scripts

abbrev pub function_count : Stmts → ℕ
function_count no_stmts = 0
function_count (more_stmts (Declared f) rest) = 1 + function_count rest
function_count (more_stmts _ rest) = function_count rest

abbrev pub script_setting : Stmts → Setting
script_setting items = record { base = global_link ∷ []; scopes = script_scopes items; starts = starts_of (inner_script items); is_script = true }

abbrev pub script_code : Stmts → Code
script_code items = one (counted op.GlobalOrEvalDeclInstantiation (function_count items)) ++ stmts_code (script_setting items) items 1 []
    ++ just op.RetRval

-- the script itself, whose text ends here
abbrev pub top_script : Stmts → ℕ → Compiled
top_script items end = compiled (record { start = 0; end = end }) func.Declared None 0 (script_scopes items) (inner_script items) []
    (script_code items)
