-- The closed names of small scripts, by what they tell and by their scopes, both computed.
use Rattle.std.proofs.Common.{◌≡◌, ℕ, true, false, codes, Some, None, [], ◌∷◌, refl}
use Rattle.script_grammar.specs.declared.token.Decl.TheVariants as decl
use Rattle.script_grammar.specs.declared.token.FuncForm.TheVariants as form
use Rattle.script_grammar.specs.Tree.{Func, Number, Paren, Binary, Function, function, no_expr, some_expr, no_params, more_params, BracedBody, ShortBody, no_binds, more_binds, Stmts, more_stmts, Binding, Block, Value, Declared, Switch, more_clauses, no_clauses, no_operands}
use Rattle.stencil_data.specs.declared.functions.FuncKind.TheVariants as func
use Rattle.stencil_data.specs.Named.{NamedClosed}
use Rattle.parse_track.specs.Notes.{closed_names}
use Rattle.scope_analysis.specs.DeclaredNames.{Text}
use Rattle.scope_analysis.specs.Scopes.{function_scopes, script_scopes}
use Rattle.scope_analysis.specs.Closed.{closed_over}
use Rattle.scope_analysis.proofs.RowTrees as row
use Rattle.scope_analysis.proofs.RowTrees.{at, name_at, only}
use Rattle.scope_closed_laws.specs.Handed.{closed_at_top, closed_of, behind_global}

abbrev bound : ℕ → Text → NamedClosed
bound scope text = record { scope = scope; text = text }

-- `try{}catch(e){()=>e}`: a catch parameter
catch_told : behind_global (closed_at_top (closed_names row.catch_arrow_script)) ≡ bound 1 (codes "e") ∷ []
catch_told = refl

catch_scopes : closed_over (script_scopes row.catch_arrow_script) ≡ bound 1 (codes "e") ∷ []
catch_scopes = refl

-- `for (let i = 0; i < 2; i++) f(() => i);`: a name of a loop's head
loop_told : behind_global (closed_at_top (closed_names row.loop_script)) ≡ bound 1 (codes "i") ∷ []
loop_told = refl

loop_scopes : closed_over (script_scopes row.loop_script) ≡ bound 1 (codes "i") ∷ []
loop_scopes = refl

-- `(function g(){ return () => this + arguments.length + g })`: the function's name, and what it binds itself
abbrev named_script : Stmts
named_script = only (Value (Paren 0 (Func 1 row.own_name)) false)

named_told : closed_of (closed_names named_script) 11 ≡ bound 0 (codes "g") ∷ bound 1 (codes "arguments") ∷ bound 1 (codes ".this") ∷ []
named_told = refl

named_scopes : closed_over (function_scopes func.Expression (Some (codes "g")) row.own_name) ≡ bound 0 (codes "g") ∷ bound 1 (codes "arguments") ∷ bound 1 (codes ".this") ∷ []
named_scopes = refl

-- `function f(a, g = () => a) { var a; return g }`: a parameter, and not the var name of the body
abbrev default_script : Stmts
default_script = only (Declared row.default_and_var)

default_told : closed_of (closed_names default_script) 10 ≡ bound 0 (codes "a") ∷ []
default_told = refl

default_scopes : closed_over (function_scopes func.Declared (Some (codes "f")) row.default_and_var) ≡ bound 0 (codes "a") ∷ []
default_scopes = refl

-- `function f(x){ return () => () => x }`: a use two functions in
arrows_told : closed_of (closed_names (only (Declared row.returns_arrows))) 10 ≡ bound 0 (codes "x") ∷ []
arrows_told = refl

arrows_scopes : closed_over (function_scopes func.Declared (Some (codes "f")) row.returns_arrows) ≡ bound 0 (codes "x") ∷ []
arrows_scopes = refl

-- the module pattern: a var name that a declaration and a getter use
module_told : closed_of (closed_names row.module_script) 10 ≡ bound 0 (codes "count") ∷ []
module_told = refl

module_scopes : closed_over (function_scopes func.Expression None row.module_function) ≡ bound 0 (codes "count") ∷ []
module_scopes = refl

-- `function f(a = 1){ let b; var c; { let a; () => a + b + c } }`: scopes of a body after an initializer, by number
abbrev deep_arrow : Function
deep_arrow = function form.Arrow 43 57 None no_params false false
    (ShortBody (Binary (name_at (codes "a") 49) (row.plus (name_at (codes "b") 53) (row.plus (name_at (codes "c") 57) no_operands))))

abbrev deep : Function
deep = function form.Function 10 62 (Some (at (codes "f") 9)) (more_params (at (codes "a") 11) (some_expr (Number 15 1)) false no_params) false false (BracedBody
    (more_stmts (Binding decl.Let (more_binds (at (codes "b") 23) no_expr no_binds) true)
    (more_stmts (Binding decl.Var (more_binds (at (codes "c") 30) no_expr no_binds) true)
    (only (Block (more_stmts (Binding decl.Let (more_binds (at (codes "a") 39) no_expr no_binds) true) (only (Value (Func 43 deep_arrow) false))))))))

deep_told : closed_of (closed_names (only (Declared deep))) 10 ≡ bound 1 (codes "c") ∷ bound 2 (codes "b") ∷ bound 3 (codes "a") ∷ []
deep_told = refl

deep_scopes : closed_over (function_scopes func.Declared (Some (codes "f")) deep) ≡ bound 1 (codes "c") ∷ bound 2 (codes "b") ∷ bound 3 (codes "a") ∷ []
deep_scopes = refl

-- a script that closes over a global name and over the name of a switch: let g; switch(g){ case 1: let s; () => g + s }
abbrev switch_arrow : Function
switch_arrow = function form.Arrow 38 49 None no_params false false (ShortBody (Binary (name_at (codes "g") 44) (row.plus (name_at (codes "s") 48) no_operands)))

abbrev switch_script : Stmts
switch_script = more_stmts (Binding decl.Let (more_binds (at (codes "g") 4) no_expr no_binds) true)
    (only (Switch (name_at (codes "g") 14) (more_clauses (some_expr (Number 23 1)) (more_stmts (Binding decl.Let (more_binds (at (codes "s") 30) no_expr no_binds) true) (only (Value (Func 38 switch_arrow) false))) no_clauses)))

switch_all : closed_at_top (closed_names switch_script) ≡ bound 0 (codes "g") ∷ bound 1 (codes "s") ∷ []
switch_all = refl

switch_told : behind_global (closed_at_top (closed_names switch_script)) ≡ bound 1 (codes "s") ∷ []
switch_told = refl

switch_scopes : closed_over (script_scopes switch_script) ≡ bound 1 (codes "s") ∷ []
switch_scopes = refl
