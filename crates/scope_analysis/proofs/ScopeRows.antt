-- Scopes of small scripts and functions, computed.
use Rattle.std.proofs.Common.{◌≡◌, ℕ, List, [], ◌∷◌, refl, codes, Option, Some, None}
use Rattle.stencil_data.specs.declared.chains.LinkName.{LinkName}
use Rattle.stencil_data.specs.declared.functions.FuncKind.TheVariants as func
use Rattle.stencil_data.specs.declared.scopes.BindKind.{BindKind}
use Rattle.stencil_data.specs.declared.scopes.BindKind.TheVariants as bind
use Rattle.stencil_data.specs.declared.scopes.ScopeKind.{ScopeKind}
use Rattle.stencil_data.specs.declared.scopes.ScopeKind.TheVariants as scope
use Rattle.stencil_data.specs.declared.scopes.Slot.{Slot}
use Rattle.stencil_data.specs.declared.scopes.Slot.TheVariants as slot
use Rattle.stencil_data.specs.Named.{NamedScope}
use Rattle.scope_analysis.specs.Scopes.{function_scopes, script_scopes}
use Rattle.scope_analysis.proofs.RowTrees as row

abbrev a_scope : ScopeKind → Option ℕ → List LinkName → ℕ → NamedScope
a_scope kind parent bindings env = record { kind = kind; parent = parent; bindings = bindings; env_slots = env }

abbrev binding : List ℕ → BindKind → Slot → LinkName
binding text kind slot = record { text = text; kind = kind; slot = slot }

pub returns_arrows : function_scopes func.Declared (Some (codes "f")) row.returns_arrows ≡ a_scope scope.Function None (binding (codes "x") bind.Param (slot.Env 0) ∷ []) 1 ∷ []
returns_arrows = refl

pub own_name : function_scopes func.Expression (Some (codes "g")) row.own_name
    ≡ a_scope scope.StrictNamedLambda None (binding (codes "g") bind.Callee (slot.Env 0) ∷ []) 1
    ∷ a_scope scope.Function (Some 0) (binding (codes "arguments") bind.Arguments (slot.Env 0) ∷ binding (codes ".this") bind.This (slot.Env 1) ∷ []) 2 ∷ []
own_name = refl

pub own_name_arrow : function_scopes func.Arrow None row.this_arrow ≡ a_scope scope.Function None [] 0 ∷ []
own_name_arrow = refl

pub default_and_var : function_scopes func.Declared (Some (codes "f")) row.default_and_var
    ≡ a_scope scope.Function None (binding (codes "a") bind.Param (slot.Env 0) ∷ binding (codes "g") bind.Param (slot.Arg 1) ∷ []) 1
    ∷ a_scope scope.FunctionBodyVar (Some 0) (binding (codes "a") bind.Var (slot.Frame 0) ∷ []) 0 ∷ []
default_and_var = refl

pub module_function : function_scopes func.Expression None row.module_function
    ≡ a_scope scope.Function None (binding (codes "count") bind.Var (slot.Env 0) ∷ binding (codes "next") bind.Var (slot.Frame 0) ∷ binding (codes "k") bind.Var (slot.Frame 1) ∷ []) 1
    ∷ a_scope scope.FunctionLexical (Some 0) (binding (codes "names") bind.Const (slot.Frame 2) ∷ []) 0 ∷ []
module_function = refl

pub catch_arrow : script_scopes row.catch_arrow_script ≡ a_scope scope.Global None [] 0 ∷ a_scope scope.SimpleCatch (Some 0) (binding (codes "e") bind.Catch (slot.Env 0) ∷ []) 1 ∷ []
catch_arrow = refl

pub loop_scopes : script_scopes row.loop_script ≡ a_scope scope.Global None [] 0 ∷ a_scope scope.Lexical (Some 0) (binding (codes "i") bind.Let (slot.Env 0) ∷ []) 1 ∷ []
loop_scopes = refl
