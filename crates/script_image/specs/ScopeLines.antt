-- The lines of a script's scopes: one for each scope, and under it one for each binding. The kinds are named as in
-- SpiderMonkey; the lines are this project's own choice.
use Rattle.std.specs.Prelude.{ℕ, ◌+◌, List, [], ◌∷◌, ◌++◌, flat_map, Option, Some, None, codes}
use Rattle.std.specs.Fmt.{decimal}
use Rattle.stencil_data.specs.declared.chains.LinkName.{LinkName}
use Rattle.stencil_data.specs.declared.scopes.BindKind.{BindKind}
use Rattle.stencil_data.specs.declared.scopes.BindKind.TheVariants as bind
use Rattle.stencil_data.specs.declared.scopes.ScopeKind.{ScopeKind}
use Rattle.stencil_data.specs.declared.scopes.ScopeKind.TheVariants as scope
use Rattle.stencil_data.specs.declared.scopes.Slot.{Slot}
use Rattle.stencil_data.specs.declared.scopes.Slot.TheVariants as slot
use Rattle.stencil_data.specs.Named.{NamedScope, NamedFunction}
use Rattle.bytecode_buf.specs.Command.{Listed}
use Rattle.script_image.specs.Quoted.{quoted}

abbrev pub scope_name : ScopeKind → List ℕ
scope_name scope.Global = codes "Global"
scope_name scope.Function = codes "Function"
scope_name scope.FunctionLexical = codes "FunctionLexical"
scope_name scope.Lexical = codes "Lexical"
scope_name scope.SimpleCatch = codes "SimpleCatch"
scope_name scope.StrictNamedLambda = codes "StrictNamedLambda"
scope_name scope.FunctionBodyVar = codes "FunctionBodyVar"

abbrev pub binding_name : BindKind → List ℕ
binding_name bind.Param = codes "param"
binding_name bind.Var = codes "var"
binding_name bind.Let = codes "let"
binding_name bind.Const = codes "const"
binding_name bind.Function = codes "function"
binding_name bind.Catch = codes "catch"
binding_name bind.Callee = codes "callee"
binding_name bind.Arguments = codes "arguments"
binding_name bind.This = codes "this"

abbrev pub slot_text : Slot → List ℕ
slot_text slot.Global = codes "global"
slot_text (slot.Arg i) = codes "arg " ++ decimal i
slot_text (slot.Frame i) = codes "frame " ++ decimal i
slot_text (slot.Env i) = codes "env " ++ decimal i
slot_text slot.Callee = codes "callee"

abbrev pub binding_line : LinkName → List ℕ
binding_line b = codes "    " ++ quoted b.text ++ codes " " ++ binding_name b.kind ++ codes " " ++ slot_text b.slot ++ codes "\n"

-- the number of the scope around, or `-` for the first one of a script
abbrev pub parent_text : Option ℕ → List ℕ
parent_text None = codes "-"
parent_text (Some number) = decimal number

abbrev pub scope_line : ℕ → NamedScope → List ℕ
scope_line number s =
    codes "  scope " ++ decimal number ++ codes " " ++ scope_name s.kind ++ codes " parent " ++ parent_text s.parent
    ++ codes " env " ++ decimal s.env_slots ++ codes "\n"

abbrev pub scopes_from : ℕ → List NamedScope → List ℕ
scopes_from number [] = []
scopes_from number (s ∷ ss) = scope_line number s ++ flat_map binding_line s.bindings ++ scopes_from (number + 1) ss

-- what is printed under the line of a compiled script for its scopes
abbrev pub scope_lines : NamedFunction (List Listed) → List ℕ
scope_lines f = scopes_from 0 f.scopes
