-- That the code of a function was appended, and when a function's stencil stands for the definition of it.
use Rattle.std.specs.Prelude.{◌≡◌, ℕ, ◌+◌, ◌<◌, ◌^◌, List, [], ◌∷◌, ◌++◌, Option, option_map, length}
use Rattle.script_grammar.specs.declared.tree.Func.{Func, out-Func}
use Rattle.script_grammar.specs.Tree.{Function, function, Body, Params, Stmts}
use Rattle.script_grammar.specs.TreeOf.{func_of}
use Rattle.stencil_data.specs.declared.functions.Extent.{Extent}
use Rattle.stencil_data.specs.declared.functions.FuncKind.{FuncKind}
use Rattle.stencil_data.specs.declared.stencils.TryNote.{TryNote}
use Rattle.stencil_data.specs.LinkView.{LinkView}
use Rattle.stencil_data.specs.StandsFor.{NameWithin, ScopesStandFor, FunctionStandsFor, text_at}
use Rattle.stencil_data.specs.Views.{ScopeView, FunctionView}
use Rattle.scope_analysis.specs.DeclaredNames.{Text, has_initializer, param_names}
use Rattle.scope_analysis.specs.FunctionTree.{HasBody}
use Rattle.scope_analysis.specs.Functions.{inner_function}
use Rattle.scope_analysis.specs.Kept.{under}
use Rattle.scope_analysis.specs.Scopes.{callee_names, function_scopes, scope_count}
use Rattle.bytecode_buf.specs.declared.waits.Wait.{Wait}
use Rattle.bytecode_buf.specs.Appends.{Appends, Emitted}
use Rattle.bytecode_buf.specs.Command.{ShowsCommands}
use Rattle.bytecode_buf.specs.Emits.{emitted}
use Rattle.bytecode_buf.specs.Pieces.{Code, settled, notes}
use Rattle.emit_stmts.specs.Frames.{scope_at, chain_link}
use Rattle.emit_stmts.specs.Functions.{specials_code, params_code, body_code, function_code, function_script, extents_of, count_of}
use Rattle.emit_stmts.specs.Positions.{Position, scene}
use Rattle.emit_functions.specs.BodyCode.{BodyFits, BodyStands, at_body, body_count}
use Rattle.emit_functions.specs.ParamCode.{ParamsFit, params_under}

-- ---- the code

-- of a function whose own scope has this number, and is the innermost one here
abbrev pub whole_code : Position → ℕ → Params → Body → Code
whole_code p number params body =
    specials_code (scene p) (scope_at p.scopes number).bindings ++ params_code (scene p) params
    ++ body_code p.scopes p.starts (has_initializer params) (param_names params) body (number + 1) p.chain

-- some code was appended, which is this one where the body was read and all counts fit
pub record FunctionWritten (p : Position) (old new : Emitted) (number : ℕ) (f : Func) : Type 0 where
  pub written : Code
  pub appends : Appends p.texts old new written
  pub is : (bodies : ℕ → Stmts) (body : Body) → HasBody (under p.texts bodies) f body
      → ParamsFit (params_under p.texts bodies (out-Func f).params.items)
      → BodyStands p.scopes (number + 1) (has_initializer (params_under p.texts bodies (out-Func f).params.items)) body
      → written ≡ whole_code p number (params_under p.texts bodies (out-Func f).params.items) body

-- these bytes and try notes are all of that code, inside the function's own scope
pub record FunctionMade (p : Position) (bytes : List ℕ) (ns : List TryNote) (number : ℕ) (f : Func) : Type 0 where
  pub waits : List Wait
  pub made : FunctionWritten (at_body (chain_link (scope_at p.scopes number) ∷ p.chain) p) (emitted [] [] []) (emitted bytes waits ns) number f

-- ---- the stencil

-- The counts of a function fit: of parameters there are fewer than 2^32; of the scopes of its statements fewer than 4998
-- are entered one in another.
abbrev pub FunctionFits : Function → Type 0
FunctionFits (function _ _ _ _ params _ _ body) = (count_of (param_names params) < 2 ^ 32) × ParamsFit params × BodyFits body

-- the scopes of a function of this kind and name
abbrev pub scopes_in : FuncKind → Option Text → Function → ℕ
scopes_in kind name (function _ _ _ _ params _ _ body) = scope_count (callee_names kind name) + 1 + body_count (has_initializer params) body

-- this is the name of the function, these are its scopes and the functions that stand directly in it, and its counts fit
pub record Belong (texts : List (List ℕ)) (kind : FuncKind) (name : Option ℕ) (scopes : List ScopeView) (inner : List Extent)
    (f : Function) : Type 0 where
  pub name_within : NameWithin (length texts) name
  pub scopes_are : ScopesStandFor texts scopes (function_scopes kind (option_map (text_at texts) name) f)
  pub inner_are : inner ≡ extents_of (inner_function kind (option_map (text_at texts) name) f)
  pub fit : FunctionFits f
  pub numbered : scopes_in kind (option_map (text_at texts) name) f < 2 ^ 64

-- these bytes and try notes are the function's under this chain
pub record HasFunctionCode (texts : List (List ℕ)) (kind : FuncKind) (name : Option Text) (chain : List LinkView) (f : Function)
    (bytes : List ℕ) (ns : List TryNote) : Type 0 where
  pub code : ShowsCommands texts bytes (settled (function_code kind name f chain))
  pub notes_are : ns ≡ notes (function_code kind name f chain)

-- the code in the making is that of the function, where its body was read
abbrev pub Drafted : List (List ℕ) → FuncKind → Option ℕ → List ScopeView → List Extent → List LinkView → Func → List ℕ → List TryNote → Type 0
Drafted texts kind name scopes inner chain f bytes ns =
    (bodies : ℕ → Stmts) (body : Body) → HasBody (under texts bodies) f body → Belong texts kind name scopes inner (func_of (under texts bodies) f)
    → HasFunctionCode texts kind (option_map (text_at texts) name) chain (func_of (under texts bodies) f) bytes ns

-- the stencil stands for the function of this kind and name under this chain, where its body was read
abbrev pub IsFunctionStencil : List (List ℕ) → FuncKind → Option ℕ → List ScopeView → List Extent → List LinkView → Func → FunctionView → Type 0
IsFunctionStencil texts kind name scopes inner chain f part =
    (bodies : ℕ → Stmts) (body : Body) → HasBody (under texts bodies) f body → Belong texts kind name scopes inner (func_of (under texts bodies) f)
    → FunctionStandsFor ShowsCommands texts part (function_script kind (option_map (text_at texts) name) (func_of (under texts bodies) f) chain).part
