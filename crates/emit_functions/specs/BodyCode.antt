-- That the code of a function's body was appended.
use Rattle.std.specs.Prelude.{◌≡◌, ℕ, ◌+◌, ◌<◌, ◌^◌, Bool, true, false, List, [], ◌∷◌, ◌++◌, Some, map}
use Rattle.script_grammar.specs.declared.tree.FuncBody.{FuncBody}
use Rattle.script_grammar.specs.declared.tree.Param.{Param}
use Rattle.script_grammar.specs.declared.tree.Stmt.{Stmt}
use Rattle.script_grammar.specs.Tree.{Body, BracedBody, ShortBody, Stmts}
use Rattle.script_grammar.specs.TreeLists.{stmts_of}
use Rattle.script_grammar.specs.TreeOf.{body_of, stmt_of}
use Rattle.stencil_data.specs.declared.scopes.ScopeKind.{ScopeKind}
use Rattle.stencil_data.specs.declared.scopes.ScopeKind.TheVariants as scope
use Rattle.stencil_data.specs.LinkView.{LinkView}
use Rattle.stencil_data.specs.Named.{NamedScope}
use Rattle.stencil_data.specs.Resolve.{environments_of}
use Rattle.scope_analysis.specs.DeclaredNames.{Text, has_initializer, param_names}
use Rattle.scope_analysis.specs.Kept.{under}
use Rattle.scope_analysis.specs.Scopes.{body_var_names, scope_count}
use Rattle.bytecode_buf.specs.declared.opcode.Op.TheVariants as op
use Rattle.bytecode_buf.specs.Appends.{Appends, Emitted}
use Rattle.bytecode_buf.specs.Pieces.{Code}
use Rattle.emit_exprs.specs.Fitting.{ExprFits}
use Rattle.emit_exprs.specs.TreeCode.{Written}
use Rattle.emit_stmts.specs.declared.stmt_context.StmtContext.{StmtContext}
use Rattle.emit_stmts.specs.Declares.{declares}
use Rattle.emit_stmts.specs.Frames.{scope_at, chain_link}
use Rattle.emit_stmts.specs.Functions.{copies_code, body_code}
use Rattle.emit_stmts.specs.Positions.{Position, position_of}
use Rattle.emit_stmts.specs.Stmts.{push_env}
use Rattle.emit_functions.specs.ParamCode.{params_under}
use Rattle.emit_functions.specs.TopCode.{TopFits, top_count}

-- the top of a function's body under this chain
abbrev pub at_body : List LinkView → Position → Position
at_body chain p = record {
  texts = p.texts;
  chain = chain;
  starts = p.starts;
  scopes = p.scopes;
  is_script = false;
  frames = [];
  room = 4997;
}

abbrev pub stmts_under : List (List ℕ) → (ℕ → Stmts) → List Stmt → Stmts
stmts_under texts bodies ss = stmts_of (map (stmt_of (under texts bodies)) ss)

-- ---- the scope of the var names

abbrev pub is_body_var : ScopeKind → Bool
is_body_var scope.Global = false
is_body_var scope.Function = false
is_body_var scope.FunctionLexical = false
is_body_var scope.Lexical = false
is_body_var scope.SimpleCatch = false
is_body_var scope.StrictNamedLambda = false
is_body_var scope.FunctionBodyVar = true

-- the scope of the var names is entered, and its names begin with the values of parameters
abbrev pub entered_code : List NamedScope → List ℕ → List Text → ℕ → List LinkView → Code
entered_code scopes starts params number base =
    push_env op.PushVarEnv (scope_at scopes number) number
    ++ copies_code (record { chain = chain_link (scope_at scopes number) ∷ base; starts = starts }) base
    (environments_of (chain_link (scope_at scopes number))) params (scope_at scopes number).bindings

pub record VarsEntered (s : StmtContext) (old new : List ℕ) (number : ℕ) (ps : List Param) : Type 0 where
  pub made : Written s.exprs old new (λ bodies. Unit {0})
      (λ bodies. entered_code (position_of s).scopes (position_of s).starts
      (param_names (params_under s.exprs.texts.now bodies ps)) number s.exprs.chain.now)

-- ---- bodies

-- the counts of a body fit
abbrev pub BodyFits : Body → Type 0
BodyFits (ShortBody value) = ExprFits value
BodyFits (BracedBody items) = TopFits 4997 0 items

-- whether a body has var names in a scope of their own
abbrev pub has_vars : Bool → Body → Bool
has_vars initialized (ShortBody value) = false
has_vars initialized (BracedBody items) = declares (body_var_names initialized items)

-- the scopes of a body
abbrev pub body_count : Bool → Body → ℕ
body_count initialized (ShortBody value) = 0
body_count initialized (BracedBody items) = scope_count (body_var_names initialized items) + top_count items

-- among these scopes, the one with this number is that of the body's var names exactly where it has some, and all counts fit
pub record BodyStands (scopes : List NamedScope) (number : ℕ) (initialized : Bool) (body : Body) : Type 0 where
  pub vars : is_body_var (scope_at scopes number).kind ≡ has_vars initialized body
  pub fit : BodyFits body
  pub numbered : number + body_count initialized body < 2 ^ 64

-- some code was appended, which is that of a braced body, whose first scope has this number
pub record BracedWritten (p : Position) (old new : Emitted) (number : ℕ) (ps : List Param) (items : List Stmt) : Type 0 where
  pub written : Code
  pub appends : Appends p.texts old new written
  pub is : (bodies : ℕ → Stmts)
      → BodyStands p.scopes number (has_initializer (params_under p.texts bodies ps)) (BracedBody (stmts_under p.texts bodies items))
      → written ≡ body_code p.scopes p.starts (has_initializer (params_under p.texts bodies ps))
      (param_names (params_under p.texts bodies ps)) (BracedBody (stmts_under p.texts bodies items)) number p.chain

-- the same of any body that was read
pub record BodyWritten (p : Position) (old new : Emitted) (number : ℕ) (ps : List Param) (b : FuncBody) : Type 0 where
  pub written : Code
  pub appends : Appends p.texts old new written
  pub is : (bodies : ℕ → Stmts) (body : Body) → body_of (under p.texts bodies) b ≡ Some body
      → BodyStands p.scopes number (has_initializer (params_under p.texts bodies ps)) body
      → written ≡ body_code p.scopes p.starts (has_initializer (params_under p.texts bodies ps))
      (param_names (params_under p.texts bodies ps)) body number p.chain
