-- What is asked of a script whose own part is compiled, and what compiling it gives.
use Rattle.std.specs.Prelude.{◌≡◌, ℕ, List, map}
use Rattle.script_grammar.specs.declared.tree.Stmt.{Stmt}
use Rattle.script_grammar.specs.Tree.{Stmts}
use Rattle.stencil_data.specs.declared.records.ClosedName.{ClosedName}
use Rattle.stencil_data.specs.StandsFor.{named_closed, FunctionStandsFor}
use Rattle.stencil_data.specs.Views.{FunctionView}
use Rattle.bytecode_buf.specs.Command.{ShowsCommands}
use Rattle.scope_analysis.specs.Closed.{closed_over, inside_global}
use Rattle.scope_analysis.specs.FunctionTree.{KnowsNames}
use Rattle.scope_analysis.specs.Scopes.{script_scopes}
use Rattle.emit_stmts.specs.Functions.{top_script}
use Rattle.emit_stmts.specs.ScriptCode.{script_in}
use Rattle.scope_inner.specs.declared.sites.FunctionSite.{FunctionSite}
use Rattle.emit_limit_laws.specs.Limits.{ScriptWithin}
use Rattle.emit_limit_laws.specs.FullNames.{ScopesFull}

-- With these bodies in place of those that were passed over, the statements stand for this script. It keeps all bounds, none of
-- its names is empty, and these are the names that functions inside it close over, outside its global scope.
pub record CanBeCompiled (texts : List (List ℕ)) (bodies : ℕ → Stmts) (ss : List Stmt) (closed : List ClosedName) (items : Stmts) : Type 0 where
  pub is : script_in texts bodies ss ≡ items
  pub within : ScriptWithin items
  pub full : ScopesFull (script_scopes items)
  pub closed_are : map (named_closed texts) (inside_global closed) ≡ closed_over (script_scopes items)
  pub knows : KnowsNames texts

-- The stencil stands for what the script itself is compiled to, whose text ends here, and each function directly in it gets
-- the chain that the script hands down there.
pub record IsCompiledScript (texts : List (List ℕ)) (stencil : FunctionView) (inside : List FunctionSite) (items : Stmts) (end : ℕ) : Type 0 where
  pub stands : FunctionStandsFor ShowsCommands texts stencil (top_script items end).part
  pub chains_are : map (λ (s : FunctionSite). s.chain) inside ≡ (top_script items end).chains

-- whatever bodies stand where some were passed over, the statements are compiled to this
abbrev pub CompilesTo : List (List ℕ) → List Stmt → List ClosedName → (end : ℕ) → FunctionView → List FunctionSite → Type 0
CompilesTo texts ss closed end stencil inside =
    (bodies : ℕ → Stmts) (items : Stmts) → CanBeCompiled texts bodies ss closed items → IsCompiledScript texts stencil inside items end
