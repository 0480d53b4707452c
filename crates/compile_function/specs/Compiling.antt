-- What is asked of a function that is compiled, and what compiling it gives.
use Rattle.std.specs.Prelude.{◌≡◌, ℕ, List, Option, option_map, map}
use Rattle.script_grammar.specs.declared.tree.Func.{Func}
use Rattle.script_grammar.specs.Interpretation.{Interpretation, text_of}
use Rattle.script_grammar.specs.Tree.{Body, Stmts}
use Rattle.script_grammar.specs.TreeOf.{func_of}
use Rattle.stencil_data.specs.declared.functions.FuncKind.{FuncKind}
use Rattle.stencil_data.specs.declared.records.ClosedName.{ClosedName}
use Rattle.stencil_data.specs.LinkView.{LinkView}
use Rattle.stencil_data.specs.StandsFor.{named_closed, FunctionStandsFor}
use Rattle.stencil_data.specs.Views.{FunctionView}
use Rattle.bytecode_buf.specs.Command.{ShowsCommands}
use Rattle.scope_analysis.specs.Closed.{closed_over}
use Rattle.scope_analysis.specs.FunctionTree.{HasBody, KnowsNames}
use Rattle.scope_analysis.specs.Functions.{inner_function}
use Rattle.scope_analysis.specs.Kept.{under}
use Rattle.scope_analysis.specs.Scopes.{function_scopes}
use Rattle.emit_stmts.specs.Functions.{function_script}
use Rattle.scope_inner.specs.declared.sites.FunctionSite.{FunctionSite}
use Rattle.scope_inner.specs.Sites.{Sited, sited, sited_in}
use Rattle.emit_limit_laws.specs.Limits.{FunctionWithin}
use Rattle.emit_limit_laws.specs.FullNames.{ScopesFull, NameFull}

-- the function that a tree of this kind and name stands for, under this chain
abbrev pub stands_as : Interpretation → Func → FuncKind → Option ℕ → List LinkView → Sited
stands_as i tree kind name chain = record { func = func_of i tree; kind = kind; name = option_map (text_of i) name; chain = chain }

-- With these bodies in place of those that were passed over, the tree stands for this function. Its own body was read, it
-- keeps all bounds, none of its names is empty, and these are the names that functions inside it close over.
pub record CanBeCompiled (texts : List (List ℕ)) (bodies : ℕ → Stmts) (tree : Func) (kind : FuncKind) (name : Option ℕ) (closed : List ClosedName)
    (chain : List LinkView) (f : Sited) : Type 0 where
  pub is : stands_as (under texts bodies) tree kind name chain ≡ f
  pub body : Body
  pub read : HasBody (under texts bodies) tree body
  pub within : FunctionWithin f.kind f.name f.func f.chain
  pub full : ScopesFull (function_scopes f.kind f.name f.func)
  pub full_name : NameFull f.name
  pub closed_are : map (named_closed texts) closed ≡ closed_over (function_scopes f.kind f.name f.func)
  pub knows : KnowsNames texts

-- The stencil stands for what the function is compiled to, and these are the functions directly in it, each under the chain
-- that it gets there.
pub record IsCompiledFunction (texts : List (List ℕ)) (bodies : ℕ → Stmts) (stencil : FunctionView) (inside : List FunctionSite)
    (f : Sited) : Type 0 where
  pub stands : FunctionStandsFor ShowsCommands texts stencil (function_script f.kind f.name f.func f.chain).part
  pub found : map (sited (under texts bodies)) inside
      ≡ map (sited_in (function_scopes f.kind f.name f.func) f.chain) (inner_function f.kind f.name f.func)
