-- That the functions directly in a script or function were found.
use Rattle.std.specs.Prelude.{◌≡◌, ℕ, List, [], Option, map}
use Rattle.script_grammar.specs.declared.tree.Func.{Func}
use Rattle.script_grammar.specs.declared.tree.Stmt.{Stmt}
use Rattle.script_grammar.specs.Tree.{Body, Stmts}
use Rattle.script_grammar.specs.TreeOf.{func_of}
use Rattle.stencil_data.specs.declared.functions.FuncKind.{FuncKind}
use Rattle.stencil_data.specs.LinkView.{LinkView}
use Rattle.stencil_data.specs.StandsFor.{named_scope}
use Rattle.stencil_data.specs.Views.{ScopeView}
use Rattle.scope_analysis.specs.DeclaredNames.{Text}
use Rattle.scope_analysis.specs.FunctionTree.{HasBody}
use Rattle.scope_analysis.specs.Functions.{inner_function, inner_script}
use Rattle.scope_analysis.specs.Kept.{under}
use Rattle.scope_analysis.specs.Scopes.{function_scopes, script_scopes}
use Rattle.emit_stmts.specs.ScriptCode.{script_in}
use Rattle.scope_inner.specs.declared.sites.FunctionSite.{FunctionSite}
use Rattle.scope_inner.specs.Sites.{sited, sited_in}

-- these are the functions directly in a script with these scopes, each with the chain of the scopes around it
abbrev pub AreScriptSites : List (List ℕ) → List ScopeView → List Stmt → List FunctionSite → Type 0
AreScriptSites texts scopes ss sites =
    (bodies : ℕ → Stmts) → map (named_scope texts) scopes ≡ script_scopes (script_in texts bodies ss)
    → map (sited (under texts bodies)) sites ≡ map (sited_in (script_scopes (script_in texts bodies ss)) [])
    (inner_script (script_in texts bodies ss))

-- these are the functions directly in a function with these scopes under this chain, where its body was read, whatever its
-- kind and its name
abbrev pub AreFunctionSites : List (List ℕ) → List ScopeView → List LinkView → Func → List FunctionSite → Type 0
AreFunctionSites texts scopes chain f sites =
    (bodies : ℕ → Stmts) (body : Body) (kind : FuncKind) (name : Option Text) → HasBody (under texts bodies) f body
    → map (named_scope texts) scopes ≡ function_scopes kind name (func_of (under texts bodies) f)
    → map (sited (under texts bodies)) sites ≡ map (sited_in (function_scopes kind name (func_of (under texts bodies) f)) chain)
    (inner_function kind name (func_of (under texts bodies) f))
