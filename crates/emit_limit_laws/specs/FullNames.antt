-- That no name which a script or a function of it binds is empty, nor the name of a function: so an atom that has such a name
-- is the index of a text.
use Rattle.std.specs.Prelude.{ℕ, ◌≢◌, List, [], ◌∷◌, Option, None, Some}
use Rattle.script_grammar.specs.Tree.{Stmts}
use Rattle.stencil_data.specs.declared.chains.LinkName.{LinkName}
use Rattle.stencil_data.specs.Named.{NamedScope}
use Rattle.scope_analysis.specs.Functions.{Inner}
use Rattle.scope_analysis.specs.Scopes.{function_scopes, script_scopes}
use Rattle.scope_closed_laws.specs.Sites.{IsFunctionOf}

abbrev pub BindingsFull : List LinkName → Type 0
BindingsFull [] = Unit {0}
BindingsFull (b ∷ bs) = (b.text ≢ []) × BindingsFull bs

abbrev pub ScopesFull : List NamedScope → Type 0
ScopesFull [] = Unit {0}
ScopesFull (s ∷ ss) = BindingsFull s.bindings × ScopesFull ss

abbrev pub NameFull : Option (List ℕ) → Type 0
NameFull None = Unit {0}
NameFull (Some name) = name ≢ []

-- of a function of a script
pub record FullFunction (f : Inner) : Type 0 where
  pub scopes : ScopesFull (function_scopes f.kind f.name f.func)
  pub name : NameFull f.name

-- of a script and all its functions
pub record FullNames (items : Stmts) : Type 0 where
  pub top : ScopesFull (script_scopes items)
  pub inside : (f : Inner) → IsFunctionOf items f → FullFunction f
