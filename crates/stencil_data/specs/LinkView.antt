-- What clauses see of a `Link`: the same fields, with a list of names. A `Chain` is a list of these.
use Rattle.std.specs.Prelude.{List, Bool}
use Rattle.stencil_data.specs.declared.chains.LinkName.{LinkName}
use Rattle.stencil_data.specs.declared.scopes.ScopeKind.{ScopeKind}

pub record LinkView : Type 0 where
  pub kind : ScopeKind
  pub env : Bool
  pub names : List LinkName
