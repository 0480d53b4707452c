-- The plain values that definitions of scopes and code compute: as the code's own types, with a text
-- wherever these have an atom. This project's own choice; a binding with its text is a `LinkName`.
use Rattle.std.specs.Prelude.{ℕ, List, Option}
use Rattle.stencil_data.specs.declared.chains.LinkName.{LinkName}
use Rattle.stencil_data.specs.declared.functions.Extent.{Extent}
use Rattle.stencil_data.specs.declared.functions.FuncKind.{FuncKind}
use Rattle.stencil_data.specs.declared.scopes.ScopeKind.{ScopeKind}
use Rattle.stencil_data.specs.declared.stencils.TryNote.{TryNote}

-- a scope
pub record NamedScope : Type 0 where
  pub kind : ScopeKind
  pub parent : Option ℕ
  pub bindings : List LinkName
  pub env_slots : ℕ

-- a compiled function or script; what stands for its code is left open
pub record NamedFunction (Code : Type 0) : Type 0 where
  pub extent : Extent
  pub kind : FuncKind
  pub name : Option (List ℕ)
  pub params : ℕ
  pub scopes : List NamedScope
  pub code : Code
  pub notes : List TryNote
  pub inner : List Extent

-- a name that an inner function closes over, and the number of its scope
pub record NamedClosed : Type 0 where
  pub scope : ℕ
  pub text : List ℕ

-- what is kept of a function that is not compiled
pub record NamedRecord : Type 0 where
  pub extent : Extent
  pub kind : FuncKind
  pub name : Option (List ℕ)
  pub inner : List ℕ
  pub closed : List NamedClosed

-- a script compiled lazily: its top, and a record for every function, in order of number
pub record NamedInitial (Code : Type 0) : Type 0 where
  pub top : NamedFunction Code
  pub records : List NamedRecord

-- a script with some functions compiled: for each function, in order of number, its record, and what
-- it was compiled to
pub record NamedMerged (Code : Type 0) : Type 0 where
  pub top : NamedFunction Code
  pub records : List NamedRecord
  pub entries : List (Option (NamedFunction Code))
