-- What clauses see of the structs that hold a `Vec`: the same fields, with lists in their place.
-- All names are atoms here, indexes into a list of texts. This project's own choice.
use Rattle.std.specs.Prelude.{ℕ, List, Option}
use Rattle.stencil_data.specs.declared.functions.Extent.{Extent}
use Rattle.stencil_data.specs.declared.functions.FuncKind.{FuncKind}
use Rattle.stencil_data.specs.declared.records.ClosedName.{ClosedName}
use Rattle.stencil_data.specs.declared.scopes.Binding.{Binding}
use Rattle.stencil_data.specs.declared.scopes.ScopeKind.{ScopeKind}
use Rattle.stencil_data.specs.declared.stencils.TryNote.{TryNote}

-- a `ScopeData`
pub record ScopeView : Type 0 where
  pub kind : ScopeKind
  pub parent : Option ℕ
  pub bindings : List Binding
  pub env_slots : ℕ

-- a `LazyRecord`
pub record RecordView : Type 0 where
  pub extent : Extent
  pub kind : FuncKind
  pub name : Option ℕ
  pub inner : List ℕ
  pub closed : List ClosedName

-- a `FunctionStencil`
pub record FunctionView : Type 0 where
  pub extent : Extent
  pub kind : FuncKind
  pub name : Option ℕ
  pub params : ℕ
  pub scopes : List ScopeView
  pub code : List ℕ
  pub notes : List TryNote
  pub inner : List Extent

-- an `InitialParts`; each text is the list of its units
pub record InitialView : Type 0 where
  pub texts : List (List ℕ)
  pub top : FunctionView
  pub records : List RecordView
