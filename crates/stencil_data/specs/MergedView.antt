-- What clauses see of a `MergedStencil`: the same fields, with lists in their place.
use Rattle.std.specs.Prelude.{ℕ, List}
use Rattle.stencil_data.specs.declared.stencils.Entry.{Entry}
use Rattle.stencil_data.specs.Views.{FunctionView, RecordView}

pub record MergedView : Type 0 where
  pub texts : List (List ℕ)
  pub top : FunctionView
  pub records : List RecordView
  pub entries : List Entry
