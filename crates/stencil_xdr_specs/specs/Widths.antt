-- Merged stencils whose numbers fit the widths in which images write them: this project's own choice. They are the widths of
-- the numbers' types, so that every stencil of the code has them.
use Rattle.std.specs.Prelude.{ℕ, ◌^◌, ◌<◌, List, [], ◌∷◌, length, All}
use Rattle.stencil_data.specs.declared.functions.Extent.{Extent}
use Rattle.stencil_data.specs.declared.records.ClosedName.{ClosedName}
use Rattle.stencil_data.specs.declared.scopes.Binding.{Binding}
use Rattle.stencil_data.specs.declared.scopes.Slot.{Slot}
use Rattle.stencil_data.specs.declared.scopes.Slot.TheVariants as slot
use Rattle.stencil_data.specs.declared.stencils.Entry.{Entry}
use Rattle.stencil_data.specs.declared.stencils.Entry.TheVariants as entry
use Rattle.stencil_data.specs.declared.stencils.TryNote.{TryNote}
use Rattle.stencil_data.specs.MergedView.{MergedView}
use Rattle.stencil_data.specs.Views.{ScopeView, RecordView, FunctionView}

abbrev pub TextFits : List ℕ → Type 0
TextFits text = All (λ unit. unit < 2 ^ 16) text

abbrev pub ExtentFits : Extent → Type 0
ExtentFits e = (e.start < 2 ^ 32) × (e.end < 2 ^ 32)

abbrev pub SlotFits : Slot → Type 0
SlotFits slot.Global = Unit {0}
SlotFits (slot.Arg i) = i < 2 ^ 32
SlotFits (slot.Frame i) = i < 2 ^ 32
SlotFits (slot.Env i) = i < 2 ^ 32
SlotFits slot.Callee = Unit {0}

abbrev pub ScopeFits : ScopeView → Type 0
ScopeFits s = All (λ (b : Binding). SlotFits b.slot) s.bindings

abbrev pub NoteFits : TryNote → Type 0
NoteFits n = (n.start < 2 ^ 64) × (n.end < 2 ^ 64) × (n.depth < 2 ^ 32)

pub record FunctionFits (f : FunctionView) : Type 0 where
  pub extent : ExtentFits f.extent
  pub scopes : All ScopeFits f.scopes
  pub code : length f.code < 2 ^ 64
  pub notes : All NoteFits f.notes
  pub inner : All ExtentFits f.inner

pub record RecordFits (r : RecordView) : Type 0 where
  pub extent : ExtentFits r.extent
  pub closed : All (λ (c : ClosedName). c.scope < 2 ^ 32) r.closed

abbrev pub EntryFits : Entry → Type 0
EntryFits entry.Lazy = Unit {0}
EntryFits (entry.Compiled f) = FunctionFits f

pub record NumbersFit (m : MergedView) : Type 0 where
  pub texts : All TextFits m.texts
  pub top : FunctionFits m.top
  pub records : All RecordFits m.records
  pub entries : All EntryFits m.entries
