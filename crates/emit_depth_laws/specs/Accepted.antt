-- What a verifier asks of compiled code, but for the numbers of texts and functions: its jumps stay within it, and it has a depth
-- table with its try notes.
use Rattle.std.specs.Prelude.{◌^◌, ◌<◌, List, [], ◌∷◌, length}
use Rattle.stencil_data.specs.declared.stencils.Entry.{Entry}
use Rattle.stencil_data.specs.declared.stencils.Entry.TheVariants as entry
use Rattle.stencil_data.specs.MergedView.{MergedView}
use Rattle.stencil_data.specs.Views.{FunctionView}
use Rattle.bytecode_buf.specs.Layout.{instructions}
use Rattle.bytecode_buf.specs.Machine.{HasDepthTable}
use Rattle.bytecode_flow_laws.specs.Staying.{JumpsWithin}

-- a compiled function; offsets are 64 bits wide
pub record IsAccepted (part : FunctionView) : Type 0 where
  pub jumps : JumpsWithin (length part.code) 0 (instructions part.code)
  pub table : length part.code < 2 ^ 64 → HasDepthTable part.code part.notes

abbrev pub EntryAccepted : Entry → Type 0
EntryAccepted entry.Lazy = Unit {0}
EntryAccepted (entry.Compiled part) = IsAccepted part

abbrev pub EntriesAccepted : List Entry → Type 0
EntriesAccepted [] = Unit {0}
EntriesAccepted (e ∷ es) = EntryAccepted e × EntriesAccepted es

-- all code of a merged stencil
pub record AllAccepted (merged : MergedView) : Type 0 where
  pub top : IsAccepted merged.top
  pub entries : EntriesAccepted merged.entries
