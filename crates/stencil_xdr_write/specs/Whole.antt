-- The items of stencils whose codes are cut after their last whole instruction.
use Rattle.std.specs.Prelude.{List, ◌++◌, flat_map, ℕ}
use Rattle.stencil_data.specs.declared.stencils.Entry.{Entry}
use Rattle.stencil_data.specs.declared.stencils.Entry.TheVariants as entry
use Rattle.stencil_data.specs.MergedView.{MergedView}
use Rattle.stencil_data.specs.Views.{FunctionView}
use Rattle.bytecode_buf.specs.Layout.{instructions, layout}
use Rattle.stencil_xdr_specs.specs.Image as image
use Rattle.stencil_xdr_specs.specs.Image.{Item, list, record_items}
use Rattle.stencil_xdr_specs.specs.Widths.{FunctionFits}
use Rattle.stencil_xdr_laws.specs.Bytes.{IsOfBytes}

-- ---- without the bytes after the last whole instruction

abbrev pub whole_code : List ℕ → List ℕ
whole_code code = layout (instructions code)

abbrev pub whole_function : FunctionView → FunctionView
whole_function f = record f { code = whole_code f.code }

abbrev pub whole_entry : Entry → Entry
whole_entry entry.Lazy = entry.Lazy
whole_entry (entry.Compiled f) = entry.Compiled (whole_function f)

-- ---- items

abbrev pub code_items : List ℕ → List Item
code_items code = image.code_items (whole_code code)

abbrev pub function_items : FunctionView → List Item
function_items f = image.function_items (whole_function f)

abbrev pub entry_items : Entry → List Item
entry_items e = image.entry_items (whole_entry e)

abbrev pub stencil_items : MergedView → List Item
stencil_items m = function_items m.top ++ list record_items m.records ++ flat_map entry_items m.entries

-- ---- what is learned of numbers where they are read

-- the numbers of a function fit, and its code is bytes
pub record FunctionHolds (f : FunctionView) : Type 0 where
  pub fits : FunctionFits f
  pub bytes : IsOfBytes f.code

abbrev pub EntryHolds : Entry → Type 0
EntryHolds entry.Lazy = Unit {0}
EntryHolds (entry.Compiled f) = FunctionHolds f
