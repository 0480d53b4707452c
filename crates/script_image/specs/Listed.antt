-- What a merged stencil is listed as: each code as the list of its whole instructions, and a text in place of each atom.
use Rattle.std.specs.Prelude.{◌≡◌, ℕ, List, length, map, Option, Some, None, option_map}
use Rattle.stencil_data.specs.declared.stencils.Entry.{Entry}
use Rattle.stencil_data.specs.declared.stencils.Entry.TheVariants as entry
use Rattle.stencil_data.specs.MergedView.{MergedView}
use Rattle.stencil_data.specs.Named.{NamedFunction, NamedMerged}
use Rattle.stencil_data.specs.StandsFor.{text_at, named_scope, named_record}
use Rattle.stencil_data.specs.Views.{FunctionView}
use Rattle.bytecode_buf.specs.Layout.{instructions}
use Rattle.bytecode_buf.specs.Command.{Listed, listed}

-- bytes stand for these instructions
abbrev pub ShowsListed : List (List ℕ) → List ℕ → List Listed → Type 0
ShowsListed texts code ls = listed texts code ≡ ls

-- a compiled function by the texts beside it; what stands in place of an atom that is no text's is the empty text
abbrev pub listed_script : List (List ℕ) → FunctionView → NamedFunction (List Listed)
listed_script texts part = record {
  extent = part.extent;
  kind = part.kind;
  name = option_map (text_at texts) part.name;
  params = part.params;
  scopes = map (named_scope texts) part.scopes;
  code = listed texts part.code;
  notes = part.notes;
  inner = part.inner;
}

abbrev pub listed_entry : List (List ℕ) → Entry → Option (NamedFunction (List Listed))
listed_entry texts entry.Lazy = None
listed_entry texts (entry.Compiled part) = Some (listed_script texts part)

abbrev pub listed_stencil : MergedView → NamedMerged (List Listed)
listed_stencil merged = record {
  top = listed_script merged.texts merged.top;
  records = map (named_record merged.texts) merged.records;
  entries = map (listed_entry merged.texts) merged.entries;
}

-- how many instructions an entry has
abbrev pub entry_size : Entry → ℕ
entry_size entry.Lazy = 0
entry_size (entry.Compiled part) = length (instructions part.code)
