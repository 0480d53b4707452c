-- The counts of a script. This project's own choice.
use Rattle.std.specs.Prelude.{ℕ, ◌+◌, length, map, sum}
use Rattle.stencil_data.specs.declared.stencils.Entry.{Entry}
use Rattle.stencil_data.specs.declared.stencils.Entry.TheVariants as entry
use Rattle.stencil_data.specs.MergedView.{MergedView}
use Rattle.stencil_data.specs.Views.{RecordView}
use Rattle.bytecode_buf.specs.Layout.{instructions}

-- how many names of a function are closed over
abbrev pub closed_names : RecordView → ℕ
closed_names lazy = length lazy.closed

-- how many instructions, and how many bytes of code, an entry has
abbrev pub entry_instructions : Entry → ℕ
entry_instructions entry.Lazy = 0
entry_instructions (entry.Compiled part) = length (instructions part.code)

abbrev pub entry_bytes : Entry → ℕ
entry_bytes entry.Lazy = 0
entry_bytes (entry.Compiled part) = length part.code

abbrev pub closed_count : MergedView → ℕ
closed_count merged = sum (map closed_names merged.records)

abbrev pub instruction_count : MergedView → ℕ
instruction_count merged = length (instructions merged.top.code) + sum (map entry_instructions merged.entries)

abbrev pub byte_count : MergedView → ℕ
byte_count merged = length merged.top.code + sum (map entry_bytes merged.entries)
