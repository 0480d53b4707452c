-- The lines of the scripts of a file, in order of number: the top, and each function compiled or by its record. The lines
-- are this project's own choice.
use Rattle.std.specs.Prelude.{ℕ, ◌+◌, List, [], ◌∷◌, ◌++◌, length, map, sum, Option, Some, None, option_map, codes}
use Rattle.std.specs.Fmt.{decimal}
use Rattle.stencil_data.specs.declared.functions.Extent.{Extent}
use Rattle.stencil_data.specs.Named.{NamedFunction, NamedClosed, NamedRecord, NamedMerged}
use Rattle.bytecode_buf.specs.Command.{Command, Listed, placed}
use Rattle.script_image.specs.Quoted.{quoted, name_text, extent_text, list_text}
use Rattle.script_image.specs.CodeLines.{code_lines}
use Rattle.script_image.specs.ScopeLines.{scope_lines}

-- ---- the line of a script

abbrev pub script_text : ℕ → List ℕ → Extent → List ℕ
script_text number how extent = codes "script " ++ decimal number ++ codes " " ++ how ++ codes " " ++ extent_text extent

abbrev pub top_line : Extent → List ℕ
top_line extent = script_text 0 (codes "top") extent ++ codes "\n"

abbrev pub function_line : ℕ → NamedFunction (List Listed) → List ℕ
function_line number f = script_text number (codes "function") f.extent ++ codes " " ++ name_text f.name ++ codes "\n"

-- a name that is closed over, after the number of its scope
abbrev pub closed_text : NamedClosed → List ℕ
closed_text c = decimal c.scope ++ codes ":" ++ quoted c.text

abbrev pub lazy_line : ℕ → NamedRecord → List ℕ
lazy_line number r =
    script_text number (codes "lazy") r.extent ++ codes " " ++ name_text r.name ++ codes " inner " ++ list_text (map decimal r.inner)
    ++ codes " closed " ++ list_text (map closed_text r.closed) ++ codes "\n"

-- ---- all scripts, where `lines` are those under the line of a compiled one

abbrev pub Lines : Type 0
Lines = NamedFunction (List Listed) → List ℕ

abbrev pub script_lines : Lines → ℕ → NamedRecord → Option (NamedFunction (List Listed)) → List ℕ
script_lines lines number r None = lazy_line number r
script_lines lines number r (Some f) = function_line number f ++ lines f

abbrev pub scripts_from : Lines → ℕ → List NamedRecord → List (Option (NamedFunction (List Listed))) → List ℕ
scripts_from lines number [] es = []
scripts_from lines number (r ∷ rs) [] = []
scripts_from lines number (r ∷ rs) (e ∷ es) = script_lines lines number r e ++ scripts_from lines (number + 1) rs es

abbrev pub text_of : Lines → NamedMerged (List Listed) → List ℕ
text_of lines merged = top_line merged.top.extent ++ lines merged.top ++ scripts_from lines 1 merged.records merged.entries

abbrev pub code_text : NamedMerged (List Listed) → List ℕ
code_text merged = text_of code_lines merged

abbrev pub scope_text : NamedMerged (List Listed) → List ℕ
scope_text merged = text_of scope_lines merged

-- ---- how many instructions all scripts have

abbrev pub entry_instructions : Option (NamedFunction (List Listed)) → ℕ
entry_instructions None = 0
entry_instructions (Some f) = length f.code

abbrev pub instruction_count : NamedMerged (List Listed) → ℕ
instruction_count merged = length merged.top.code + sum (map entry_instructions merged.entries)

-- ---- codes of commands with distances, as they are listed

abbrev pub listed_function : NamedFunction (List Command) → NamedFunction (List Listed)
listed_function f = record {
  extent = f.extent;
  kind = f.kind;
  name = f.name;
  params = f.params;
  scopes = f.scopes;
  code = placed f.code;
  notes = f.notes;
  inner = f.inner;
}

abbrev pub listed_merged : NamedMerged (List Command) → NamedMerged (List Listed)
listed_merged merged = record {
  top = listed_function merged.top;
  records = merged.records;
  entries = map (λ (e : Option (NamedFunction (List Command))). option_map listed_function e) merged.entries;
}
