-- How edits are written, each in a line of its own. This project's own choice; the first characters are those of `diff -u`, but for
-- lines that are passed, which it leaves out.
use Rattle.std.specs.Prelude.{ℕ, nat_lt, if◌then◌else◌, List, [], ◌∷◌, ◌++◌, map, flat_map, codes}
use Rattle.std.specs.Fmt.{decimal}
use Rattle.holzikra_edits.specs.declared.edits.Edit.{Edit}
use Rattle.holzikra_edits.specs.declared.edits.Edit.TheVariants as edit
use Rattle.holzikra_edits.specs.Lines.{line_of}

-- a unit of a line as a byte; lines of code have no others, and those would be question marks
abbrev pub byte_of : ℕ → ℕ
byte_of unit = if nat_lt unit 256 then unit else 63

-- a line behind its mark
abbrev pub marked_line : ℕ → List ℕ → List ℕ
marked_line mark line = (mark ∷ 32 ∷ 32 ∷ []) ++ map byte_of line ++ (10 ∷ [])

-- how many lines are passed
abbrev pub passed_text : ℕ → List ℕ
passed_text count = codes "~ " ++ decimal count ++ codes " lines\n"

-- an edit: a kept line behind a blank, a removed one behind `-`, an added one behind `+`, and how many are passed
abbrev pub edit_text : List (List ℕ) → Edit → List ℕ
edit_text lines (edit.Keep line) = marked_line 32 (line_of lines line)
edit_text lines (edit.Pass count) = passed_text count
edit_text lines (edit.Remove line) = marked_line 45 (line_of lines line)
edit_text lines (edit.Add line) = marked_line 43 (line_of lines line)

abbrev pub edits_text : List (List ℕ) → List Edit → List ℕ
edits_text lines edits = flat_map (edit_text lines) edits
