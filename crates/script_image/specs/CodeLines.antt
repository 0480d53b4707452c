-- The lines of a code: one for each instruction, and after them one for each try note. The lines are this project's own
-- choice.
use Rattle.std.specs.Prelude.{ℕ, List, [], ◌∷◌, ◌++◌, flat_map, codes}
use Rattle.std.specs.Fmt.{decimal}
use Rattle.stencil_data.specs.declared.stencils.TryNote.{TryNote}
use Rattle.stencil_data.specs.Named.{NamedFunction}
use Rattle.bytecode_buf.specs.Command.{Operand, Nothing, Number, Text, Aliased, Distance, Target, Listed}
use Rattle.script_image.specs.OpNames.{name_of}
use Rattle.script_image.specs.Quoted.{padded, quoted, range_text}

-- a blank and an operand, where there is one
abbrev pub operand_text : Operand → List ℕ
operand_text Nothing = []
operand_text (Number n) = (32 ∷ []) ++ decimal n
operand_text (Text text) = (32 ∷ []) ++ quoted text
operand_text (Aliased hops slot) = (((32 ∷ []) ++ decimal hops) ++ 32 ∷ []) ++ decimal slot
operand_text (Distance distance) = (32 ∷ []) ++ decimal distance
operand_text (Target offset) = (32 ∷ []) ++ decimal offset

-- an instruction's line: two blanks, its offset, its name, its operands
abbrev pub line : Listed → List ℕ
line l = (((((32 ∷ 32 ∷ []) ++ padded l.at) ++ 32 ∷ []) ++ name_of l.command.op) ++ operand_text l.command.operand) ++ 10 ∷ []

abbrev pub listing : List Listed → List ℕ
listing ls = flat_map line ls

abbrev pub note_line : TryNote → List ℕ
note_line note = codes "  catch " ++ range_text note.start note.end ++ codes " depth " ++ decimal note.depth ++ codes "\n"

-- what is printed under the line of a compiled script for its code
abbrev pub code_lines : NamedFunction (List Listed) → List ℕ
code_lines f = listing f.code ++ flat_map note_line f.notes
