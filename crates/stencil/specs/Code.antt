-- The instructions of a code as they are read.
use Rattle.std.specs.Prelude.{ℕ, ◌+◌, List, [], ◌∷◌, drop}
use Rattle.bytecode_buf.specs.declared.instruction.Instr.{Instr}
use Rattle.bytecode_buf.specs.Layout.{Numbered, instr_at, instructions}
use Rattle.bytecode_buf.specs.Width.{width_of}

-- each of these instructions as it is read, with its offset, where the first one has this offset
abbrev pub placed : ℕ → List Numbered → List (ℕ × Instr)
placed at [] = []
placed at (i ∷ is) = (at, instr_at at i) ∷ placed (at + width_of i.op) is

-- the whole instructions of a code from an offset on
abbrev pub instructions_from : List ℕ → ℕ → List (ℕ × Instr)
instructions_from code at = placed at (instructions (drop at code))

-- the whole instructions of a code
abbrev pub instructions_in : List ℕ → List (ℕ × Instr)
instructions_in code = placed 0 (instructions code)
