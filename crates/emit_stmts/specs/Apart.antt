-- Jumps that wait for a clause of a switch, and code in which none is left.
use Rattle.std.specs.Prelude.{◌≡◌, ℕ, Bool, true, false, [], ◌∷◌}
use Rattle.bytecode_buf.specs.declared.waits.Aim.{Aim}
use Rattle.bytecode_buf.specs.declared.waits.Aim.TheVariants as aim
use Rattle.bytecode_buf.specs.Command.{Command}
use Rattle.bytecode_buf.specs.Pieces.{Piece, Whole, Waiting, Trying, Code}

abbrev pub is_clause : Aim → Bool
is_clause (aim.Clause place) = true
is_clause aim.Otherwise = false
is_clause aim.After = false
is_clause (aim.Break level) = false
is_clause (aim.Continue level) = false

-- the place of the clause
abbrev pub place_of : Aim → ℕ
place_of (aim.Clause place) = place
place_of _ = 0

-- the piece is a jump that waits for a clause
abbrev pub to_clause : Piece Command → Bool
to_clause (Whole command) = false
to_clause (Waiting op aim) = is_clause aim
to_clause (Trying size depth) = false

-- no jump of the code waits for a clause
abbrev pub Apart : Code → Type 0
Apart [] = Unit {0}
Apart (p ∷ ps) = (to_clause p ≡ false) × Apart ps
