-- Try notes in the making.
use Rattle.std.specs.Prelude.{ℕ, zero, suc, List, [], ◌∷◌}
use Rattle.stencil_data.specs.declared.stencils.TryNote.{TryNote}

-- the note with this number ends at this offset
abbrev pub ended : ℕ → ℕ → List TryNote → List TryNote
ended end number [] = []
ended end zero (n ∷ ns) = record { start = n.start; end = end; depth = n.depth } ∷ ns
ended end (suc number) (n ∷ ns) = n ∷ ended end number ns
