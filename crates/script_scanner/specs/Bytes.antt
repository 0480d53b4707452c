-- The points of bytes each of which is one code point.
use Rattle.std.specs.Prelude.{ℕ, ◌+◌, List, [], ◌∷◌}
use Rattle.unit_text.specs.declared.Point.{Point}

-- They stand one after the other from an offset on, a byte each.
abbrev pub byte_points : ℕ → List ℕ → List Point
byte_points at [] = []
byte_points at (b ∷ bytes) = record { code = b; start = at; end = at + 1 } ∷ byte_points (at + 1) bytes
