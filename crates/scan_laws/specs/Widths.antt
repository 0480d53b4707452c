-- How many bytes points take, each from its first byte to the place after its last.
use Rattle.std.specs.Prelude.{ℕ, ◌+◌, ◌-◌, List, [], ◌∷◌}
use Rattle.unit_text.specs.declared.Point.{Point}

abbrev pub width : Point → ℕ
width point = point.end - point.start

abbrev pub widths : List Point → ℕ
widths [] = 0
widths (p ∷ points) = width p + widths points
