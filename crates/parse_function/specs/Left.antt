-- What is left of a function's text without its holes.
use Rattle.std.specs.Prelude.{ℕ, List, map}
use Rattle.stencil_data.specs.declared.functions.Extent.{Extent}
use Rattle.unit_text.specs.declared.Point.{Point}
use Rattle.parse_function.specs.declared.holes.Hole.{Hole}
use Rattle.parse_function.specs.Holes.{span_at}
use Rattle.parse_function.specs.Without.{points_without}

-- the points that are scanned: those of an extent of a file, with a blank in place of what stands in each hole
abbrev pub points_left : List ℕ → Extent → List Hole → List Point
points_left file extent holes = points_without file extent.start extent.end (map span_at holes)
