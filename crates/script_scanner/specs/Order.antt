-- Points in the order of a text.
use Rattle.std.specs.Prelude.{ℕ, List}
use Rattle.unit_text.specs.declared.Point.{Point}
use Rattle.unit_text.specs.Points.{LieEndToEnd}

-- The points lie end to end from some offset on, and none is empty.
abbrev pub AreInOrder : List Point → Type 0
AreInOrder points = (at : ℕ) × LieEndToEnd at points
