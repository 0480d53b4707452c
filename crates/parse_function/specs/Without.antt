-- The points of a part of a file, with a blank in place of what stands in some spans.
use Rattle.std.specs.Prelude.{ℕ, ◌-◌, ◌≤◌, List, [], ◌∷◌, ◌++◌, length, take, drop}
use Rattle.std.specs.Str.{IsUtf8, chars}
use Rattle.unit_text.specs.declared.Point.{Point}
use Rattle.unit_text.specs.Points.{points_from}
use Rattle.scan_skip_laws.specs.Spans.{Span, blank}

-- the bytes between two offsets of a file are UTF-8
pub record IsPart (file : List ℕ) (from to : ℕ) : Type 0 where
  pub order : from ≤ to
  pub within : to ≤ length file
  pub utf8 : IsUtf8 (take (to - from) (drop from file))

-- Spans lie between two offsets, one after the other. What stands in front of each of them, and after the last, is UTF-8.
abbrev pub AreParts : List ℕ → ℕ → ℕ → List Span → Type 0
AreParts file from to [] = IsPart file from to
AreParts file from to (s ∷ spans) = IsPart file from s.from × (s.from ≤ s.to) × AreParts file s.to to spans

-- the points of the code points between two offsets
abbrev pub points_between : List ℕ → ℕ → ℕ → List Point
points_between file from to = points_from from (chars (take (to - from) (drop from file)))

abbrev pub points_without : List ℕ → ℕ → ℕ → List Span → List Point
points_without file from to [] = points_between file from to
points_without file from to (s ∷ spans) = points_between file from s.from ++ (blank s.from s.to ++ points_without file s.to to spans)
