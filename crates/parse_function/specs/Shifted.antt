-- Points of a text that stands further after.
use Rattle.std.specs.Prelude.{ℕ, ◌+◌, ◌<◌, ◌^◌, List, length, slice_index_or}
use Rattle.unit_text.specs.declared.Point.{Point}

-- the point that stands n bytes further after
abbrev pub shifted : ℕ → Point → Point
shifted by p = record { code = p.code; start = p.start + by; end = p.end + by }

-- each of these points then still begins and ends at an offset of four bytes
pub record FitsShifted (by : ℕ) (ps : List Point) : Type 0 where
  pub starts : (k : ℕ) (d : Point) → k < length ps → (slice_index_or ps k d).start + by < 2 ^ 32
  pub ends : (k : ℕ) (d : Point) → k < length ps → (slice_index_or ps k d).end + by < 2 ^ 32
