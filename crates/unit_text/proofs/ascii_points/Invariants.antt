use Rattle.std.proofs.Common.{◌≡◌, ◌≤◌, ◌++◌, drop, length}
use Rattle.std.specs.Vec.{vec_len, vec_capacity}
use Rattle.unit_text.specs.Points.{points_from}
use Rattle.unit_text.proofs.ascii_points.Given as goal

-- the points so far, and those of the bytes after them, are those of the bytes, and there is room for them
abbrev pub invariant-loop-at : goal.invariant-loop-at
invariant-loop-at l = record {
  points : l.points.items ++ points_from l.at (drop l.at l.bytes) ≡ points_from 0 l.bytes;
  so_far : vec_len l.points ≡ l.at;
  room : length l.bytes ≤ vec_capacity l.points;
}
