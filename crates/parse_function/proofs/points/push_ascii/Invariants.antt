use Rattle.std.proofs.Common.{◌≡◌, ◌+◌, ◌≤◌, ◌++◌, drop, length}
use Rattle.std.specs.Str.{chars}
use Rattle.std.specs.Vec.{vec_len, vec_capacity}
use Rattle.unit_text.specs.Points.{points_from}
use Rattle.parse_function.proofs.points.push_ascii.Given as goal

-- the points so far, and those of the bytes after them, are those that stood there and those of all bytes, and there is room for them
abbrev pub invariant-loop-at : goal.invariant-loop-at
invariant-loop-at l = record {
  points : l.points.items ++ points_from (l.start + l.at) (drop l.at l.bytes) ≡ l.initial.points.items ++ points_from l.start (chars l.bytes);
  so_far : vec_len l.points ≡ vec_len l.initial.points + l.at;
  room : vec_len l.initial.points + length l.bytes ≤ vec_capacity l.points;
}
