use Rattle.std.proofs.Common.{ℕ, ◌≤◌, length, map}
use Rattle.parse_function.specs.Glued.{Follows, IsStretch}
use Rattle.parse_function.specs.Holes.{span_at}
use Rattle.parse_function.proofs.glued.stretch_behind.Given as goal

-- the stretch begins not after the offset, and follows what the first one follows
abbrev pub invariant-loop-stretch : goal.invariant-loop-stretch
invariant-loop-stretch l = record {
  is : IsStretch l.stretch.glued l.stretch.limit l.stretch.by (map span_at l.stretch.holes.now);
  begins : l.stretch.glued ≤ l.offset;
  follows : (place : ℕ → ℕ) → Follows place l.start.glued l.start.by (map span_at l.start.holes.now) → Follows place l.stretch.glued l.stretch.by (map span_at l.stretch.holes.now);
}

abbrev pub decreases-loop-stretch : goal.decreases-loop-stretch
decreases-loop-stretch l = length l.stretch.holes.now
