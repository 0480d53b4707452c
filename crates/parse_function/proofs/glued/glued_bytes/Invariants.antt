use Rattle.std.proofs.Common.{◌≡◌, ◌++◌, map, drop}
use Rattle.parse_function.specs.Glued.{bytes_without}
use Rattle.parse_function.specs.Holes.{span_at}
use Rattle.parse_function.specs.Without.{AreParts}
use Rattle.parse_function.proofs.glued.glued_bytes.Given as goal

-- the bytes so far, and those without the holes that are left
abbrev pub invariant-loop-hole : goal.invariant-loop-hole
invariant-loop-hole l = record {
  joined : l.bytes.items ++ bytes_without l.file l.from l.extent.end (map span_at (drop l.hole-index l.holes)) ≡ bytes_without l.file l.extent.start l.extent.end (map span_at l.holes);
  parts : AreParts l.file l.from l.extent.end (map span_at (drop l.hole-index l.holes));
}
