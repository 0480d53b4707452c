use Rattle.std.proofs.Common.{◌≡◌, map, drop}
use Rattle.parse_track.specs.EarlyErrors.{sooner}
use Rattle.parse_early_handler.specs.Firsts.{first_of}
use Rattle.parse_early_handler.proofs.parts.VecEarlyErrors.first_early.Given as goal

abbrev pub invariant-loop-part : goal.invariant-loop-part
invariant-loop-part g l = sooner l.first (first_of (map g.T.EarlyErrors.first (drop l.part-index l.part-items))) ≡ first_of (map g.T.EarlyErrors.first l.part-items)
