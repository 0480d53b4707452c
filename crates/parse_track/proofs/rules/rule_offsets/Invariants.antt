use Rattle.std.proofs.Common.{◌≡◌, length, map, drop}
use Rattle.parse_track.specs.EarlyErrors.{smaller, smallest, at_regions}
use Rattle.parse_track.specs.Log.{known_names, told_items, told_region, outermost}
use Rattle.parse_track.specs.Rows.{row_of}
use Rattle.parse_track.specs.Rules.{RegionRule, rule_of, offset_of}
use Rattle.parse_track.proofs.rules.rule_offsets.Given as goal

abbrev pub invariant-loop-region : goal.invariant-loop-region
invariant-loop-region l =
    (rule : RegionRule) →
    smaller (offset_of l.offsets rule) (smallest (at_regions (rule_of rule (known_names l.known)) (told_items (map row_of l.rows) (told_region (length l.rows) (map row_of l.rows)) (outermost l.region (map row_of (drop l.region l.rows))))))
    ≡ smallest (at_regions (rule_of rule (known_names l.known)) (told_items (map row_of l.rows) (told_region (length l.rows) (map row_of l.rows)) (outermost 0 (map row_of l.rows))))
