use Rattle.std.proofs.Common.{drop, map, ◌≡◌}
use Rattle.parse_track.specs.EarlyErrors.{smaller}
use Rattle.parse_early_handler.specs.Firsts.{strict_first}
use Rattle.parse_skim_handler.specs.Packed.{stmt_errors}
use Rattle.parse_skim_handler.proofs.forms.first_strict.Given as goal

abbrev pub invariant-loop-item : goal.invariant-loop-item
invariant-loop-item l = smaller l.first (strict_first (drop l.item-index (map stmt_errors l.items))) ≡ strict_first (map stmt_errors l.items)
