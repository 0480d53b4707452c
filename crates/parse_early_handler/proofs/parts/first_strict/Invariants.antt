use Rattle.std.proofs.Common.{◌≡◌, drop}
use Rattle.parse_track.specs.EarlyErrors.{smaller}
use Rattle.parse_early_handler.specs.Firsts.{strict_first}
use Rattle.parse_early_handler.proofs.parts.first_strict.Given as goal

abbrev pub invariant-loop-item : goal.invariant-loop-item
invariant-loop-item l = smaller l.first (strict_first (drop l.item-index l.items)) ≡ strict_first l.items
