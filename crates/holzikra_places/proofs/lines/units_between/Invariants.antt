use Rattle.std.proofs.Common.{◌≡◌, ◌≤◌, ◌-◌, ◌*◌}
use Rattle.holzikra_places.specs.Places.{units_from}
use Rattle.holzikra_places.proofs.lines.units_between.Given as goal

abbrev pub invariant-loop-at : goal.invariant-loop-at
invariant-loop-at l = (l.units ≡ units_from l.text l.start (l.at - l.start)) × (l.units ≤ 2 * (l.at - l.start))
