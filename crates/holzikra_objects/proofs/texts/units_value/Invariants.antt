use Rattle.std.proofs.Common.{◌≡◌, map, take}
use Rattle.serde_json.specs.View.{view}
use Rattle.holzikra_json.specs.Lines.{whole}
use Rattle.holzikra_objects.proofs.texts.units_value.Given as goal

abbrev pub invariant-loop-unit : goal.invariant-loop-unit
invariant-loop-unit l = map view l.values.items ≡ map whole (take l.unit-index l.units)
