use Rattle.std.proofs.Common.{◌≡◌, map, take}
use Rattle.serde_json.specs.View.{view}
use Rattle.holzikra_json.specs.Lines.{whole}
use Rattle.holzikra_objects.proofs.lists.wholes.Given as goal

abbrev pub invariant-loop-number : goal.invariant-loop-number
invariant-loop-number l = map view l.values.items ≡ map whole (take l.number-index l.numbers)
