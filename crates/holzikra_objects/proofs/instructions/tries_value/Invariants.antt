use Rattle.std.proofs.Common.{◌≡◌, map, take}
use Rattle.serde_json.specs.View.{view}
use Rattle.holzikra_objects.specs.Objects.{try_data}
use Rattle.holzikra_objects.proofs.instructions.tries_value.Given as goal

abbrev pub invariant-loop-note : goal.invariant-loop-note
invariant-loop-note l = map view l.values.items ≡ map try_data (take l.note-index l.notes)
