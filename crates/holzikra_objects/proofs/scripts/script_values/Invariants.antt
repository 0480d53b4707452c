use Rattle.std.proofs.Common.{◌≡◌, ◌+◌, ◌++◌, map}
use Rattle.serde_json.specs.View.{view}
use Rattle.script_image.specs.Listed.{listed_stencil}
use Rattle.holzikra_objects.specs.Objects.{scripts_data, shown}
use Rattle.holzikra_objects.proofs.ScriptSteps.{left_from}
use Rattle.holzikra_objects.proofs.scripts.script_values.Given as goal

abbrev pub invariant-loop-index : goal.invariant-loop-index
invariant-loop-index l = map view l.values.items ++ left_from (shown l.listing l.merged.texts l.notes) l.merged.texts (l.index + 1) l.index l.merged.records l.merged.entries ≡ scripts_data (shown l.listing l.merged.texts l.notes) (listed_stencil l.merged)
