use Rattle.std.proofs.Common.{◌≡◌, ◌++◌, map, drop}
use Rattle.serde_json.specs.View.{view}
use Rattle.stencil_data.specs.StandsFor.{named_closed}
use Rattle.holzikra_objects.specs.Objects.{all_closed_data}
use Rattle.holzikra_objects.proofs.scripts.all_closed_value.Given as goal

abbrev pub invariant-loop-index : goal.invariant-loop-index
invariant-loop-index l = map view l.values.items ++ all_closed_data l.users l.index (map (named_closed l.texts) (drop l.index l.names)) ≡ all_closed_data l.users 0 (map (named_closed l.texts) l.names)
