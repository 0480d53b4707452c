use Rattle.std.proofs.Common.{◌≡◌, map, take}
use Rattle.serde_json.specs.View.{view}
use Rattle.stencil_data.specs.StandsFor.{named_bindings}
use Rattle.holzikra_objects.specs.Objects.{binding_data}
use Rattle.holzikra_objects.proofs.scopes.bindings_value.Given as goal

abbrev pub invariant-loop-binding : goal.invariant-loop-binding
invariant-loop-binding l = map view l.values.items ≡ map binding_data (named_bindings l.texts (take l.binding-index l.bindings))
