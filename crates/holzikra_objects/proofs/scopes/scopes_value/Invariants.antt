use Rattle.std.proofs.Common.{◌≡◌, ◌++◌, map, drop}
use Rattle.serde_json.specs.View.{view}
use Rattle.stencil_data.specs.StandsFor.{named_scope}
use Rattle.holzikra_objects.specs.Objects.{scopes_data}
use Rattle.holzikra_objects.proofs.scopes.scopes_value.Given as goal

abbrev pub invariant-loop-number : goal.invariant-loop-number
invariant-loop-number l = map view l.values.items ++ scopes_data l.number (map (named_scope l.texts) (drop l.number l.scopes)) ≡ scopes_data 0 (map (named_scope l.texts) l.scopes)
