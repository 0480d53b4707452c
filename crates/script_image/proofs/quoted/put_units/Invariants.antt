use Rattle.std.proofs.Common.{◌≡◌, ◌++◌, take, flat_map}
use Rattle.script_image.specs.Quoted.{quoted_unit}
use Rattle.script_image.proofs.quoted.put_units.Given as goal

abbrev pub invariant-loop-unit : goal.invariant-loop-unit
invariant-loop-unit l = l.out.items ++ l.chunk.items ≡ (l.initial.out.items ++ l.initial.chunk.items) ++ flat_map quoted_unit (take l.unit-index l.units)
