use Rattle.std.proofs.Common.{◌≡◌, ◌++◌, map, take}
use Rattle.holzikra_diff.specs.Hunks.{byte_of}
use Rattle.holzikra_diff.proofs.hunks.append_units.Given as goal

abbrev pub invariant-loop-unit : goal.invariant-loop-unit
invariant-loop-unit l = l.out.items ≡ l.initial.out.items ++ map byte_of (take l.unit-index l.units)
