use Rattle.std.proofs.Common.{◌≡◌, ◌++◌}
use Rattle.std.specs.List.{flat_map}
use Rattle.parse_handlers.proofs.gather.VecGather.gather.Given as goal

abbrev pub invariant-loop-part : goal.invariant-loop-part
invariant-loop-part g l = l.into.items ≡ l.initial.into.items ++ flat_map g.T.Gather.holds l.yielded
