use Rattle.std.proofs.Common.{◌≡◌, false, drop}
use Rattle.parse_track.specs.EarlyErrors.{sooner}
use Rattle.parse_early_handler.specs.Firsts.{protos_first}
use Rattle.parse_early_handler.proofs.keys.later_protos.Given as goal

abbrev pub invariant-loop-prop : goal.invariant-loop-prop
invariant-loop-prop l = sooner l.first (protos_first l.seen (drop l.prop-index l.props)) ≡ protos_first false l.props
