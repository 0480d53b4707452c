use Rattle.std.proofs.Common.{drop, false, map, ◌≡◌}
use Rattle.parse_track.specs.EarlyErrors.{sooner}
use Rattle.parse_early_handler.specs.Firsts.{protos_first}
use Rattle.parse_skim_handler.specs.Packed.{prop_errors}
use Rattle.parse_skim_handler.proofs.forms.later_protos.Given as goal

abbrev pub invariant-loop-prop : goal.invariant-loop-prop
invariant-loop-prop l = sooner l.first (protos_first l.seen (drop l.prop-index (map prop_errors l.props))) ≡ protos_first false (map prop_errors l.props)
