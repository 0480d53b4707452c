use Rattle.std.proofs.Common.{◌≡◌, map, drop}
use Rattle.parse_track.specs.EarlyErrors.{sooner}
use Rattle.parse_early_handler.specs.Firsts.{bare_error, first_of}
use Rattle.parse_early_handler.proofs.keys.bare_errors.Given as goal

abbrev pub invariant-loop-bind : goal.invariant-loop-bind
invariant-loop-bind g l = sooner l.first (first_of (map bare_error (drop l.bind-index l.binds))) ≡ first_of (map bare_error l.binds)
