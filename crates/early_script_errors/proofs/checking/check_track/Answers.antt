use Rattle.parse_track.specs.Scopes.{bounds_of}
use Rattle.early_script_errors.proofs.Checks.{early, functions, closed_over}
use Rattle.early_script_errors.proofs.Regions.{track_few}
use Rattle.early_script_errors.proofs.checking.check_track.Goals as goal

pub returns-clause-early : goal.returns-clause-early
returns-clause-early c = early c.args.track c.in_ok-tracked.tracked.early c.in_ok-tracked.ensures.early

pub returns-clause-functions : goal.returns-clause-functions
returns-clause-functions c = functions c.args.track c.functions-functions.result c.functions-functions.ensures

pub returns-clause-closed : goal.returns-clause-closed
returns-clause-closed c = closed_over c.args.track (bounds_of c.in_ok-tracked.tracked.closed.items) c.in_ok-tracked.ensures.closed

pub finish-requires : goal.finish-requires
finish-requires c = track_few c.args.track c.requires
