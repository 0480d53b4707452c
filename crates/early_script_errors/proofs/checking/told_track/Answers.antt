use Rattle.early_script_errors.proofs.Checks.{told_track}
use Rattle.early_script_errors.proofs.Regions.{script_few}
use Rattle.early_script_errors.proofs.checking.told_track.Goals as goal

pub returns : goal.returns
returns c = λ texts items of told.
    told_track texts c.args.known items c.args.top c.args.bodies.items c.reverse.new.self.items c.args.first c.new-track.result c.tell_script.new.track c.note_first.new.track c.new-track.ensures c.in_ok-tell_script.ensures.known c.reverse.ensures.items c.in_ok-tell_script.ensures.tells c.note_first.ensures of told

pub tell_script-requires-clause-numbers : goal.tell_script-requires-clause-numbers
tell_script-requires-clause-numbers c = script_few c.args.known c.args.top c.args.bodies.items c.reverse.new.self.items c.args.first c.new-track.result c.requires c.new-track.ensures c.reverse.ensures.items
