use Rattle.early_script_errors.proofs.Regions.{told_few}
use Rattle.early_script_errors.proofs.checking.check_told.Goals as goal

pub returns-clause-early : goal.returns-clause-early
returns-clause-early c = λ texts items of told. c.in_ok-checked.ensures.early texts items (c.in_ok-track.ensures texts items of told)

pub returns-clause-functions : goal.returns-clause-functions
returns-clause-functions c = λ texts items of told. c.in_ok-checked.ensures.functions texts items (c.in_ok-track.ensures texts items of told)

pub returns-clause-closed : goal.returns-clause-closed
returns-clause-closed c = λ texts items of told. c.in_ok-checked.ensures.closed texts items (c.in_ok-track.ensures texts items of told)

pub check_track-requires : goal.check_track-requires
check_track-requires c =
    let few = c.requires in
    told_few c.args.known c.args.top c.args.bodies.items c.args.first c.in_ok-track.track few (c.in_ok-track.ensures few.texts few.items few.of few.told)
