use Rattle.script_scanner.proofs.OrderLemmas.{points_rise, points_rise_behind, part_is}
use Rattle.script_scanner.proofs.scanning.part.Goals as goal

pub count_before-requires : goal.count_before-requires
count_before-requires c = points_rise c.args.points.now c.requires

pub count_before-requires-2 : goal.count_before-requires-2
count_before-requires-2 c = points_rise_behind c.args.points.now c.points_behind-others.result.now c.count_before.result c.requires c.points_behind-others.ensures

pub returns-clause-value : goal.returns-clause-value
returns-clause-value c =
    part_is c.args.points.now c.points_behind-others.result.now c.points_before.result.now c.args.from c.args.to c.count_before.result c.count_before-2.result
    c.points_behind-others.ensures c.points_before.ensures c.count_before.ensures.parted c.count_before-2.ensures.parted c.count_before.ensures.within
