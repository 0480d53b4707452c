use Rattle.script_scanner.proofs.OrderLemmas.{part_is_small}
use Rattle.script_scanner.proofs.scanning.scan.Goals as goal

pub new-text-requires : goal.new-text-requires
new-text-requires c = part_is_small c.args.from c.args.to c.args.points.now c.part.result.now c.part.ensures.value c.requires.fits
