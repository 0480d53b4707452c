use Rattle.script_image.specs.Cutting.{IsCutTo}
use Rattle.script_image.proofs.cuts.pieces_of.Given as goal

abbrev pub invariant-loop-number : goal.invariant-loop-number
invariant-loop-number l = IsCutTo l.listing l.merged l.cuts l.number
