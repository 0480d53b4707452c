use Rattle.parse_track.specs.Told as told
use Rattle.parse_skim_handler.proofs.Meanings.{adds-region, begun, if_ok}
use Rattle.parse_skim_handler.proofs.parts.skim_block.Goals as goal

pub returns : goal.returns
returns c = if_ok c.region.result c.region.ensures (λ made h i. adds-region i told.Block 0 (begun i (c.nothing.ensures i) (c.in_ok-inside.ensures i)) (h i))
