use Rattle.unit_text.proofs.Blocks.{ascii_of_mask}
use Rattle.unit_text.proofs.ascii.is_ascii_block.Goals as goal

pub returns : goal.returns
returns c = ascii_of_mask c.args.block c.fits-block.0
