use Rattle.std.proofs.Common.{arith}
use Rattle.std.proofs.lemmas.Grind.{common_steps}
use Rattle.unit_text.proofs.Blocks.{ascii_cases}
use Rattle.unit_text.proofs.ascii.is_ascii.Goals as goal

pub returns : goal.returns
returns c = record { cases = ascii_cases c.args.bytes.now _ c.ascii_blocks-front.result c.is_ascii.result (grind (arith, common_steps)) c.ascii_blocks-front.ensures.ascii c.is_ascii.ensures.cases }
