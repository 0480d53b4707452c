use Rattle.std.proofs.Common.{true}
use Rattle.parse_skim_handler.proofs.Made.{declared-made}
use Rattle.parse_skim_handler.proofs.Meanings.{begun}
use Rattle.parse_skim_handler.proofs.StandingFunctions.{function-stands, function_name-is}
use Rattle.parse_skim_handler.proofs.handler.SkimmingHandler.make_declared.Goals as goal

pub returns : goal.returns
returns c = λ i f h. declared-made i c.in_ok-node.node c.args.func.name f c.in_ok-node.ensures (function_name-is i c.args.func f h) (begun i (c.nothing.ensures i) (c.in_ok-kept.ensures i)) (function-stands i true c.args.func f h)
