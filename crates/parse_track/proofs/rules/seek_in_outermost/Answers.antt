use Rattle.parse_track.proofs.Seeking.{seek_leaf}
use Rattle.parse_track.proofs.rules.seek_in_outermost.Goals as goal

pub returns-in-Some : goal.returns-in-Some
returns-in-Some c = rw c.in-Some.is (λ rule. seek_leaf c.args.offsets.now rule)
