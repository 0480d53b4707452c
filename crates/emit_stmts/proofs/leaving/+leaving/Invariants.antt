use Rattle.std.proofs.Common.{length}
use Rattle.emit_stmts.proofs.leaving.+leaving.Given as goal

abbrev pub decreases-leaving : goal.decreases-leaving
decreases-leaving l = length l.frames.now
