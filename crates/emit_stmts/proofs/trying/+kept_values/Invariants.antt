use Rattle.std.proofs.Common.{length}
use Rattle.emit_stmts.proofs.trying.+kept_values.Given as goal

abbrev pub decreases-kept_values : goal.decreases-kept_values
decreases-kept_values l = length l.frames.now
