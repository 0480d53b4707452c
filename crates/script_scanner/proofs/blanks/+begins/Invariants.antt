use Rattle.std.proofs.Common.{length}
use Rattle.script_scanner.proofs.blanks.+begins.Given as goal

abbrev pub decreases-begins : goal.decreases-begins
decreases-begins g l = length l.text.now
