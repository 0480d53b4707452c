use Rattle.std.proofs.Common.{◌+◌, ◌-◌, length, cond}
use Rattle.script_scanner.proofs.ScanLemmas.{IsRunning}
use Rattle.script_scanner.proofs.scanning.Scanner.run.Given as goal

abbrev pub invariant-loop-goes_on : goal.invariant-loop-goes_on
invariant-loop-goes_on g l = IsRunning l.goes_on l.to (g.T.Source.points l.text) l.at l.self.tokens.items l.self.braces.items l.self.after_line l.fn.atoms l.atoms

abbrev pub decreases-loop-goes_on : goal.decreases-loop-goes_on
decreases-loop-goes_on g l = length (g.T.Source.points l.text) - l.at + cond l.goes_on 1 0
