use Rattle.std.proofs.Common.{◌+◌, refl}
use Rattle.script_scanner.proofs.ScanLemmas.{running_first, running_more}
use Rattle.script_scanner.proofs.SpaceLemmas.{running_spaces}
use Rattle.script_scanner.proofs.scanning.Scanner.run.Goals as goal

pub loop-goes_on-init : goal.loop-goes_on-init
loop-goes_on-init g c = running_first c.args.to (g.T.Source.points c.args.text) c.args.self.now.tokens.items c.args.self.now.braces.items c.args.self.now.after_line c.args.atoms.now c.requires.tokens c.requires.braces c.requires.after_line

pub loop-goes_on-preserved : goal.loop-goes_on-preserved
loop-goes_on-preserved g c =
    running_more c.args.to (g.T.Source.points c.args.text) (g.T.Source.points c.behind-in-loop-goes_on.result) (c.loop-goes_on.at + c.spaces_length-at.result) c.in_ok-taken.taken _ _ _ _ _ _ c.args.atoms.now c.loop-goes_on.atoms c.step.new.atoms c.loop-goes_on.goes_on _
    c.behind-in-loop-goes_on.ensures c.loop-goes_on-test.true
    (running_spaces c.args.to (g.T.Source.points c.args.text) (g.T.Source.points c.behind.result) c.loop-goes_on.at c.spaces_length-at.result _ _ _ c.args.atoms.now c.loop-goes_on.atoms c.loop-goes_on.goes_on
    c.behind.ensures c.loop-goes_on-test.true c.spaces_length-at.ensures.value c.loop-goes_on.invariant)
    c.in_ok-taken.ensures.value c.in_ok-taken.ensures.within refl
