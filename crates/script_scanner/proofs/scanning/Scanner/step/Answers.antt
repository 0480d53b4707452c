use Rattle.script_scanner.proofs.FrontLemmas.{moves_line, moves_mark}
use Rattle.script_scanner.specs.Braces.{in_substitution}
use Rattle.script_scanner.proofs.scanning.Scanner.step.Goals as goal

pub returns-in-LineFeed-clause-value : goal.returns-in-LineFeed-clause-value
returns-in-LineFeed-clause-value g c = moves_line c.args.to (g.T.Source.points c.args.rest) c.args.self.now.tokens.items c.args.self.now.braces.items c.args.self.now.after_line c.args.atoms.now c.in-LineFeed.ensures.value

pub returns-in_ok-taken-in-Mark-clause-value : goal.returns-in_ok-taken-in-Mark-clause-value
returns-in_ok-taken-in-Mark-clause-value g c =
    moves_mark c.args.to c.in-Mark.index (g.T.Source.points c.args.rest) c.args.self.now c.take_mark.new.self c.args.atoms.now c.in_ok-taken-in-Mark.taken
    c.in-Mark.ensures.value.0 (c.in-Mark.ensures.value.1 (in_substitution c.args.self.now.braces.items)) (c.in_ok-taken-in-Mark.ensures.value c.args.atoms.now) c.in_ok-taken-in-Mark.ensures.taken
