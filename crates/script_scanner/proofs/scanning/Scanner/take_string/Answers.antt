use Rattle.script_scanner.proofs.KnownLemmas.{moves_known}
use Rattle.script_scanner.proofs.scanning.Scanner.take_string.Goals as goal

pub returns-in_ok-taken-in-Some-clause-value : goal.returns-in_ok-taken-in-Some-clause-value
returns-in_ok-taken-in-Some-clause-value g c =
    moves_known c.args.to (g.T.Source.points c.args.rest) c.in-Some.known c.args.self.now c.take_known.new.self c.args.atoms.now c.in_ok-taken-in-Some.taken
    c.in-Some.ensures.value c.in_ok-taken-in-Some.ensures.value c.in_ok-taken-in-Some.ensures.taken c.requires.bare
