use Rattle.std.proofs.Common.{map}
use Rattle.unit_text.specs.Points.{code_of}
use Rattle.script_scanner.specs.Braces.{in_substitution}
use Rattle.script_scanner.proofs.KnownLemmas.{name_found}
use Rattle.script_scanner.proofs.ScanLemmas.{moves_token}
use Rattle.script_scanner.proofs.scanning.Scanner.take_name.Goals as goal

pub returns-clause-value : goal.returns-clause-value
returns-clause-value g c =
    moves_token c.args.to (g.T.Source.points c.args.rest) c.in_ok-found.found _ c.take.new.self c.args.atoms.now c.take.new.atoms c.in_ok-taken.taken
    c.in_ok-taken.ensures.value c.in_ok-taken.ensures.taken c.in_ok-found.ensures.within.0 c.requires.bare
    (name_found (in_substitution c.args.self.now.braces.items) (map code_of (g.T.Source.points c.args.rest)) c.in_ok-found.found c.name_piece.new.units.items c.requires.begins c.in_ok-found.ensures.value)
