use Rattle.std.proofs.Common.{◌<◌, ◌≤◌, length, subst}
use Rattle.std.specs.Prelude.{Option, map, IfSome}
use Rattle.unit_text.specs.Points.{code_of}
use Rattle.script_scanner.specs.declared.pieces.FoundToken.{FoundToken}
use Rattle.script_scanner.proofs.ScanLemmas.{moves_token, moves_end, finds_under}
use Rattle.script_scanner.proofs.scanning.Scanner.take_any.Goals as goal

pub returns-in_ok-taken-in-Some-clause-value : goal.returns-in_ok-taken-in-Some-clause-value
returns-in_ok-taken-in-Some-clause-value g c =
    let fits : 0 < c.in-Some.found.length = (subst (λ (o : Option FoundToken). IfSome o (λ found. (0 < found.length) × (found.length ≤ length (g.T.Source.points c.args.rest)))) c.in-Some.is c.in_ok-found.ensures.within).0 in
    moves_token c.args.to (g.T.Source.points c.args.rest) c.in-Some.found _ c.take.new.self c.args.atoms.now c.take.new.atoms c.in_ok-taken-in-Some.taken
    c.in_ok-taken-in-Some.ensures.value c.in_ok-taken-in-Some.ensures.taken fits c.requires.bare
    (finds_under c.in_substitution.result c.args.self.now.braces.items c.as_slice.result.now (map code_of (g.T.Source.points c.args.rest)) c.token_at.new.units.items _ _
    c.in_substitution.ensures c.as_slice.ensures.value c.in-Some.is c.in_ok-found.ensures.value)

pub returns-in_ok-taken-in-None-clause-value : goal.returns-in_ok-taken-in-None-clause-value
returns-in_ok-taken-in-None-clause-value g c =
    moves_end c.args.to (g.T.Source.points c.args.rest) c.args.self.now.tokens.items c.finish.new.self.tokens.items c.args.self.now.braces.items c.finish.new.self.braces.items
    c.args.self.now.after_line c.finish.new.self.after_line c.args.atoms.now c.token_at.new.units.items c.in_ok-taken-in-None.taken
    c.in_ok-taken-in-None.ensures.value c.in_ok-taken-in-None.ensures.taken c.requires.bare
    (finds_under c.in_substitution.result c.args.self.now.braces.items c.as_slice.result.now (map code_of (g.T.Source.points c.args.rest)) c.token_at.new.units.items _ _
    c.in_substitution.ensures c.as_slice.ensures.value c.in-None.is c.in_ok-found.ensures.value)
