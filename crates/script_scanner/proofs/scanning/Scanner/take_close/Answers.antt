use Rattle.std.proofs.Common.{◌≡◌, ◌∙◌, Bool, subst, sym, ap, map, false}
use Rattle.std.specs.Prelude.{Some}
use Rattle.unit_text.specs.Points.{code_of}
use Rattle.script_scanner.specs.Braces.{in_substitution}
use Rattle.script_scanner.specs.Fronts.{lone_mark}
use Rattle.script_scanner.specs.Tokens.{token_at}
use Rattle.script_scanner.proofs.FrontLemmas.{moves_mark}
use Rattle.script_scanner.proofs.scanning.Scanner.take_close.Goals as goal

pub returns-in_ok-taken-2-clause-value : goal.returns-in_ok-taken-2-clause-value
returns-in_ok-taken-2-clause-value g c =
    let apart : false ≡ in_substitution c.args.self.now.braces.items = sym c.if-in_substitution.false ∙ c.in_substitution.ensures ∙ ap in_substitution c.as_slice.ensures.value in
    moves_mark c.args.to 1 (g.T.Source.points c.args.rest) c.args.self.now c.take_mark.new.self c.args.atoms.now c.in_ok-taken-2.taken
    c.requires.closes.0 (subst (λ (b : Bool). token_at b (map code_of (g.T.Source.points c.args.rest)) ≡ Some (lone_mark 1)) apart c.requires.closes.1)
    (c.in_ok-taken-2.ensures.value c.args.atoms.now) c.in_ok-taken-2.ensures.taken
