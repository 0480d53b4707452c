use Rattle.std.proofs.Common.{◌∙◌, sym, refl}
use Rattle.script_scanner.proofs.ScanLemmas.{moves_blank}
use Rattle.script_scanner.proofs.scanning.Scanner.step_any.Goals as goal

pub returns-in-Some-clause-value : goal.returns-in-Some-clause-value
returns-in-Some-clause-value g c =
    moves_blank c.args.to (g.T.Source.points c.args.rest) c.args.self.now.tokens.items c.args.self.now.braces.items c.args.self.now.after_line _ c.args.atoms.now c.in-Some.blank
    (sym c.blank_at.ensures.value ∙ c.in-Some.is) c.in-Some.ensures.within.0 refl
