use Rattle.std.proofs.Common.{List, ◌∷◌, ◌∙◌, subst, sym, map}
use Rattle.unit_text.specs.declared.Point.{Point}
use Rattle.unit_text.specs.Points.{code_of}
use Rattle.script_scanner.specs.declared.fronts.Front.TheVariants.{Mark}
use Rattle.script_scanner.specs.Fronts.{StandsAt}
use Rattle.script_scanner.proofs.FrontLemmas.{stands_46}
use Rattle.script_scanner.proofs.fronts.dot_before.Goals as goal

pub returns-else-is_digit : goal.returns-else-is_digit
returns-else-is_digit g c = subst (λ (ps : List Point). StandsAt (0x2E ∷ map code_of ps) (Mark 51)) (sym c.in-Some.ensures.cases.0)
    (stands_46 c.in-Some.next.code (map code_of (g.T.Source.points c.in-Some.field-0-1)) c.if-next-eq46.false (sym c.is_digit.ensures.value ∙ c.if-is_digit.false))
