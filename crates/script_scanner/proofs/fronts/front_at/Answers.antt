use Rattle.std.proofs.Common.{List, ◌∙◌, subst, sym, map}
use Rattle.unit_text.specs.declared.Point.{Point}
use Rattle.unit_text.specs.Points.{code_of}
use Rattle.script_scanner.specs.declared.fronts.Front.TheVariants.{Name}
use Rattle.script_scanner.specs.Fronts.{StandsAt}
use Rattle.script_scanner.proofs.FrontLemmas.{stands_letter}
use Rattle.script_scanner.proofs.Lists.{behind_first}
use Rattle.script_scanner.proofs.fronts.front_at.Goals as goal

pub returns-then-is_ascii_alphabetic-clause-value : goal.returns-then-is_ascii_alphabetic-clause-value
returns-then-is_ascii_alphabetic-clause-value g c = subst (λ (ps : List Point). StandsAt (map code_of ps) Name) (sym c.in-Some.ensures.cases.0)
    (stands_letter c.in-Some.first.code (map code_of (g.T.Source.points c.in-Some.field-0-1)) (sym c.is_ascii_alphabetic.ensures.value ∙ c.if-is_ascii_alphabetic.true))

pub returns-else-is_ascii_alphabetic-clause-value : goal.returns-else-is_ascii_alphabetic-clause-value
returns-else-is_ascii_alphabetic-clause-value g c = subst (λ (ps : List Point). StandsAt (map code_of ps) c.front_with.result)
    (sym (behind_first (g.T.Source.points c.args.rest) _ (g.T.Source.points c.behind.result) c.in-Some.first c.in-Some.ensures.cases.0 c.behind.ensures))
    c.front_with.ensures
