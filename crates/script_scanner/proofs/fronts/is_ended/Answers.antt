use Rattle.std.proofs.Common.{List, subst, sym, map}
use Rattle.unit_text.specs.declared.Point.{Point}
use Rattle.unit_text.specs.Points.{code_of}
use Rattle.script_scanner.specs.Fronts.{BeginsEnded}
use Rattle.script_scanner.proofs.fronts.is_ended.Goals as goal

pub returns-in-Some : goal.returns-in-Some
returns-in-Some g c = λ ends. subst (λ (ps : List Point). BeginsEnded (map code_of ps)) (sym c.in-Some.ensures.cases.0) (c.ends_mark.ensures ends)
