use Rattle.std.proofs.Common.{Option, subst}
use Rattle.holzikra_finding.specs.declared.places.Found.{Found}
use Rattle.holzikra_finding.specs.Finding.{IsNarrowestAt}
use Rattle.holzikra_finding.proofs.Narrowest.{narrowest_is_innermost}
use Rattle.holzikra_finding.proofs.places.innermost_at.Goals as goal

pub returns-in-Some : goal.returns-in-Some
returns-in-Some c =
    narrowest_is_innermost c.args.records.now c.args.offset c.in-Some.found
    (subst (λ (o : Option Found). IsNarrowestAt c.args.records.now c.args.records.now c.args.offset o) c.in-Some.is c.narrowest_at.ensures)
