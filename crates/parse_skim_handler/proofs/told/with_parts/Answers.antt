use Rattle.std.proofs.Common.{refl}
use Rattle.parse_skim_handler.proofs.Telling.{joined-tell, two-tell, used-tells}
use Rattle.parse_skim_handler.proofs.told.with_parts.Goals as goal

pub returns-in_ok-parts-in-Used : goal.returns-in_ok-parts-in-Used
returns-in_ok-parts-in-Used c = used-tells c.args.told _ c.in-Used.atom c.args.others.value c.in_ok-parts-in-Used.parts.value c.in-Used.is (record { says = λ i rest. refl; found = refl }) c.in_ok-parts-in-Used.ensures

pub returns-in_ok-parts-in-Two : goal.returns-in_ok-parts-in-Two
returns-in_ok-parts-in-Two c =
    two-tell c.args.told _ c.in-Two.first c.in-Two.second c.args.others.value c.in_ok-rest-in-Two.rest.value c.in_ok-parts-in-Two.parts.value c.in-Two.is (record { says = λ i rest. refl; found = refl }) c.in_ok-rest-in-Two.ensures
    c.in_ok-parts-in-Two.ensures

pub returns-in_ok-parts-in_default : goal.returns-in_ok-parts-in_default
returns-in_ok-parts-in_default c =
    joined-tell c.args.told _ c.in_ok-begun-in_default.begun.value c.args.others.value c.in_ok-parts-in_default.parts.value c.in_ok-begun-in_default.ensures
    (record { says = λ i rest. refl; found = refl }) c.in_ok-parts-in_default.ensures
