-- The first of eight early errors and of one that was noted.
use Rattle.std.proofs.Common.{◌≡◌, Option}
use Rattle.parse_track.specs.declared.region.Early.{Early}
use Rattle.parse_track.specs.EarlyErrors.{sooner}

-- the sooner of two at a time, as they are put together
pub in_turn : (noted lexical clash head catch param params reserved jump later late second third middle fourth fifth first : Option Early)
    → later ≡ sooner reserved jump → late ≡ sooner params later → second ≡ sooner param late → third ≡ sooner catch second → middle ≡ sooner head third
    → fourth ≡ sooner clash middle → fifth ≡ sooner lexical fourth → first ≡ sooner noted fifth
    → first ≡ sooner noted (sooner lexical (sooner clash (sooner head (sooner catch (sooner param (sooner params (sooner reserved jump)))))))
in_turn noted lexical clash head catch param params reserved jump later late second third middle fourth fifth first a b c d e f g h = cc

pub same_errors : (noted lexical clash head catch param params reserved jump lexical2 clash2 head2 catch2 param2 params2 reserved2 jump2 : Option Early)
    → lexical ≡ lexical2 → clash ≡ clash2 → head ≡ head2 → catch ≡ catch2 → param ≡ param2 → params ≡ params2 → reserved ≡ reserved2 → jump ≡ jump2
    → sooner noted (sooner lexical (sooner clash (sooner head (sooner catch (sooner param (sooner params (sooner reserved jump)))))))
    ≡ sooner noted (sooner lexical2 (sooner clash2 (sooner head2 (sooner catch2 (sooner param2 (sooner params2 (sooner reserved2 jump2)))))))
same_errors noted lexical clash head catch param params reserved jump lexical2 clash2 head2 catch2 param2 params2 reserved2 jump2 a b c d e f g h = cc
