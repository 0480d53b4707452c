-- Why the search stops, handed on.
use Rattle.std.proofs.Common.{◌≡◌, Result, Err, IfErr, sym, ap, subst, ◌∙◌}
use Rattle.std.specs.Prelude.{IsErrAnd}
use Rattle.std.proofs.lemmas.Result.{err_from_is_err_and}
use Rattle.code_check.specs.declared.survey.Stop.{Stop}
use Rattle.code_check.specs.declared.survey.Stop.TheVariants as stop
use Rattle.code_check.specs.Survey.{StopsFor}

pub stops_as : {A B : Type 0} (s : Stop) → (A → B) → StopsFor s A → StopsFor s B
stops_as stop.Unsound f a = f a
stops_as stop.NoMemory f a = a

-- a `?` hands on why it stopped
pub handed : {T A B : Type 0} (o : Result T Stop) (s : Stop) → IsErrAnd o (λ y. y ≡ s) → (A → B) → StopsFor s A → IfErr o (λ y. StopsFor y B)
handed {B = B} o s h f a =
    let x = err_from_is_err_and o h in
    subst (λ y. IfErr y (λ z. StopsFor z B)) (ap Err (sym x.2) ∙ sym x.1) (stops_as s f a)
