-- What the program shows of a text: what the library `stencil` answers for its bytes alone, with the line and the column of its offset.
use Rattle.std.specs.Prelude.{◌≡◌, ℕ, List, length, min}
use Rattle.holzikra_places.specs.Places.{IsPlace}
use Rattle.holzikra_session.specs.declared.verdict.Spot.{Spot}
use Rattle.holzikra_session.specs.declared.verdict.Reason.{Reason}
use Rattle.holzikra_session.specs.declared.verdict.Reason.TheVariants as reason
use Rattle.holzikra_session.specs.declared.verdict.Verdict.{Verdict}
use Rattle.holzikra_session.specs.declared.verdict.Verdict.TheVariants as verdict
use Rattle.stencil.specs.Answers.{IsChecked}
use Rattle.stencil.specs.declared.answers.Answer.{Answer}
use Rattle.stencil.specs.declared.answers.Answer.TheVariants as answer
use Rattle.stencil.specs.declared.answers.Refusal.{Refusal}
use Rattle.stencil.specs.declared.answers.Refusal.TheVariants as refusal

-- the place at this offset of a text
abbrev pub IsSpot : List ℕ → ℕ → Spot → Type 0
IsSpot text offset spot = (spot.offset ≡ offset) × IsPlace text (min offset (length text)) spot.place.line spot.place.column

-- the reason that is shown for a refusal, with the place at its offset
abbrev pub IsTold : List ℕ → Refusal → Reason → Type 0
IsTold text refusal.TooLong why = why ≡ reason.TooLong
IsTold text (refusal.BadUtf8 offset) why = (spot : Spot) × IsSpot text offset spot × (why ≡ reason.BadUtf8 spot)
IsTold text (refusal.Unexpected offset) why = (spot : Spot) × IsSpot text offset spot × (why ≡ reason.Unexpected spot)
IsTold text (refusal.TooDeep offset) why = (spot : Spot) × IsSpot text offset spot × (why ≡ reason.TooDeep spot)
IsTold text (refusal.Early offset rule) why = (spot : Spot) × IsSpot text offset spot × (why ≡ reason.Early spot rule)
IsTold text (refusal.NoFunction number) why = ⊥

-- what is shown for an answer
abbrev pub IsShownFor : List ℕ → Answer ℕ → Verdict → Type 0
IsShownFor text (answer.Script count) shown = shown ≡ verdict.Script count
IsShownFor text (answer.Refused why) shown = (told : Reason) × IsTold text why told × (shown ≡ verdict.Refused told)

-- what is shown of a text
abbrev pub IsVerdict : List ℕ → Verdict → Type 0
IsVerdict text shown = (found : Answer ℕ) × IsChecked text found × IsShownFor text found shown
