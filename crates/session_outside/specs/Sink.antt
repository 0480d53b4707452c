-- What the calls of a sink do to its two meanings, by cases on the call's answer. The sink is this
-- project's own.
use Rattle.std.specs.Prelude.{◌≡◌, ℕ, ◌<◌, List, ◌++◌, Option, Some, None, Result, Ok, Err}
use Rattle.session_outside.specs.declared.sink.SinkRefusal.{SinkRefusal}
use Rattle.session_outside.specs.declared.sink.SinkRefusal.TheVariants.{Failed, NoMemory}

-- the count of faults rises exactly where the call answers `Failed`
abbrev pub CountsSink : {T : Type 0} → ℕ → ℕ → Result T SinkRefusal → Type 0
CountsSink before now (Ok _) = now ≡ before
CountsSink before now (Err Failed) = before < now
CountsSink before now (Err NoMemory) = now ≡ before

-- where the sink tells what it has taken, it has taken this piece besides
abbrev pub Gains : Option (List ℕ) → Option (List ℕ) → List ℕ → Type 0
Gains None now piece = now ≡ None
Gains (Some taken) now piece = now ≡ Some (taken ++ piece)

-- where the sink tells what it has taken, it has taken some front of these bytes besides
abbrev pub GainsFront : Option (List ℕ) → Option (List ℕ) → List ℕ → Type 0
GainsFront None now bytes = now ≡ None
GainsFront (Some taken) now bytes =
    (front : List ℕ) × (rest : List ℕ) × (bytes ≡ front ++ rest) × (now ≡ Some (taken ++ front))

-- what a sink has taken after it was to take these bytes: all of them, or a front after a refusal
abbrev pub GainsAllOrFront : {T : Type 0} → Option (List ℕ) → Option (List ℕ) → List ℕ → Result T SinkRefusal → Type 0
GainsAllOrFront before now bytes (Ok _) = Gains before now bytes
GainsAllOrFront before now bytes (Err _) = GainsFront before now bytes
