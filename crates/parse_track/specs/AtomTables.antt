-- What a table by atom says of an atom: nothing past its end.
use Rattle.std.specs.Prelude.{ℕ, ◌≡◌, false, nat_eq, Option, None, List, get_or}
use Rattle.parse_track.specs.EarlyErrors.{has}

abbrev pub entry : {V : Type 0} → List (Option V) → ℕ → Option V
entry entries atom = get_or entries atom None

-- a table says this of each atom
abbrev pub Says : {V : Type 0} → List (Option V) → (ℕ → Option V) → Type 0
Says entries said = (y : ℕ) → entry entries y ≡ said y

-- a table says this of each atom that is none of these
abbrev pub SaysOutside : {V : Type 0} → List (Option V) → List ℕ → (ℕ → Option V) → Type 0
SaysOutside entries atoms said = (y : ℕ) → has nat_eq y atoms ≡ false → entry entries y ≡ said y
