-- Colour sequences are those of ECMA-48, 8.3.117 (SGR), as terminals read them: the control character ESC, further characters, and `m`.
use Rattle.std.specs.Prelude.{◌≡◌, ℕ, Bool, true, false, not, nat_eq, if◌then◌else◌, List, [], ◌∷◌, ◌++◌, take}
use Rattle.std.specs.List.{list_any}

-- a text has the control character ESC
abbrev pub has_escape : List ℕ → Bool
has_escape = list_any (λ byte. nat_eq byte 27)

-- a text without its colour sequences, from a place that is inside one, or is not
abbrev pub without : Bool → List ℕ → List ℕ
without inside [] = []
without true (byte ∷ text) = without (not (nat_eq byte 109)) text
without false (byte ∷ text) = if nat_eq byte 27 then without true text else byte ∷ without false text

abbrev pub without_colours : List ℕ → List ℕ
without_colours = without false

-- a text with colours shows another one, and whatever follows it is outside of a colour sequence
abbrev pub Shows : List ℕ → List ℕ → Type 0
Shows out shown = (rest : List ℕ) → without_colours (out ++ rest) ≡ shown ++ without_colours rest

-- what the old text shows the new one shows too
abbrev pub ShowsAsBefore : List ℕ → List ℕ → Type 0
ShowsAsBefore old new = (shown : List ℕ) → Shows old shown → Shows new shown

-- a text without escapes is shown up to this place
abbrev pub IsPainted : List ℕ → ℕ → List ℕ → Type 0
IsPainted text at out = has_escape text ≡ false → Shows out (take at text)
