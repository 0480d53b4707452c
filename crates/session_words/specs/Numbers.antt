-- How numbers are spelled in the words of a command: this project's own choice.
use Rattle.std.specs.Prelude.{ℕ, ◌+◌, ◌-◌, ◌*◌, Bool, true, false, not, ◌&&◌, nat_eq, nat_le, if◌then◌else◌, List, [], ◌∷◌, Option, Some}
use Rattle.std.specs.Prelude.{None, option_and_then, option_map}

abbrev pub is_digit : ℕ → Bool
is_digit c = nat_le 48 c && nat_le c 57

abbrev pub all_digits : List ℕ → Bool
all_digits [] = true
all_digits (c ∷ cs) = is_digit c && all_digits cs

-- `0`, or a digit from 1 to 9 and digits after it
abbrev pub is_number : List ℕ → Bool
is_number [] = false
is_number (c ∷ []) = is_digit c
is_number (c ∷ d ∷ ds) = is_digit c && not (nat_eq c 48) && all_digits (d ∷ ds)

-- the value of digits after a number
abbrev pub value_behind : ℕ → List ℕ → ℕ
value_behind n [] = n
value_behind n (c ∷ cs) = value_behind (n * 10 + (c - 48)) cs

abbrev pub value : List ℕ → ℕ
value word = value_behind 0 word

-- the number from `low` to `high` that a word spells
abbrev pub number_in : ℕ → ℕ → List ℕ → Option ℕ
number_in low high word = if is_number word && nat_le low (value word) && nat_le (value word) high then Some (value word) else None

-- the pieces of a word between its commas

abbrev pub with_first : ℕ → List (List ℕ) → List (List ℕ)
with_first c [] = (c ∷ []) ∷ []
with_first c (piece ∷ pieces) = (c ∷ piece) ∷ pieces

abbrev pub pieces : List ℕ → List (List ℕ)
pieces [] = [] ∷ []
pieces (c ∷ cs) = if nat_eq c 44 then [] ∷ pieces cs else with_first c (pieces cs)

-- the pieces after a comma, if there is one
abbrev pub pieces_behind : Option (List ℕ) → List (List ℕ)
pieces_behind None = []
pieces_behind (Some rest) = pieces rest

-- numbers, each in a piece of its own
abbrev pub each_number : ℕ → ℕ → List (List ℕ) → Option (List ℕ)
each_number low high [] = Some []
each_number low high (piece ∷ rest) = option_and_then (λ n. option_map (λ ns. n ∷ ns) (each_number low high rest)) (number_in low high piece)

-- one or more numbers from `low` to `high`, with one comma between two
abbrev pub numbers_in : ℕ → ℕ → List ℕ → Option (List ℕ)
numbers_in low high word = each_number low high (pieces word)
