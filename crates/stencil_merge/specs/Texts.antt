-- The texts of a merger. This project's own choice.
use Rattle.std.specs.Prelude.{ℕ, List, [], ◌∷◌}

-- those that are interned, and where none is, those that wait
abbrev pub texts_in : List (List ℕ) → List (List ℕ) → List (List ℕ)
texts_in waiting [] = waiting
texts_in waiting (text ∷ interned) = text ∷ interned
