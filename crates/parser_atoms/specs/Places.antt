-- Where a text stands in a list of texts. This project's own choice.
use Rattle.std.specs.Prelude.{◌≡◌, ℕ, ◌⊎◌, List, [], ◌∷◌, ◌++◌, slice_get, length, Some}

-- The text stands somewhere in the list.
abbrev pub StandsIn : List (List ℕ) → List ℕ → Type 0
StandsIn texts text = (i : ℕ) × (slice_get texts i ≡ Some text)

-- No two of the texts are equal: a text stands at one place at most.
abbrev pub AreWithoutEquals : List (List ℕ) → Type 0
AreWithoutEquals texts = (text : List ℕ) (i j : ℕ) → slice_get texts i ≡ Some text → slice_get texts j ≡ Some text → i ≡ j

-- The text stood at this place already and nothing changed, or it stood nowhere and was put at the end.
abbrev pub Interns : List (List ℕ) → List (List ℕ) → List ℕ → ℕ → Type 0
Interns before after text atom = ((slice_get before atom ≡ Some text) × (after ≡ before))
    ⊎ ((¬ (StandsIn before text)) × (atom ≡ length before) × (after ≡ before ++ text ∷ []))
