-- The slots of a board, and one more.
use Rattle.std.proofs.Common.{◌≡◌, ◌∙◌, ℕ, zero, suc, refl, ◌+◌, ◌⊎◌, List, [], ◌∷◌, ◌++◌, length, Some, inl, inr, ap, arith}
use Rattle.std.specs.List.{slice_get}
use Rattle.std.proofs.lemmas.List.{length_push}
use Rattle.relazy_board.specs.declared.place.FunctionPlace.{FunctionPlace}
use Rattle.relazy_board.specs.Board.{AreSlotsOf}

-- an element of a list with one more is one of the list, or the last
snoc_cases : {X : Type 0} (xs : List X) (y x : X) (at : ℕ) → slice_get (xs ++ y ∷ []) at ≡ Some x → (slice_get xs at ≡ Some x) ⊎ ((at ≡ length xs) × (x ≡ y))
snoc_cases [] y x zero is = inr (refl, cc)
snoc_cases [] y x (suc at) is = absurd (cc)
snoc_cases (z ∷ xs) y x zero is = inl is
snoc_cases (z ∷ xs) y x (suc at) is =
    elim (snoc_cases xs y x at is) [ inl e ↦ inl e | inr e ↦ inr (ap suc e.0, e.1) ]

pub one_more : (bytes : List ℕ) (count : ℕ) (slots : List FunctionPlace) (place : FunctionPlace) → place.bytes.now ≡ bytes → place.number ≡ count + 1 → AreSlotsOf bytes count slots → AreSlotsOf bytes (count + 1) (slots ++ place ∷ [])
one_more bytes count slots place of numbered are =
    record {
      one_each = length_push slots place ∙ ap (λ (n : ℕ). n + 1) are.one_each;
      bytes_are = λ at p is.
          elim (snoc_cases slots place p at is) [ inl e ↦ are.bytes_are at p e | inr e ↦ ap (λ (q : FunctionPlace). q.bytes.now) e.1 ∙ of ];
      numbers_are = λ at p is.
          elim (snoc_cases slots place p at is) [
            | inl e ↦ are.numbers_are at p e
            | inr e ↦ ap (λ (q : FunctionPlace). q.number) e.1 ∙ (numbered ∙ (let a = e.0 in let b = are.one_each in omega (arith, a, b)))
          ];
    }
