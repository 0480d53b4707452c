-- Counting in lists. All of it is this project's own choice.
use Rattle.std.specs.Prelude.{◌≡◌, ℕ, ◌+◌, eqb, ltb, cond, List, [], ◌∷◌}

-- how often x stands in the list
abbrev pub times : ℕ → List ℕ → ℕ
times x [] = 0
times x (y ∷ ys) = cond (eqb x y) 1 0 + times x ys

-- 1 for a number below n, and 0 for any other
abbrev pub once_below : ℕ → ℕ → ℕ
once_below x n = cond (ltb x n) 1 0

-- each number below n stands in the list once, and no other number stands in it
abbrev pub EachOnceBelow : ℕ → List ℕ → Type 0
EachOnceBelow n xs = (x : ℕ) → times x xs ≡ once_below x n

-- the number of each element, added up
abbrev pub total : {A : Type 0} → (A → ℕ) → List A → ℕ
total f [] = 0
total f (a ∷ rest) = f a + total f rest

-- the fact holds of each element
abbrev pub Each : {A : Type 0} → (A → Type 0) → List A → Type 0
Each P [] = Unit {0}
Each P (a ∷ rest) = P a × Each P rest
