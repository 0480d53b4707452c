-- How many functions are shown, by their flags.
use Rattle.std.proofs.Common.{◌≡◌, ℕ, suc, Bool, true, false, List, [], ◌∷◌, map, filter, length, cond, refl, ap}
use Rattle.compile_shown.specs.Counting.{trues}

-- those that pass a test
one_more : (b : Bool) (bs : List Bool) (n : ℕ) {A : Type 0} (x : A) (xs : List A) → trues bs ≡ length xs → trues (b ∷ bs) ≡ length (cond b (x ∷ xs) xs)
one_more true bs n x xs e = ap suc e
one_more false bs n x xs e = e

pub trues_passing : {A : Type 0} (p : A → Bool) (xs : List A) → trues (map p xs) ≡ length (filter p xs)
trues_passing p [] = refl
trues_passing p (x ∷ xs) = one_more (p x) (map p xs) 0 x (filter p xs) (trues_passing p xs)
