-- Marks of atoms, with more room.
use Rattle.std.proofs.Common.{◌≡◌, ℕ, zero, suc, ◌≤◌, List, [], ◌∷◌, ◌++◌, length, get_or, take, replicate, refl, ap, ◌∙◌}
use Rattle.std.proofs.lemmas.List.{take_all}

zeros : (n k : ℕ) → get_or (replicate n zero) k zero ≡ zero
zeros zero k = refl
zeros (suc n) zero = refl
zeros (suc n) (suc k) = zeros n k

padded : (xs : List ℕ) (n k : ℕ) → get_or (xs ++ replicate n zero) k zero ≡ get_or xs k zero
padded [] n k = zeros n k
padded (x ∷ xs) n zero = refl
padded (x ∷ xs) n (suc k) = padded xs n k

pub resized : (old now : List ℕ) (n m k : ℕ) → length old ≤ n → now ≡ take n old ++ replicate m zero → get_or now k zero ≡ get_or old k zero
resized old now n m k l e =
    ap (λ (xs : List ℕ). get_or xs k zero) (e ∙ ap (λ (xs : List ℕ). xs ++ replicate m zero) (take_all n old l)) ∙ padded old m k
