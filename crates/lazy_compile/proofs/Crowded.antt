-- Texts without equals that all stand in another list are no more than those of that list.
use Rattle.std.proofs.Common.{◌≡◌, ◌≢◌, ◌∙◌, ℕ, zero, suc, ◌≤◌, List, [], ◌∷◌, length, refl, sym, ap, Some, arith}
use Rattle.std.specs.Prelude.{slice_get}
use Rattle.parser_atoms.specs.Places.{AreWithoutEquals, StandsIn}

-- without the item at this place
dropped : List (List ℕ) → ℕ → List (List ℕ)
dropped [] n = []
dropped (x ∷ xs) zero = xs
dropped (x ∷ xs) (suc n) = x ∷ dropped xs n

one_less : (xs : List (List ℕ)) (n : ℕ) (x : List ℕ) → slice_get xs n ≡ Some x → suc (length (dropped xs n)) ≡ length xs
unfolding dropped
one_less [] n x h = absurd (cc)
one_less (y ∷ ys) zero x h = refl
one_less (y ∷ ys) (suc n) x h = ap suc (one_less ys n x h)

others_stay : (xs : List (List ℕ)) (n k : ℕ) (t : List ℕ) → n ≢ k → slice_get xs k ≡ Some t → StandsIn (dropped xs n) t
unfolding dropped
others_stay [] n k t ne h = absurd (cc)
others_stay (x ∷ xs) zero zero t ne h = absurd (ne refl)
others_stay (x ∷ xs) zero (suc k) t ne h = (k, h)
others_stay (x ∷ xs) (suc n) zero t ne h = (0, h)
others_stay (x ∷ xs) (suc n) (suc k) t ne h = let r = others_stay xs n k t (λ e. ne (ap suc e)) h in (suc r.0, r.1)

pub no_longer : (xs ys : List (List ℕ)) → AreWithoutEquals xs → ((t : List ℕ) → StandsIn xs t → StandsIn ys t) → length xs ≤ length ys
no_longer [] ys apart inside = omega arith
no_longer (x ∷ xs) ys apart inside =
    let at = inside x (0, refl) in
    let other : (t : List ℕ) (k : StandsIn xs t) → at.0 ≢ (inside t (suc k.0, k.1)).0 =
    λ t k e. absurd (let z = apart t 0 (suc k.0) (sym at.1 ∙ ap (slice_get ys) e ∙ (inside t (suc k.0, k.1)).1) k.1 in omega (arith, z)) in
    let less = one_less ys at.0 x at.1 in
    let rest = no_longer xs (dropped ys at.0) (λ t i j p q. let e = apart t (suc i) (suc j) p q in omega (arith, e)) (λ t k. others_stay ys at.0 (inside t (suc k.0, k.1)).0 t (other t k) (inside t (suc k.0, k.1)).1) in
    omega (arith, less, rest)
