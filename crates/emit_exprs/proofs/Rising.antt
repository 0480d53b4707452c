-- The place of a start among starts that do not fall.
use Rattle.std.proofs.Common.{◌≡◌, ℕ, zero, suc, ◌+◌, ◌<◌, ◌≤◌, Bool, true, false, cond, List, [], ◌∷◌, length, nat_lt, count_by, slice_index_or, refl, sym, ◌∙◌, ap, arith}
use Rattle.std.specs.List.{AllWithin}
use Rattle.std.specs.List.Sorted.{IsNonDecreasingBy, IsPartitionedBy, IsPartitionPoint}
use Rattle.std.proofs.lemmas.List.Sorted.{IsPartitionedBy-ltb}
use Rattle.std.proofs.lemmas.List.Recursion.{is_count_by}
use Rattle.stencil_data.specs.declared.functions.Extent.{Extent}
use Rattle.emit_exprs.specs.Rising.{Rises}

rises_from : (low : ℕ) (xs : List Extent) (j : ℕ) (d : Extent) → Rises low xs → j < length xs → low ≤ (slice_index_or xs j d).start
rises_from low [] j d rises lt = absurd (omega arith)
rises_from low (e ∷ es) zero d rises lt = rises.0
rises_from low (e ∷ es) (suc j) d rises lt = let further = rises_from e.start es j d rises.1 (omega arith) in omega (arith, rises.0, further)

not_falling : (low : ℕ) (xs : List Extent) → Rises low xs → IsNonDecreasingBy (λ (e : Extent). e.start) xs
not_falling low [] rises i j d le lt = absurd (omega arith)
not_falling low (e ∷ es) rises zero zero d le lt = omega arith
not_falling low (e ∷ es) rises zero (suc j) d le lt = rises_from e.start es j d rises.1 (omega arith)
not_falling low (e ∷ es) rises (suc i) zero d le lt = absurd (omega arith)
not_falling low (e ∷ es) rises (suc i) (suc j) d le lt = not_falling e.start es rises.1 i j d (omega arith) (omega arith)

pub parted : (xs : List Extent) (start : ℕ) → Rises 0 xs → IsPartitionedBy (λ (e : Extent). nat_lt e.start start) xs
parted xs start rises = IsPartitionedBy-ltb (λ (e : Extent). e.start) xs start (not_falling 0 xs rises)

passing : {A : Type 0} → (A → Bool) → List A → ℕ
passing p [] = 0
passing p (x ∷ xs) = cond (p x) (1 + passing p xs) (passing p xs)

shifted : {A : Type 0} (P : A → Type 0) (x : A) (xs : List A) (low high : ℕ) → AllWithin P (x ∷ xs) (suc low) (suc high) → AllWithin P xs low high
shifted P x xs low high all k d l h = all (suc k) d (omega arith) (omega arith)

passing-front : {A : Type 0} (p : A → Bool) (xs : List A) (i : ℕ) → AllWithin (λ x. p x ≡ true) xs 0 i → AllWithin (λ x. p x ≡ false) xs i (length xs) → i ≤ length xs → passing p xs ≡ i
unfolding passing
passing-front p [] i front behind le = omega arith
passing-front p (x ∷ xs) zero front behind le =
    ap (λ (t : Bool). cond t (1 + passing p xs) (passing p xs)) (behind 0 x (omega arith) (omega arith))
    ∙ passing-front p xs zero (λ k d l h. absurd (omega arith)) (λ k d l h. behind (suc k) d (omega arith) (omega arith)) (omega arith)
passing-front p (x ∷ xs) (suc i) front behind le =
    ap (λ (t : Bool). cond t (1 + passing p xs) (passing p xs)) (front 0 x (omega arith) (omega arith))
    ∙ (ap (λ (n : ℕ). 1 + n) (passing-front p xs i (shifted (λ y. p y ≡ true) x xs 0 i (λ k d l h. front k d (omega arith) h)) (shifted (λ y. p y ≡ false) x xs i (length xs) behind) (omega arith)) ∙ omega arith)

passing-count : {A : Type 0} (p : A → Bool) (xs : List A) → passing p xs ≡ count_by p xs
unfolding passing
passing-count p xs = is_count_by (passing p) p refl (λ x xs. refl) xs

-- the place that a search for the first start that is not below this one answers
pub place_of : (xs : List Extent) (start place : ℕ) → place ≤ length xs → IsPartitionPoint (λ (e : Extent). nat_lt e.start start ≡ true) (λ (e : Extent). nat_lt e.start start ≡ false) xs place → place ≡ count_by (λ (e : Extent). nat_lt e.start start) xs
place_of xs start place le point = sym (passing-front (λ (e : Extent). nat_lt e.start start) xs place point.0 point.1 le) ∙ passing-count (λ (e : Extent). nat_lt e.start start) xs
