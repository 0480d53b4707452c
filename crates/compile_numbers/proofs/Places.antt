-- The place of an offset among offsets that rise.
use Rattle.std.proofs.Common.{◌≡◌, ℕ, zero, suc, ◌+◌, ◌<◌, ◌≤◌, Bool, true, false, cond, List, [], ◌∷◌, length, nat_lt, slice_index_or, refl, sym, ◌∙◌, ap, arith}
use Rattle.std.specs.List.{AllWithin, filter, count_by}
use Rattle.std.specs.List.Sorted.{IsNonDecreasing, IsPartitionedBy, IsPartitionPoint}
use Rattle.std.proofs.lemmas.List.Sorted.{IsPartitionedBy-ltb}
use Rattle.std.proofs.lemmas.List.Sums.{length-filter}
use Rattle.std.proofs.lemmas.List.Recursion.{is_count_by}
use Rattle.emit_limit_laws.specs.Offsets.{OffsetsRise}
use Rattle.compile_specs.specs.Shown as shown

pub rises_from : (from : ℕ) (ns : List ℕ) (j d : ℕ) → OffsetsRise from ns → j < length ns → from ≤ slice_index_or ns j d
rises_from from [] j d rises lt = absurd (omega arith)
rises_from from (n ∷ ns) zero d rises lt = rises.0
rises_from from (n ∷ ns) (suc j) d rises lt = let further = rises_from (suc n) ns j d rises.1 (omega arith) in omega (arith, rises.0, further)

not_falling : (from : ℕ) (ns : List ℕ) → OffsetsRise from ns → IsNonDecreasing ns
not_falling from [] rises i j d le lt = absurd (omega arith)
not_falling from (n ∷ ns) rises zero zero d le lt = omega arith
not_falling from (n ∷ ns) rises zero (suc j) d le lt = let further = rises_from (suc n) ns j d rises.1 (omega arith) in omega (arith, further)
not_falling from (n ∷ ns) rises (suc i) zero d le lt = absurd (omega arith)
not_falling from (n ∷ ns) rises (suc i) (suc j) d le lt = not_falling (suc n) ns rises.1 i j d (omega arith) (omega arith)

pub parted : (ns : List ℕ) (start : ℕ) → OffsetsRise 0 ns → IsPartitionedBy (λ (n : ℕ). nat_lt n start) ns
parted ns start rises = IsPartitionedBy-ltb (λ (n : ℕ). n) ns start (not_falling 0 ns rises)

passing : {A : Type 0} → (A → Bool) → List A → ℕ
passing p [] = 0
passing p (x ∷ xs) = cond (p x) (1 + passing p xs) (passing p xs)

shifted : {A : Type 0} (P : A → Type 0) (x : A) (xs : List A) (low high : ℕ) → AllWithin P (x ∷ xs) (suc low) (suc high) → AllWithin P xs low high
shifted P x xs low high all k d l h = all (suc k) d (omega arith) (omega arith)

passing-front : {A : Type 0} (p : A → Bool) (xs : List A) (i : ℕ) → AllWithin (λ x. p x ≡ true) xs 0 i → AllWithin (λ x. p x ≡ false) xs i (length xs) → i ≤ length xs → passing p xs ≡ i
unfolding passing
passing-front p [] i front behind le = omega arith
passing-front p (x ∷ xs) zero front behind le =
    ap (λ (t : Bool). cond t (1 + passing p xs) (passing p xs)) (behind 0 x (omega arith) (omega arith))
    ∙ passing-front p xs zero (λ k d l h. absurd (omega arith)) (λ k d l h. behind (suc k) d (omega arith) (omega arith)) (omega arith)
passing-front p (x ∷ xs) (suc i) front behind le =
    ap (λ (t : Bool). cond t (1 + passing p xs) (passing p xs)) (front 0 x (omega arith) (omega arith))
    ∙ (ap (λ (n : ℕ). 1 + n) (passing-front p xs i (shifted (λ y. p y ≡ true) x xs 0 i (λ k d l h. front k d (omega arith) h)) (shifted (λ y. p y ≡ false) x xs i (length xs) behind) (omega arith)) ∙ omega arith)

passing-count : {A : Type 0} (p : A → Bool) (xs : List A) → passing p xs ≡ count_by p xs
unfolding passing
passing-count p xs = is_count_by (passing p) p refl (λ x xs. refl) xs

-- n of them are below the offset
pub place_of : (ns : List ℕ) (start place : ℕ) → place ≤ length ns → IsPartitionPoint (λ (n : ℕ). nat_lt n start ≡ true) (λ (n : ℕ). nat_lt n start ≡ false) ns place → place ≡ length (filter (λ (n : ℕ). nat_lt n start) ns)
place_of ns start place le point =
    sym (passing-front (λ (n : ℕ). nat_lt n start) ns place point.0 point.1 le) ∙ passing-count (λ (n : ℕ). nat_lt n start) ns ∙ sym (length-filter (λ (n : ℕ). nat_lt n start) ns)

pub number_is : (ns : List ℕ) (start place number : ℕ) → number ≡ place + 1 → place ≡ length (filter (λ (n : ℕ). nat_lt n start) ns) → number ≡ shown.number_of ns start
number_is ns start place number is of = omega arith
