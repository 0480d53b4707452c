-- A worker lacks no more functions than are shown, and room for what it lacks goes on sufficing.
use Rattle.compile_shown.specs.Counting.{trues}
use Rattle.compile_shown.specs.Shown.{flagged}
use Rattle.std.proofs.Common.{if◌then◌else◌, is_none, ◌&&◌, ◌∙◌, ℕ, zero, suc, [], true, false, take, length, refl, sym, ap, ap₂, ◌-◌, arith}
use Rattle.std.specs.Prelude.{Bool, List, slice_index_or, ◌+◌, ◌∷◌, ◌≡◌, ◌≤◌}
use Rattle.stencil_board.specs.Passes.{at_hand, count_to, lacking}
use Rattle.stencil_board.specs.Views.{PassView}

trues_more : (flags : List Bool) (n : ℕ) → trues (take (suc n) flags) ≡ trues (take n flags) + (if slice_index_or flags n false then 1 else 0)
trues_more [] zero = refl
trues_more [] (suc n) = refl
trues_more (true ∷ flags) zero = refl
trues_more (false ∷ flags) zero = refl
trues_more (true ∷ flags) (suc n) = let h = trues_more flags n in omega (arith, h)
trues_more (false ∷ flags) (suc n) = trues_more flags n

trues_front : (flags : List Bool) (n : ℕ) → trues (take n flags) ≤ trues flags
trues_front [] zero = omega arith
trues_front [] (suc n) = omega arith
trues_front (true ∷ flags) zero = omega arith
trues_front (false ∷ flags) zero = omega arith
trues_front (true ∷ flags) (suc n) = let h = trues_front flags n in omega (arith, h)
trues_front (false ∷ flags) (suc n) = trues_front flags n

pub none_in_front : (flags : List Bool) → trues (take 0 flags) ≡ 0
none_in_front [] = refl
none_in_front (f ∷ flags) = refl

count_is : (n : ℕ) (flags : List Bool) → count_to n (flagged flags) ≡ trues (take n flags)
count_is zero flags = sym (none_in_front flags)
count_is (suc n) flags =
    let e : suc n - 1 ≡ n = omega arith in
    ap₂ (λ (m : ℕ) (k : ℕ). m + (if slice_index_or flags k false then 1 else 0)) (count_is n flags) e ∙ sym (trues_more flags n)

one_less : (a b : Bool) → (if (a && b) then 1 else 0) ≤ (if a then 1 else 0)
one_less true true = omega arith
one_less true false = omega arith
one_less false b = omega arith

count_less : (n : ℕ) (p q : ℕ → Bool) → count_to n (λ k. p k && q k) ≤ count_to n p
count_less zero p q = omega arith
count_less (suc n) p q = let h = count_less n p q in let one = one_less (p (suc n)) (q (suc n)) in omega (arith, h, one)

-- whatever it knows
pub lacks_few : (flags : List Bool) (pass : PassView) → lacking (flagged flags) pass ≤ trues flags
lacks_few flags pass =
    let less = count_less (length pass.cells) (flagged flags) (λ number. is_none (at_hand pass number)) in
    let same = count_is (length pass.cells) flags in
    let front = trues_front flags (length pass.cells) in
    omega (arith, less, same, front)

-- ---- one more flag

abbrev bit : Bool → ℕ
bit b = if b then 1 else 0

pub one_true : (flags : List Bool) (n count more : ℕ) → count ≡ trues (take n flags) → slice_index_or flags n false ≡ true → more ≡ count + 1 → more ≡ trues (take (n + 1) flags)
one_true flags n count more is here one =
    let e : n + 1 ≡ suc n = omega arith in
    let add : bit (slice_index_or flags n false) ≡ bit true = ap bit here in
    let step = trues_more flags n in
    let same : trues (take (n + 1) flags) ≡ trues (take (suc n) flags) = ap (λ (m : ℕ). trues (take m flags)) e in
    omega (arith, is, one, add, step, same)

pub one_false : (flags : List Bool) (n count more : ℕ) → count ≡ trues (take n flags) → slice_index_or flags n false ≡ false → more ≡ count → more ≡ trues (take (n + 1) flags)
one_false flags n count more is here one =
    let e : n + 1 ≡ suc n = omega arith in
    let add : bit (slice_index_or flags n false) ≡ bit false = ap bit here in
    let step = trues_more flags n in
    let same : trues (take (n + 1) flags) ≡ trues (take (suc n) flags) = ap (λ (m : ℕ). trues (take m flags)) e in
    omega (arith, is, one, add, step, same)
