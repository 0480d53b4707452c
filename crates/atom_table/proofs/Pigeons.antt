-- More things than holes: of n + 1 things, each in one of n holes, two are in one hole.
use Rattle.std.proofs.Common.{◌≡◌, ℕ, zero, suc, ◌+◌, ◌-◌, ◌<◌, ◌≤◌, ◌≢◌, ◌⊎◌, refl, sym, ◌∙◌, subst, inl, inr, arith}
use Rattle.std.proofs.lemmas.Bool.{cases_order}

-- thing j is in hole v of those that are left where the hole `gap` is taken away
abbrev Closed : (ℕ → ℕ → Type 0) → ℕ → ℕ → ℕ → Type 0
Closed P gap j v = (w : ℕ) × P j w × (((gap < w) × (w ≡ v + 1)) ⊎ ((w < gap) × (w ≡ v)))

one_hole : (gap v w x : ℕ) → ((gap < w) × (w ≡ v + 1)) ⊎ ((w < gap) × (w ≡ v)) → ((gap < x) × (x ≡ v + 1)) ⊎ ((x < gap) × (x ≡ v)) → w ≡ x
one_hole gap v w x (inl a) (inl b) = a.1 ∙ sym b.1
one_hole gap v w x (inl a) (inr b) = absurd (omega arith)
one_hole gap v w x (inr a) (inl b) = absurd (omega arith)
one_hole gap v w x (inr a) (inr b) = a.1 ∙ sym b.1

pub pigeons : (n : ℕ) (P : ℕ → ℕ → Type 0) → ((j : ℕ) → j ≤ n → (w : ℕ) × (w < n) × P j w) → ((i j w : ℕ) → i ≤ n → j ≤ n → P i w → P j w → i ≡ j) → ⊥
pigeons zero P in_some apart = let r = in_some zero (omega arith) in let h : r.0 < 0 = r.1 in omega arith
pigeons (suc m) P in_some apart =
    let last = in_some (suc m) (omega arith) in
    pigeons m (Closed P last.0)
    (λ j h.
    let one = in_some j (omega arith) in
    let below : one.0 < suc m = one.1 in
    let gap_below : last.0 < suc m = last.1 in
    let other : one.0 ≢ last.0 = λ e. let same : j ≡ suc m = apart j (suc m) last.0 (omega arith) (omega arith) (subst (λ w. P j w) e one.2) last.2 in omega arith in
    left m P last.0 j one.0 below gap_below other one.2)
    (λ i j v hi hj a b. apart i j a.0 (omega arith) (omega arith) a.1 (subst (λ w. P j w) (one_hole last.0 v b.0 a.0 b.2 a.2) b.1))
  where
    left : (m : ℕ) (P : ℕ → ℕ → Type 0) (gap j w : ℕ) → w < suc m → gap < suc m → w ≢ gap → P j w → (v : ℕ) × (v < m) × Closed P gap j v
    left m P gap j w h g ne p = elim (cases_order w gap) [ inl same ↦ absurd (ne same) | inr rest ↦ elim rest [ inl less ↦ (w, omega arith, (w, p, inr (less, refl))) | inr more ↦ (w - 1, omega arith, (w, p, inl (more, omega arith))) ] ]
