-- For who makes an order of tasks: what one task more means.
use Rattle.std.proofs.Common.{◌≡◌, ◌≢◌, ℕ, ◌+◌, ◌<◌, ◌≤◌, Bool, true, false, eqb, ltb, cond, List, [], ◌∷◌, ◌++◌, refl, ap, sym, ◌∙◌, arith}
use borrow.Author.Tests.{ltb-true, ltb-false, lt-ltb, le-ltb, eqb-true, eqb-false, ne_eqb}
use Rattle.helper_tasks.specs.Count.{times, once_below}
use Rattle.helper_tasks.proofs.Counts.{times-append}

pub once_more : (x n : ℕ) → once_below x (n + 1) ≡ once_below x n + cond (eqb x n) 1 0
once_more x n = elim (ltb x n) as (λ b. (ltb x n ≡ b) → once_below x (n + 1) ≡ cond b 1 0 + cond (eqb x n) 1 0) [
  | true ↦ λ e.
      let lt : x < n = ltb-true x n e in
      let more : ltb x (n + 1) ≡ true = lt-ltb x (n + 1) (omega arith) in
      let other : eqb x n ≡ false = ne_eqb x n (λ (same : x ≡ n). omega arith) in
      ap (λ (b : Bool). cond b 1 0) more ∙ sym (ap (λ (b : Bool). 1 + cond b 1 0) other)
  | false ↦ λ e.
      let ge : n ≤ x = ltb-false x n e in
      elim (eqb x n) as (λ b. (eqb x n ≡ b) → once_below x (n + 1) ≡ 0 + cond b 1 0) [
        | true ↦ λ f.
            let same : x ≡ n = eqb-true x n f in
            let more : ltb x (n + 1) ≡ true = lt-ltb x (n + 1) (omega arith) in
            ap (λ (b : Bool). cond b 1 0) more
        | false ↦ λ f.
            let other : x ≢ n = eqb-false x n f in
            let more : ltb x (n + 1) ≡ false = le-ltb x (n + 1) (omega arith) in
            ap (λ (b : Bool). cond b 1 0) more
      ] refl
] refl

-- the next task, after all tasks below it
pub order_up : (x n m : ℕ) (tasks more : List ℕ) → m ≡ n + 1 → more ≡ tasks ++ n ∷ [] → times x tasks ≡ once_below x n → times x more ≡ once_below x m
order_up x n m tasks more em et before =
    let a = ap (times x) et in
    let b = ap (once_below x) em in
    let c = once_more x n in
    omega (arith, times-append x tasks (n ∷ []))

-- the task before, after all tasks from the next on
pub order_down : (x n m count : ℕ) (tasks more : List ℕ) → m ≡ n + 1 → more ≡ tasks ++ n ∷ [] → times x tasks + once_below x m ≡ once_below x count → times x more + once_below x n ≡ once_below x count
order_down x n m count tasks more em et before =
    let a = ap (times x) et in
    let b = ap (once_below x) em in
    let c = once_more x n in
    omega (arith, times-append x tasks (n ∷ []))
