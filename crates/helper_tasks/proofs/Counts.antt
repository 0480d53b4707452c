-- Sums and counts over lists.
use Rattle.std.proofs.Common.{◌≡◌, ℕ, zero, suc, ◌+◌, ◌<◌, ◌≤◌, List, [], ◌∷◌, ◌++◌, length, get_or, set, refl, ap, sym, subst, arith}
use mathlib.Core.Option.{some, some-injective, some-ne-none}
use lib.ListN.{get_elem?}
use Rattle.helper_tasks.specs.Count.{times, total, Each}

pub times-append : (x : ℕ) (xs ys : List ℕ) → times x (xs ++ ys) ≡ times x xs + times x ys
times-append x [] ys = omega arith
times-append x (y ∷ xs) ys = let r = times-append x xs ys in omega arith

module _ {A : Type 0} where
  pub total-append : (f : A → ℕ) (xs ys : List A) → total f (xs ++ ys) ≡ total f xs + total f ys
  total-append f [] ys = omega arith
  total-append f (x ∷ xs) ys = let r = total-append f xs ys in omega arith

  pub total-snoc : (f : A → ℕ) (xs : List A) (a : A) → total f (xs ++ a ∷ []) ≡ total f xs + f a
  total-snoc f [] a = omega arith
  total-snoc f (x ∷ xs) a = let r = total-snoc f xs a in omega arith

  -- the total after a change at one place
  pub total-set : (f : A → ℕ) (xs : List A) (i : ℕ) (v w : A) → get_elem? xs i ≡ some v → total f (set xs i w) + f v ≡ total f xs + f w
  total-set f [] i v w at = absurd (some-ne-none v (sym at))
  total-set f (x ∷ xs) zero v w at = let e = ap f (some-injective x v at) in omega arith
  total-set f (x ∷ xs) (suc i) v w at = let r = total-set f xs i v w at in omega arith

  pub total-at : (f : A → ℕ) (xs : List A) (i : ℕ) (v : A) → get_elem? xs i ≡ some v → f v ≤ total f xs
  total-at f [] i v at = absurd (some-ne-none v (sym at))
  total-at f (x ∷ xs) zero v at = let e = ap f (some-injective x v at) in omega arith
  total-at f (x ∷ xs) (suc i) v at = let r = total-at f xs i v at in omega arith

  pub each-at : (P : A → Type 0) (xs : List A) (i : ℕ) (v : A) → Each P xs → get_elem? xs i ≡ some v → P v
  each-at P [] i v all at = absurd (some-ne-none v (sym at))
  each-at P (x ∷ xs) zero v all at = subst P (some-injective x v at) all.0
  each-at P (x ∷ xs) (suc i) v all at = each-at P xs i v all.1 at

  pub each-set : (P : A → Type 0) (xs : List A) (i : ℕ) (w : A) → Each P xs → P w → Each P (set xs i w)
  each-set P [] i w all p = tt
  each-set P (x ∷ xs) zero w all p = (p, all.1)
  each-set P (x ∷ xs) (suc i) w all p = (all.0, each-set P xs i w all.1 p)

  pub each-append : (P : A → Type 0) (xs ys : List A) → Each P xs → Each P ys → Each P (xs ++ ys)
  each-append P [] ys all more = more
  each-append P (x ∷ xs) ys all more = (all.0, each-append P xs ys all.1 more)

  pub each-snoc : (P : A → Type 0) (xs : List A) (a : A) → Each P xs → P a → Each P (xs ++ a ∷ [])
  each-snoc P xs a all p = each-append P xs (a ∷ []) all (p, tt)

  pub each-front : (P : A → Type 0) (xs ys : List A) → Each P (xs ++ ys) → Each P xs
  each-front P [] ys all = tt
  each-front P (x ∷ xs) ys all = (all.0, each-front P xs ys all.1)

  pub each-back : (P : A → Type 0) (xs ys : List A) → Each P (xs ++ ys) → Each P ys
  each-back P [] ys all = all
  each-back P (x ∷ xs) ys all = each-back P xs ys all.1

  -- where no element weighs anything by p, none does by f
  pub total-none : (p f : A → ℕ) (xs : List A) → total p xs ≡ 0 → Each (λ u. p u ≡ 0 → f u ≡ 0) xs → total f xs ≡ 0
  total-none p f [] none idle = refl
  total-none p f (x ∷ xs) none idle =
      let a : f x ≡ 0 = idle.0 (omega arith) in
      let r : total f xs ≡ 0 = total-none p f xs (omega arith) idle.1 in omega arith

  -- where one element has all parts, it has all that there is
  pub total-sole : (p f : A → ℕ) (xs : List A) (i : ℕ) (v : A) → get_elem? xs i ≡ some v → total p xs ≡ p v → Each (λ u. p u ≡ 0 → f u ≡ 0) xs → total f xs ≡ f v
  total-sole p f [] i v at sole idle = absurd (some-ne-none v (sym at))
  total-sole p f (x ∷ xs) zero v at sole idle =
      let e = ap f (some-injective x v at) in
      let q = ap p (some-injective x v at) in
      let r : total f xs ≡ 0 = total-none p f xs (omega arith) idle.1 in omega arith
  total-sole p f (x ∷ xs) (suc i) v at sole idle =
      let b = total-at p xs i v at in
      let a : f x ≡ 0 = idle.0 (omega arith) in
      let r : total f xs ≡ f v = total-sole p f xs i v at (omega arith) idle.1 in omega arith

  pub each-map : (P Q : A → Type 0) (xs : List A) → ((a : A) → P a → Q a) → Each P xs → Each Q xs
  each-map P Q [] to all = tt
  each-map P Q (x ∷ xs) to all = (to x all.0, each-map P Q xs to all.1)

  pub each-index : (P : A → Type 0) (xs : List A) (i : ℕ) (d : A) → i < length xs → Each P xs → P (get_or xs i d)
  each-index P [] i d lt all = absurd (omega arith)
  each-index P (x ∷ xs) zero d lt all = all.0
  each-index P (x ∷ xs) (suc i) d lt all = each-index P xs i d (omega arith) all.1

  pub no_items : (xs : List A) → length xs ≡ 0 → xs ≡ []
  no_items [] e = refl
  no_items (x ∷ xs) e = absurd (omega arith)
