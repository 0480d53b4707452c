-- How much a pass lacks, as it gets more.
use Rattle.std.proofs.Common.{◌≡◌, ◌∙◌, ℕ, zero, suc, ◌+◌, ◌≤◌, Bool, true, false, ◌&&◌, inl, inr, ◌⊎◌, length, Option, Some, None, refl, sym, ap, subst, arith}
use Rattle.std.specs.Prelude.{if◌then◌else◌, is_none}
use Rattle.lazy_compile.specs.declared.Delazified.{Delazified}
use Rattle.stencil_board.specs.Views.{PassView}
use Rattle.compile_initial.specs.declared.InitialStencil.{InitialStencil}
use Rattle.stencil_board.specs.Passes.{Keeps, Suffices, at_hand, count_to, lacking}

-- what one number counts
one_of : (p : ℕ → Bool) (k : ℕ) (b : Bool) → p k ≡ b → ◌≡◌ {A = ℕ} (if p k then 1 else 0) (if b then 1 else 0)
one_of p k b e = ap (λ (x : Bool). if x then 1 else 0) e

one_fewer : (p q : ℕ → Bool) (k : ℕ) → (p k ≡ true → q k ≡ true) → (b : Bool) → p k ≡ b → (if p k then 1 else 0) ≤ (if q k then 1 else 0)
one_fewer p q k h false e = let here = one_of p k false e in omega (arith, here)
one_fewer p q k h true e =
    let here = one_of p k true e in
    let there = one_of q k true (h e) in
    omega (arith, here, there)

-- where fewer are such, no more are counted
pub count_fewer : (n : ℕ) (p q : ℕ → Bool) → ((k : ℕ) → 1 ≤ k → p k ≡ true → q k ≡ true) → count_to n p ≤ count_to n q
count_fewer zero p q h = omega arith
count_fewer (suc n) p q h =
    let rest = count_fewer n p q h in
    let last = one_fewer p q (suc n) (h (suc n) (omega arith)) (p (suc n)) refl in
    omega (arith, rest, last)

same_or_below : (m k : ℕ) → k ≤ suc m → (k ≡ suc m) ⊎ (k ≤ m)
same_or_below m zero le = inr (omega arith)
same_or_below zero (suc k) le = inl (omega (arith, le))
same_or_below (suc m) (suc k) le = elim (same_or_below m k (omega (arith, le))) [ inl is ↦ inl (omega (arith, is)) | inr lt ↦ inr (omega (arith, lt)) ]

-- and where one of them is such no longer, at least one less is counted
pub count_one_fewer : (n number : ℕ) (p q : ℕ → Bool) → 1 ≤ number → number ≤ n → ((k : ℕ) → 1 ≤ k → p k ≡ true → q k ≡ true) → p number ≡ false → q number ≡ true → count_to n p + 1 ≤ count_to n q
count_one_fewer zero number p q low high h e f = absurd (omega (arith, low, high))
count_one_fewer (suc n) number p q low high h e f =
    let rest = count_fewer n p q h in
    let last = one_fewer p q (suc n) (h (suc n) (omega arith)) (p (suc n)) refl in
    elim (same_or_below n number high) [
      | inl is ↦
          let here = one_of p (suc n) false (subst (λ (k : ℕ). p k ≡ false) is e) in
          let there = one_of q (suc n) true (subst (λ (k : ℕ). q k ≡ true) is f) in
          omega (arith, rest, here, there)
      | inr lt ↦
          let fewer = count_one_fewer n number p q low lt h e f in
          omega (arith, fewer, last)
    ]

count_most : (n : ℕ) (p : ℕ → Bool) → count_to n p ≤ n
count_most zero p = omega arith
count_most (suc n) p = by (p (suc n)) refl (count_most n p)
  where
    by : (b : Bool) → p (suc n) ≡ b → count_to n p ≤ n → count_to n p + (if p (suc n) then 1 else 0) ≤ suc n
    by true e most = let here = one_of p (suc n) true e in omega (arith, here, most)
    by false e most = let here = one_of p (suc n) false e in omega (arith, here, most)

-- ---- passes

-- a room for all functions serves
pub suffices_all : (initial : InitialStencil) (number : ℕ) (pass : PassView) (room : ℕ) → length pass.cells ≤ room → Suffices initial (λ k. true) number pass room
suffices_all initial number pass room long =
    let most = count_most (length pass.cells) (λ k. true && is_none (at_hand pass k)) in
    record { upward = λ k n e f. refl; shows = refl; room = omega (arith, most, long) }

lacks_then : (shown : Bool) (old new : Option Delazified) → ((made : Delazified) → old ≡ Some made → new ≡ Some made) → (shown && is_none new) ≡ true → (shown && is_none old) ≡ true
lacks_then false old new h e = e
lacks_then true None new h e = refl
lacks_then true (Some made) new h e = let f : is_none new ≡ false = ap (λ (o : Option Delazified). is_none o) (h made refl) in absurd (cc)

pub lacking_less : (shown : ℕ → Bool) (old new : PassView) → length new.cells ≡ length old.cells → Keeps old new → lacking shown new ≤ lacking shown old
lacking_less shown old new same keeps =
    subst (λ (n : ℕ). count_to n (λ k. shown k && is_none (at_hand new k)) ≤ lacking shown old) (sym same)
    (count_fewer (length old.cells) (λ k. shown k && is_none (at_hand new k)) (λ k. shown k && is_none (at_hand old k)) (λ k low e. lacks_then (shown k) (at_hand old k) (at_hand new k) (λ made. keeps.hands k made low) e))

none_lacks : (shown : Bool) (o : Option Delazified) → shown ≡ true → o ≡ None → (shown && is_none o) ≡ true
none_lacks shown o e f = ap (λ (b : Bool). b && is_none o) e ∙ ap (λ (x : Option Delazified). is_none x) f

some_has : (shown : Bool) (o : Option Delazified) (made : Delazified) → o ≡ Some made → (shown && is_none o) ≡ false
some_has true o made e = ap (λ (x : Option Delazified). is_none x) e
some_has false o made e = refl

pub lacking_one_less : (shown : ℕ → Bool) (number : ℕ) (old new : PassView) (made : Delazified) → 1 ≤ number → number ≤ length old.cells → length new.cells ≡ length old.cells → Keeps old new → shown number ≡ true → at_hand old number ≡ None → at_hand new number ≡ Some made
    → lacking shown new + 1 ≤ lacking shown old
lacking_one_less shown number old new made low high same keeps is none some =
    subst (λ (n : ℕ). count_to n (λ k. shown k && is_none (at_hand new k)) + 1 ≤ lacking shown old) (sym same)
    (count_one_fewer (length old.cells) number (λ k. shown k && is_none (at_hand new k)) (λ k. shown k && is_none (at_hand old k)) low high (λ k from e. lacks_then (shown k) (at_hand old k) (at_hand new k) (λ made. keeps.hands k made from) e)
    (some_has (shown number) (at_hand new number) made some) (none_lacks (shown number) (at_hand old number) is none))

pub lacks_some : (shown : ℕ → Bool) (number : ℕ) (pass : PassView) → 1 ≤ number → number ≤ length pass.cells → shown number ≡ true → at_hand pass number ≡ None → 1 ≤ lacking shown pass
lacks_some shown number pass low high is none =
    let none_before : count_to (length pass.cells) (λ k. false) + 1 ≤ lacking shown pass =
    count_one_fewer (length pass.cells) number (λ k. false) (λ k. shown k && is_none (at_hand pass k)) low high (λ k from e. absurd (cc)) refl (none_lacks (shown number) (at_hand pass number) is none) in
    omega (arith, none_before)

-- one who came to know more and still has nothing for a function lacked it before
pub one_lacking : (shown : ℕ → Bool) (number : ℕ) (old new : PassView) → length new.cells ≡ length old.cells → Keeps old new → 1 ≤ number → number ≤ length new.cells → shown number ≡ true → at_hand new number ≡ None → 1 ≤ lacking shown old
one_lacking shown number old new same keeps low high is none =
    let less = lacking_less shown old new same keeps in
    let some = lacks_some shown number new low high is none in
    omega (arith, less, some)
