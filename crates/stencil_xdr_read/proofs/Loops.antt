-- Loops that test items one by one.
use Rattle.std.proofs.Common.{◌≡◌, ℕ, suc, ◌+◌, ◌<◌, ◌≤◌, Bool, true, false, List, ◌∷◌, length, drop, get_or, refl, sym, ◌∙◌, ap, subst, drop-cons, add-one}
use Rattle.std.specs.Prelude.{IsTrue, ◌↔◌}
use Rattle.std.proofs.lemmas.List.{drop_all}
use Rattle.std.proofs.lemmas.Bool.{false≢true}
use Rattle.stencil_xdr_read.specs.Within.{EachFrom}

-- all items hold exactly where those from a place on do
pub record Reaches {A : Type 0} (Holds : ℕ → A → Type 0) (xs : List A) (at : ℕ) : Type 0 where
  pub gives : EachFrom Holds at (drop at xs) → EachFrom Holds 0 xs
  pub takes : EachFrom Holds 0 xs → EachFrom Holds at (drop at xs)

pub reaches_none : {A : Type 0} (Holds : ℕ → A → Type 0) (xs : List A) → Reaches Holds xs 0
reaches_none Holds xs = record { gives = λ h. h; takes = λ h. h }

here : {A : Type 0} (xs : List A) (at : ℕ) (x : A) → at < length xs → x ≡ get_or xs at x → drop at xs ≡ x ∷ drop (at + 1) xs
here xs at x more is = drop-cons xs at x more ∙ (ap (λ y. y ∷ drop (suc at) xs) (sym is) ∙ ap (λ (k : ℕ). x ∷ drop k xs) (sym (add-one at)))

pub reaches_more : {A : Type 0} (Holds : ℕ → A → Type 0) (xs : List A) (at : ℕ) (x : A) (b : Bool) → at < length xs → x ≡ get_or xs at x → IsTrue b ↔ Holds at x → b ≡ true → Reaches Holds xs at → Reaches Holds xs (at + 1)
reaches_more Holds xs at x b more is test passed r =
    let e = here xs at x more is in record {
      gives = λ h. r.gives (subst (EachFrom Holds at) (sym e) (test.0 passed, h));
      takes = λ h. (subst (EachFrom Holds at) e (r.takes h)).1;
    }

pub reaches_fails : {A : Type 0} (Holds : ℕ → A → Type 0) (xs : List A) (at : ℕ) (x : A) (b : Bool) → at < length xs → x ≡ get_or xs at x → IsTrue b ↔ Holds at x → b ≡ false → Reaches Holds xs at → IsTrue false ↔ EachFrom Holds 0 xs
reaches_fails Holds xs at x b more is test failed r =
    let e = here xs at x more is in
    (λ h. absurd (false≢true h), λ h. absurd (false≢true (sym failed ∙ test.1 (subst (EachFrom Holds at) e (r.takes h)).0)))

pub reaches_all : {A : Type 0} (Holds : ℕ → A → Type 0) (xs : List A) (at : ℕ) → length xs ≤ at → Reaches Holds xs at → IsTrue true ↔ EachFrom Holds 0 xs
reaches_all Holds xs at end r = (λ h. r.gives (subst (EachFrom Holds at) (sym (drop_all at xs end)) tt), λ h. refl)
