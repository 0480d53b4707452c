-- The first of early errors that are put together, in whatever order.
use Rattle.std.proofs.Common.{◌≡◌, ℕ, Bool, true, false, cond, nat_eq, nat_lt, ◌||◌, ◌&&◌, Option, None, Some, List, [], ◌∷◌, ◌++◌, refl, sym, ap, ◌∙◌, arith}
use Rattle.std.proofs.lemmas.Bool.Decides.{nat_tests}
use Rattle.parse_track.specs.declared.region.Early.{Early}
use Rattle.parse_track.specs.EarlyErrors.{sooner, is_sooner}
use Rattle.parse_track.specs.Notes.{first_note}

pub sooner_none : (x : Option Early) → sooner x None ≡ x
sooner_none None = refl
sooner_none (Some x) = refl

-- a test on numbers a, b, c and d, the first two the offsets
abbrev before : (a b c d : ℕ) → Bool
before a b c d = nat_lt a b || (nat_eq a b && nat_lt c d)

before_trans : (a b c p q r : ℕ) → before b a q p ≡ true → before c b r q ≡ true → before c a r p ≡ true
before_trans a b c p q r h k = grind (arith, nat_tests)

before_not : (a b c p q r : ℕ) → before b a q p ≡ false → before c b r q ≡ false → before c a r p ≡ false
before_not a b c p q r h k = grind (arith, nat_tests)

before_once : (a b p q : ℕ) → before b a q p ≡ true → before a b p q ≡ true → ⊥
before_once a b p q h k = grind (arith, nat_tests)

before_neither : (a b p q : ℕ) → before b a q p ≡ false → before a b p q ≡ false → (a ≡ b) × (p ≡ q)
before_neither a b p q h k = (one a b p q h k, two a b p q h k)
  where
    one : (a b p q : ℕ) → before b a q p ≡ false → before a b p q ≡ false → a ≡ b
    one a b p q h k = grind (arith, nat_tests)

    two : (a b p q : ℕ) → before b a q p ≡ false → before a b p q ≡ false → p ≡ q
    two a b p q h k = grind (arith, nat_tests)

-- the three answers, by the three tests
choose : {A : Type 0} (x y z : A) (yx zy zx : Bool) → (yx ≡ true → zy ≡ true → zx ≡ true) → (yx ≡ false → zy ≡ false → zx ≡ false)
    → cond zy (cond zx z x) (cond yx y x) ≡ cond yx (cond zy z y) (cond zx z x)
choose x y z true true true f g = refl
choose x y z true true false f g = let h = f refl refl in cc
choose x y z true false zx f g = refl
choose x y z false true zx f g = refl
choose x y z false false false f g = refl
choose x y z false false true f g = let h = g refl refl in cc

-- the two answers, by the two tests
either : {A : Type 0} (x y : A) (yx xy : Bool) → (yx ≡ true → xy ≡ true → ⊥) → (yx ≡ false → xy ≡ false → x ≡ y) → cond yx y x ≡ cond xy x y
either x y true true f g = absurd (f refl refl)
either x y true false f g = refl
either x y false true f g = refl
either x y false false f g = g refl refl

outer : (x : Early) (b : Bool) (y z : Early) → sooner (Some x) (cond b (Some z) (Some y)) ≡ cond b (cond (is_sooner z x) (Some z) (Some x)) (cond (is_sooner y x) (Some y) (Some x))
outer x true y z = refl
outer x false y z = refl

inner : (z : Early) (b : Bool) (x y : Early) → sooner (cond b (Some y) (Some x)) (Some z) ≡ cond b (cond (is_sooner z y) (Some z) (Some y)) (cond (is_sooner z x) (Some z) (Some x))
inner z true x y = refl
inner z false x y = refl

pub sooner_assoc : (x y z : Option Early) → sooner x (sooner y z) ≡ sooner (sooner x y) z
sooner_assoc None y z = refl
sooner_assoc (Some x) None z = refl
sooner_assoc (Some x) (Some y) None = sym (sooner_none (sooner (Some x) (Some y)))
sooner_assoc (Some x) (Some y) (Some z) =
    outer x (is_sooner z y) y z
    ∙ (choose (Some x) (Some y) (Some z) (is_sooner y x) (is_sooner z y) (is_sooner z x)
    (before_trans x.offset y.offset z.offset x.rule y.rule z.rule)
    (before_not x.offset y.offset z.offset x.rule y.rule z.rule)
    ∙ sym (inner z (is_sooner y x) x y))

abbrev early : (offset rule : ℕ) → Early
early offset rule = record { offset = offset; rule = rule }

one_early : (x y : Early) → x.offset ≡ y.offset → x.rule ≡ y.rule → Some x ≡ Some y
one_early x y e h = ap (λ (n : ℕ). Some (early n x.rule)) e ∙ ap (λ (n : ℕ). Some (early y.offset n)) h

pub sooner_comm : (x y : Option Early) → sooner x y ≡ sooner y x
sooner_comm None y = sym (sooner_none y)
sooner_comm (Some x) None = refl
sooner_comm (Some x) (Some y) = either (Some x) (Some y) (is_sooner y x) (is_sooner x y) (before_once x.offset y.offset x.rule y.rule)
    (λ h k. let same = before_neither x.offset y.offset x.rule y.rule h k in one_early x y same.0 same.1)

pub first_note-append : (xs ys : List Early) → first_note (xs ++ ys) ≡ sooner (first_note xs) (first_note ys)
first_note-append [] ys = refl
first_note-append (x ∷ xs) ys = ap (sooner (Some x)) (first_note-append xs ys) ∙ sooner_assoc (Some x) (first_note xs) (first_note ys)
