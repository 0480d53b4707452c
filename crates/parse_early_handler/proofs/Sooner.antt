-- The first of early errors that are put together.
use Rattle.std.proofs.Common.{◌≡◌, ℕ, Bool, true, false, cond, nat_eq, nat_lt, ◌||◌, ◌&&◌, Option, None, Some, List, [], ◌∷◌, ◌++◌, refl, sym, ap, ◌∙◌, min, arith}
use Rattle.std.proofs.lemmas.Bool.Decides.{nat_tests}
use Rattle.parse_track.specs.declared.region.Early.{Early}
use Rattle.parse_track.specs.EarlyErrors.{error_of, is_sooner, smaller, sooner}
use Rattle.parse_track.specs.Notes.{first_note}

pub sooner_none : (x : Option Early) → sooner x None ≡ x
sooner_none None = refl
sooner_none (Some x) = refl

-- a test on numbers a, b, c and d, the first two the offsets
abbrev before : (a b c d : ℕ) → Bool
before a b c d = nat_lt a b || (nat_eq a b && nat_lt c d)

before_trans : (a b c p q r : ℕ) → before b a q p ≡ true → before c b r q ≡ true → before c a r p ≡ true
before_trans a b c p q r h k = grind (arith, nat_tests)

before_not : (a b c p q r : ℕ) → before b a q p ≡ false → before c b r q ≡ false → before c a r p ≡ false
before_not a b c p q r h k = grind (arith, nat_tests)

-- the three answers, by the three tests
choose : {A : Type 0} (x y z : A) (yx zy zx : Bool) → (yx ≡ true → zy ≡ true → zx ≡ true) → (yx ≡ false → zy ≡ false → zx ≡ false)
    → cond zy (cond zx z x) (cond yx y x) ≡ cond yx (cond zy z y) (cond zx z x)
choose x y z true true true f g = refl
choose x y z true true false f g = let h = f refl refl in cc
choose x y z true false zx f g = refl
choose x y z false true zx f g = refl
choose x y z false false false f g = refl
choose x y z false false true f g = let h = g refl refl in cc

outer : (x : Early) (b : Bool) (y z : Early) → sooner (Some x) (cond b (Some z) (Some y)) ≡ cond b (cond (is_sooner z x) (Some z) (Some x)) (cond (is_sooner y x) (Some y) (Some x))
outer x true y z = refl
outer x false y z = refl

inner : (z : Early) (b : Bool) (x y : Early) → sooner (cond b (Some y) (Some x)) (Some z) ≡ cond b (cond (is_sooner z y) (Some z) (Some y)) (cond (is_sooner z x) (Some z) (Some x))
inner z true x y = refl
inner z false x y = refl

pub sooner_assoc : (x y z : Option Early) → sooner x (sooner y z) ≡ sooner (sooner x y) z
sooner_assoc None y z = refl
sooner_assoc (Some x) None z = refl
sooner_assoc (Some x) (Some y) None = sym (sooner_none (sooner (Some x) (Some y)))
sooner_assoc (Some x) (Some y) (Some z) =
    outer x (is_sooner z y) y z
    ∙ (choose (Some x) (Some y) (Some z) (is_sooner y x) (is_sooner z y) (is_sooner z x)
    (before_trans x.offset y.offset z.offset x.rule y.rule z.rule)
    (before_not x.offset y.offset z.offset x.rule y.rule z.rule)
    ∙ sym (inner z (is_sooner y x) x y))

pub first_note-append : (xs ys : List Early) → first_note (xs ++ ys) ≡ sooner (first_note xs) (first_note ys)
first_note-append [] ys = refl
first_note-append (x ∷ xs) ys = ap (sooner (Some x)) (first_note-append xs ys) ∙ sooner_assoc (Some x) (first_note xs) (first_note ys)

-- the first of two early errors of one rule
by_offset : (rule x y : ℕ) (b : Bool) → nat_lt y x || (nat_eq y x && nat_lt rule rule) ≡ b
    → ◌≡◌ {A = Option Early} (Some (record { offset = min x y; rule = rule })) (cond b (Some (record { offset = y; rule = rule })) (Some (record { offset = x; rule = rule })))
by_offset rule x y true h = ap (λ (n : ℕ). Some (record { offset = n; rule = rule })) (grind (arith, nat_tests))
by_offset rule x y false h = ap (λ (n : ℕ). Some (record { offset = n; rule = rule })) (grind (arith, nat_tests))

pub error_of-smaller : (rule : ℕ) (x y : Option ℕ) → error_of rule (smaller x y) ≡ sooner (error_of rule x) (error_of rule y)
error_of-smaller rule None y = refl
error_of-smaller rule (Some x) None = refl
error_of-smaller rule (Some x) (Some y) = by_offset rule x y (is_sooner (record { offset = y; rule = rule }) (record { offset = x; rule = rule })) refl
