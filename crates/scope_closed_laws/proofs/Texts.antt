-- Texts among others.
use Rattle.std.proofs.Common.{◌≡◌, Bool, true, false, cond, if◌then◌else◌, ◌||◌, ◌&&◌, not, bytes_eq, List, [], ◌∷◌, ◌++◌, refl, sym, ap, ap₂, ◌∙◌, true≢false}
use Rattle.std.proofs.lemmas.List.Folds.{list_any-append}
use Rattle.std.proofs.lemmas.Map.Views.{any-filter_same}
use Rattle.std.specs.Cmp.Lexicographic.{bytes_decides, nat_list_eq_equiv}
use Rattle.parse_track.specs.EarlyErrors.{has}
use Rattle.parse_track.specs.ClosedNames.{without, distinct}
use Rattle.scope_analysis.specs.DeclaredNames.{Text, has_text, texts_without, first_ones_after, first_ones}

pub or_false : (b : Bool) → (b || false) ≡ b
or_false true = refl
or_false false = refl

pub equal_sym : (x y : Text) → bytes_eq x y ≡ bytes_eq y x
equal_sym x y = nat_list_eq_equiv.symm x y

pub has-has_text : (x : Text) (xs : List Text) → has bytes_eq x xs ≡ has_text xs x
has-has_text x [] = refl
has-has_text x (y ∷ ys) = ap (λ (b : Bool). b || has bytes_eq x ys) (equal_sym x y) ∙ ap (λ (b : Bool). bytes_eq y x || b) (has-has_text x ys)

pub has_text-append : (x : Text) (xs ys : List Text) → has_text (xs ++ ys) x ≡ (has_text xs x || has_text ys x)
has_text-append x xs ys = list_any-append (λ (t : Text). bytes_eq t x) xs ys

pub has-append : (x : Text) (xs ys : List Text) → has bytes_eq x (xs ++ ys) ≡ (has bytes_eq x xs || has bytes_eq x ys)
has-append x xs ys = list_any-append (bytes_eq x) xs ys

pub has_text-without : (x : Text) (gone xs : List Text) → has_text (texts_without gone xs) x ≡ (not (has_text gone x) && has_text xs x)
has_text-without x gone xs =
    any-filter_same (λ (t : Text). bytes_eq t x) (λ (t : Text). not (has_text gone t)) (not (has_text gone x))
    (λ k same. ap (λ (t : Text). not (has_text gone t)) ((bytes_decides k x).0 same)) xs

-- ---- each name once

and_false : (b : Bool) → (b && false) ≡ false
and_false true = refl
and_false false = refl

-- a name that stands first: among those that were seen, the same as this one
first_step : (a b h r : Bool) → (b ≡ true → h ≡ a) → (has_one : Bool) → has_one ≡ cond h false (b || false)
    → (has_one || (not (a || (b || false)) && r)) ≡ (not a && (b || r))
first_step true true true r e one f = ap (λ (o : Bool). o || false) f
first_step true true false r e one f = absurd (true≢false (sym (e refl)))
first_step true false true r e one f = ap (λ (o : Bool). o || false) f
first_step true false false r e one f = ap (λ (o : Bool). o || false) f
first_step false true true r e one f = absurd (true≢false (e refl))
first_step false true false r e one f = ap (λ (o : Bool). o || false) f
first_step false false true r e one f = ap (λ (o : Bool). o || r) f
first_step false false false r e one f = ap (λ (o : Bool). o || r) f

one_has : (x y : Text) (h : Bool) → has bytes_eq x (cond h [] (y ∷ [])) ≡ cond h false (bytes_eq x y || false)
one_has x y true = refl
one_has x y false = refl

pub has-without : (x : Text) (seen xs : List Text) → has bytes_eq x (without bytes_eq seen xs) ≡ (not (has bytes_eq x seen) && has bytes_eq x xs)
has-without x seen [] = sym (and_false (not (has bytes_eq x seen)))
has-without x seen (y ∷ ys) =
    has-append x (cond (has bytes_eq y seen) [] (y ∷ [])) (without bytes_eq (seen ++ y ∷ []) ys)
    ∙ (ap (λ (b : Bool). has bytes_eq x (cond (has bytes_eq y seen) [] (y ∷ [])) || b) (has-without x (seen ++ y ∷ []) ys
    ∙ ap (λ (b : Bool). not b && has bytes_eq x ys) (has-append x seen (y ∷ [])))
    ∙ first_step (has bytes_eq x seen) (bytes_eq x y) (has bytes_eq y seen) (has bytes_eq x ys)
    (λ e. ap (λ (t : Text). has bytes_eq t seen) (sym ((bytes_decides x y).0 e)))
    (has bytes_eq x (cond (has bytes_eq y seen) [] (y ∷ []))) (one_has x y (has bytes_eq y seen)))

pub has-distinct : (x : Text) (xs : List Text) → has bytes_eq x (distinct bytes_eq xs) ≡ has bytes_eq x xs
has-distinct x xs = has-without x [] xs

-- as the other definition has it, where the names that were seen are some that are left out, and those that stood before
module _ (left : List Text) where
  seen_more : (seen before : List Text) (y : Text) → ((x : Text) → has bytes_eq x seen ≡ (has_text left x || has_text before x)) → (x : Text) → has bytes_eq x (seen ++ y ∷ []) ≡ (has_text left x || (bytes_eq y x || has_text before x))
  seen_more seen before y h x = has-append x seen (y ∷ []) ∙ (ap₂ (λ (a b : Bool). a || (b || false)) (h x) (equal_sym x y) ∙ swap (has_text left x) (has_text before x) (bytes_eq y x)) where
    swap : (a b c : Bool) → ((a || b) || (c || false)) ≡ (a || (c || b))
    swap true b c = refl
    swap false true true = refl
    swap false true false = refl
    swap false false true = refl
    swap false false false = refl

  seen_same : (seen before : List Text) (y : Text) → has_text before y ≡ true → ((x : Text) → has bytes_eq x seen ≡ (has_text left x || has_text before x)) → (x : Text) → has bytes_eq x (seen ++ y ∷ []) ≡ (has_text left x || has_text before x)
  seen_same seen before y s h x = seen_more seen before y h x ∙ ap (λ (b : Bool). has_text left x || b) (drop_one (bytes_eq y x) (has_text before x) (λ e. ap (has_text before) (sym ((bytes_decides y x).0 e)) ∙ s)) where
    drop_one : (a b : Bool) → (a ≡ true → b ≡ true) → (a || b) ≡ b
    drop_one true b h = sym (h refl)
    drop_one false b h = refl

  step : (y : Text) (ys seen before : List Text) (l b : Bool) → has_text left y ≡ l → has_text before y ≡ b → has bytes_eq y seen ≡ (l || b)
      → (b ≡ true → without bytes_eq (seen ++ y ∷ []) ys ≡ texts_without left (first_ones_after before ys))
      → without bytes_eq (seen ++ y ∷ []) ys ≡ texts_without left (first_ones_after (y ∷ before) ys)
      → (cond (has bytes_eq y seen) [] (y ∷ []) ++ without bytes_eq (seen ++ y ∷ []) ys) ≡ texts_without left (if b then first_ones_after before ys else y ∷ first_ones_after (y ∷ before) ys)
  step y ys seen before true true e f g h k = ap (λ (s : Bool). cond s [] (y ∷ []) ++ without bytes_eq (seen ++ y ∷ []) ys) g ∙ h refl
  step y ys seen before false true e f g h k = ap (λ (s : Bool). cond s [] (y ∷ []) ++ without bytes_eq (seen ++ y ∷ []) ys) g ∙ h refl
  step y ys seen before true false e f g h k =
      ap (λ (s : Bool). cond s [] (y ∷ []) ++ without bytes_eq (seen ++ y ∷ []) ys) g
      ∙ (k ∙ sym (ap (λ (s : Bool). cond (not s) (y ∷ texts_without left (first_ones_after (y ∷ before) ys)) (texts_without left (first_ones_after (y ∷ before) ys))) e))
  step y ys seen before false false e f g h k =
      ap (λ (s : Bool). cond s [] (y ∷ []) ++ without bytes_eq (seen ++ y ∷ []) ys) g
      ∙ (ap (λ (us : List Text). y ∷ us) k ∙ sym (ap (λ (s : Bool). cond (not s) (y ∷ texts_without left (first_ones_after (y ∷ before) ys)) (texts_without left (first_ones_after (y ∷ before) ys))) e))

  pub without_as : (xs seen before : List Text) → ((x : Text) → has bytes_eq x seen ≡ (has_text left x || has_text before x)) → without bytes_eq seen xs ≡ texts_without left (first_ones_after before xs)
  without_as [] seen before h = refl
  without_as (y ∷ ys) seen before h =
      step y ys seen before (has_text left y) (has_text before y) refl refl (h y)
      (λ s. without_as ys (seen ++ y ∷ []) before (seen_same seen before y s h)) (without_as ys (seen ++ y ∷ []) (y ∷ before) (seen_more seen before y h))

without_none : (xs : List Text) → texts_without [] xs ≡ xs
without_none [] = refl
without_none (x ∷ xs) = ap (λ (us : List Text). x ∷ us) (without_none xs)

pub distinct_as : (xs : List Text) → distinct bytes_eq xs ≡ first_ones xs
distinct_as xs = without_as [] xs [] [] (λ x. refl) ∙ without_none (first_ones xs)

pub has_text-first_ones : (x : Text) (xs : List Text) → has_text (first_ones xs) x ≡ has_text xs x
has_text-first_ones x xs =
    ap (λ (us : List Text). has_text us x) (sym (distinct_as xs)) ∙ (sym (has-has_text x (distinct bytes_eq xs)) ∙ (has-distinct x xs ∙ has-has_text x xs))
