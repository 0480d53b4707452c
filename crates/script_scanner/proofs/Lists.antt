-- Lists seen through a function of their items, and from a place on.
use Rattle.std.proofs.Common.{◌≡◌, ℕ, ◌+◌, ◌<◌, ◌≤◌, zero, suc, List, [], ◌∷◌, map, length, take, drop, Bool, true, false, cond, refl, sym, ◌∙◌, ap, subst, arith, add-zero, add-one, get_or, ◌≢◌, inl, inr}
use Rattle.std.specs.Prelude.{◌||◌, ◌&&◌, ◌==◌, filter, find, Option, Some, IfSome}
use Rattle.std.proofs.Math.Seq.{drop-cons}
use Rattle.std.proofs.Math.ListN.{drop_of_length-le}
use Rattle.std.proofs.lemmas.Bool.{cases_Bool, eqb-true}
use Rattle.std.specs.List.{prefix_len, list_any, list_all, AllByRecursion}

module _ {A B : Type 0} where
  -- the longest front whose items pass a test, seen through a function: one more item
  pub prefix_more : (p : B → Bool) (f : A → B) (xs : List A) (i : ℕ) (x : A) → drop i xs ≡ x ∷ drop (i + 1) xs → p (f x) ≡ true
      → prefix_len p (map f (drop i xs)) ≡ 1 + prefix_len p (map f (drop (i + 1) xs))
  prefix_more p f xs i x here passes = ap (λ ys. prefix_len p (map f ys)) here ∙ ap (λ b. cond b (1 + prefix_len p (map f (drop (i + 1) xs))) 0) passes

  -- an item that is not of it
  pub prefix_stops : (p : B → Bool) (f : A → B) (xs : List A) (i : ℕ) (x : A) → drop i xs ≡ x ∷ drop (i + 1) xs → p (f x) ≡ false → prefix_len p (map f (drop i xs)) ≡ 0
  prefix_stops p f xs i x here stops = ap (λ ys. prefix_len p (map f ys)) here ∙ ap (λ b. cond b (1 + prefix_len p (map f (drop (i + 1) xs))) 0) stops

  -- nothing is left
  pub prefix_ends : (p : B → Bool) (f : A → B) (xs : List A) (i : ℕ) → length xs ≤ i → prefix_len p (map f (drop i xs)) ≡ 0
  prefix_ends p f xs i ended = ap (λ ys. prefix_len p (map f ys)) (drop_of_length-le xs ended)

  -- whether some item passes, seen through a function: one that does not, and one that does
  pub any_more : (p : B → Bool) (f : A → B) (xs : List A) (i : ℕ) (x : A) → drop i xs ≡ x ∷ drop (i + 1) xs → p (f x) ≡ false
      → list_any p (map f (drop (i + 1) xs)) ≡ list_any p (map f (drop i xs))
  any_more p f xs i x here fails = sym (ap (λ ys. list_any p (map f ys)) here ∙ ap (λ b. b || list_any p (map f (drop (i + 1) xs))) fails)

  pub any_found : (p : B → Bool) (f : A → B) (xs : List A) (i : ℕ) (x : A) → drop i xs ≡ x ∷ drop (i + 1) xs → p (f x) ≡ true → list_any p (map f (drop i xs)) ≡ true
  any_found p f xs i x here passes = ap (λ ys. list_any p (map f ys)) here ∙ ap (λ b. b || list_any p (map f (drop (i + 1) xs))) passes

  pub any_ends : (p : B → Bool) (f : A → B) (xs : List A) (i : ℕ) → length xs ≤ i → list_any p (map f (drop i xs)) ≡ false
  any_ends p f xs i ended = ap (λ ys. list_any p (map f ys)) (drop_of_length-le xs ended)

  -- a front and a rest
  pub map_take : (f : A → B) (n : ℕ) (xs : List A) → map f (take n xs) ≡ take n (map f xs)
  map_take f zero xs = refl
  map_take f (suc n) [] = refl
  map_take f (suc n) (x ∷ xs) = ap (λ ys. f x ∷ ys) (map_take f n xs)

  pub map_drop : (f : A → B) (n : ℕ) (xs : List A) → map f (drop n xs) ≡ drop n (map f xs)
  map_drop f zero xs = refl
  map_drop f (suc n) [] = refl
  map_drop f (suc n) (x ∷ xs) = map_drop f n xs

-- numbers that differ fail the test
pub not_equal : (a b : ℕ) → a ≢ b → (a == b) ≡ false
not_equal a b ne = elim (cases_Bool (a == b)) as (λ _. (a == b) ≡ false) [ inl y ↦ absurd (ne (eqb-true a b y)) | inr n ↦ n ]

pub and_left : (a b : Bool) → a && b ≡ true → a ≡ true
and_left true b e = refl
and_left false b e = e

pub and_right : (a b : Bool) → a && b ≡ true → b ≡ true
and_right true b e = e
and_right false b e = cc

module _ {X : Type 0} where
  -- a rest of a rest
  pub drop_drop : (n m : ℕ) (xs : List X) → drop (n + m) xs ≡ drop m (drop n xs)
  drop_drop zero m xs = ap (λ k. drop k xs) (let e : zero + m ≡ m = omega arith in e)
  drop_drop (suc n) zero xs = ap (λ k. drop k xs) (add-zero (suc n))
  drop_drop (suc n) (suc m) [] = ap (λ k. drop k []) (let e : suc n + suc m ≡ suc (suc n + m) = omega arith in e)
  drop_drop (suc n) (suc m) (x ∷ xs) = ap (λ k. drop k (x ∷ xs)) (let e : suc n + suc m ≡ suc (n + suc m) = omega arith in e) ∙ drop_drop n (suc m) xs

  -- what is left behind the first item
  pub behind_first : (xs others behind : List X) (x : X) → xs ≡ x ∷ others → behind ≡ drop 1 xs → xs ≡ x ∷ behind
  behind_first xs others behind x split is = split ∙ ap (λ ys. x ∷ ys) (sym (is ∙ ap (λ ys. drop 1 ys) split))

  -- the item at a place, and the rest after it
  pub place_in : (xs : List X) (i : ℕ) → i < length xs → (x : X) × (rest : List X) × (drop i xs ≡ x ∷ rest) × (drop (i + 1) xs ≡ rest)
  place_in [] i h = absurd (omega (arith, h))
  place_in (x ∷ xs) zero h = (x, xs, refl, refl)
  place_in (x ∷ xs) (suc i) h = let (y, rest, here, next) = place_in xs i (omega (arith, h)) in
      (y, rest, here, ap (λ k. drop k (x ∷ xs)) (let e : suc i + 1 ≡ suc (i + 1) = omega arith in e) ∙ next)

  -- the item that was read at a place, and the rest after it
  pub read_at : (xs : List X) (i : ℕ) (x : X) → i < length xs → x ≡ get_or xs i x → drop i xs ≡ x ∷ drop (i + 1) xs
  read_at xs i x lt read = drop-cons xs i x lt ∙ ap (λ y. y ∷ drop (suc i) xs) (sym read) ∙ ap (λ k. x ∷ drop k xs) (sym (add-one i))

  -- what passes one test is sought among what passes another, where nothing else passes the one
  pub find_filter : (p q ok : X → Bool) (xs : List X) → list_all ok xs ≡ true → ((x : X) → ok x ≡ true → q x ≡ false → p x ≡ false) → find p xs ≡ find p (filter q xs)
  find_filter p q ok [] all only = refl
  find_filter p q ok (x ∷ xs) all only =
      let here : ok x ≡ true = and_left (ok x) (list_all ok xs) all in
      let rest : find p xs ≡ find p (filter q xs) = find_filter p q ok xs (and_right (ok x) (list_all ok xs) all) only in
      elim (cases_Bool (q x)) as (λ _. find p (x ∷ xs) ≡ find p (filter q (x ∷ xs))) [
        | inl y ↦ ap (λ (o : Option X). cond (p x) (Some x) o) rest ∙ ap (λ (b : Bool). find p (cond b (x ∷ filter q xs) (filter q xs))) (sym y)
        | inr n ↦ ap (λ (b : Bool). cond b (Some x) (find p xs)) (only x here n) ∙ rest ∙ ap (λ (b : Bool). find p (cond b (x ∷ filter q xs) (filter q xs))) (sym n)
      ]

  -- nothing passes a test
  pub filter_none : (q : X → Bool) (xs : List X) → AllByRecursion (λ x. q x ≡ false) xs → filter q xs ≡ []
  filter_none q [] all = refl
  filter_none q (x ∷ xs) all = ap (λ (b : Bool). cond b (x ∷ filter q xs) (filter q xs)) all.0 ∙ filter_none q xs all.1

  -- what is found passes the test, and what all items pass
  pub find_satisfies : (p ok : X → Bool) (xs : List X) → list_all ok xs ≡ true → IfSome (find p xs) (λ x. (p x ≡ true) × (ok x ≡ true))
  find_satisfies p ok [] all = tt
  find_satisfies p ok (x ∷ xs) all = elim (cases_Bool (p x)) as (λ _. IfSome (find p (x ∷ xs)) (λ y. (p y ≡ true) × (ok y ≡ true))) [
    | inl y ↦ subst (λ (b : Bool). IfSome (cond b (Some x) (find p xs)) (λ z. (p z ≡ true) × (ok z ≡ true))) (sym y) (y, and_left (ok x) (list_all ok xs) all)
    | inr n ↦ subst (λ (b : Bool). IfSome (cond b (Some x) (find p xs)) (λ z. (p z ≡ true) × (ok z ≡ true))) (sym n) (find_satisfies p ok xs (and_right (ok x) (list_all ok xs) all))
  ]
