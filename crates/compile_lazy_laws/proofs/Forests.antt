-- Functions in order of number, by the numbers of those directly in each: which of them are in no other.
use Rattle.std.proofs.Common.{◌≡◌, ◌∙◌, ℕ, suc, ◌+◌, ◌<◌, ◌≤◌, ◌⊎◌, inl, inr, Bool, true, false, ◌||◌, nat_eq, if◌then◌else◌, List, [], ◌∷◌, ◌++◌, length, length-append, refl, ap, ap₂, arith}
use Rattle.std.specs.List.{list_any}
use Rattle.std.proofs.lemmas.Bool.{cases_lt, eq-eqb, ne_eqb}
use Rattle.std.proofs.lemmas.List.Folds.{list_any-append}
use Rattle.stencil_merge.specs.Functions.{is_inside, outermost_from, outermost}

-- The functions from the number `at` on, in order: of each the numbers of those directly in it. These are the outermost ones,
-- each of which stands before all that are in it.
pub data IsForest : (at : ℕ) → List ℕ → List (List ℕ) → Type 0 where
  no_trees : (at : ℕ) → IsForest at [] []
  more_trees : (at : ℕ) (inner roots : List ℕ) (inside after : List (List ℕ)) → IsForest (suc at) inner inside → IsForest (suc at + length inside) roots after
      → IsForest at (at ∷ roots) (inner ∷ (inside ++ after))

-- ---- which numbers are named

abbrev is_among : ℕ → List ℕ → Bool
is_among k numbers = list_any (λ n. nat_eq n k) numbers

-- a number is none of n from this one on
abbrev IsOut : (at count k : ℕ) → Type 0
IsOut at count k = (k < at) ⊎ (at + count ≤ k)

inside_both : (inside after : List (List ℕ)) (k : ℕ) → is_inside (inside ++ after) k ≡ (is_inside inside k || is_inside after k)
inside_both inside after k = list_any-append (λ numbers. is_among k numbers) inside after

-- of a part of the numbers
out_first : (at count more k : ℕ) → IsOut at (suc (count + more)) k → IsOut (suc at) count k
out_first at count more k (inl lt) = inl (omega (arith, lt))
out_first at count more k (inr le) = inr (omega (arith, le))

out_rest : (at count more k : ℕ) → IsOut at (suc (count + more)) k → IsOut (suc at + count) more k
out_rest at count more k (inl lt) = inl (omega (arith, lt))
out_rest at count more k (inr le) = inr (omega (arith, le))

out_head : (at count k : ℕ) → IsOut at (suc count) k → at ≡ k → ⊥
out_head at count k (inl lt) e = omega (arith, lt, e)
out_head at count k (inr le) e = omega (arith, le, e)

out_long : (at k : ℕ) (inner : List ℕ) (inside after : List (List ℕ)) → IsOut at (length (inner ∷ (inside ++ after))) k → IsOut at (suc (length inside + length after)) k
out_long at k inner inside after (inl lt) = inl lt
out_long at k inner inside after (inr le) = let e = length-append inside after in inr (omega (arith, le, e))

-- a number that is none of theirs is named nowhere
roots_out : (at : ℕ) (roots : List ℕ) (inners : List (List ℕ)) (k : ℕ) → IsForest at roots inners → IsOut at (length inners) k → is_among k roots ≡ false
roots_out at roots inners k (no_trees _) out = refl
roots_out at roots inners k (more_trees _ inner others inside after a b) out =
    let wide = out_long at k inner inside after out in
    ap₂ (λ (x : Bool) (y : Bool). x || y) (ne_eqb at k (out_head at (length inside + length after) k wide))
    (roots_out (suc at + length inside) others after k b (out_rest at (length inside) (length after) k wide))

inside_out : (at : ℕ) (roots : List ℕ) (inners : List (List ℕ)) (k : ℕ) → IsForest at roots inners → IsOut at (length inners) k → is_inside inners k ≡ false
inside_out at roots inners k (no_trees _) out = refl
inside_out at roots inners k (more_trees _ inner others inside after a b) out =
    let wide = out_long at k inner inside after out in
    let first = out_first at (length inside) (length after) k wide in
    let rest = out_rest at (length inside) (length after) k wide in
    ap₂ (λ (x : Bool) (y : Bool). x || y) (roots_out (suc at) inner inside k a first)
    (inside_both inside after k ∙ ap₂ (λ (x : Bool) (y : Bool). x || y) (inside_out (suc at) inner inside k a first) (inside_out (suc at + length inside) others after k b rest))

-- a number of one of them is that of an outermost one, or is named
by_head : (h o i p q : Bool) → h ≡ true → ((h || o) || (i || (p || q))) ≡ true
by_head true o i p q e = refl
by_head false o i p q e = absurd (cc)

by_first : (h o i p q : Bool) → (i || p) ≡ true → ((h || o) || (i || (p || q))) ≡ true
by_first true o i p q e = refl
by_first false true i p q e = refl
by_first false false true p q e = refl
by_first false false false true q e = refl
by_first false false false false q e = absurd (cc)

by_rest : (h o i p q : Bool) → (o || q) ≡ true → ((h || o) || (i || (p || q))) ≡ true
by_rest true o i p q e = refl
by_rest false true i p q e = refl
by_rest false false true p q e = refl
by_rest false false false true q e = refl
by_rest false false false false q e = e

-- as such a number is named where a function stands before those in it and others
named_there : (at : ℕ) (inner others : List ℕ) (inside after : List (List ℕ)) (k : ℕ)
    → ((nat_eq at k || is_among k others) || (is_among k inner || (is_inside inside k || is_inside after k))) ≡ true → (is_among k (at ∷ others) || is_inside (inner ∷ (inside ++ after)) k) ≡ true
named_there at inner others inside after k e = ap (λ (b : Bool). (nat_eq at k || is_among k others) || (is_among k inner || b)) (inside_both inside after k) ∙ e

module _ (at : ℕ) (inner others : List ℕ) (inside after : List (List ℕ)) (k : ℕ) (low : at ≤ k) (high : k < at + length (inner ∷ (inside ++ after))) where
  -- where it is so of those in the function, and of those after it
  named_at : (suc at ≤ k → k < suc at + length inside → (is_among k inner || is_inside inside k) ≡ true)
      → (suc at + length inside ≤ k → k < suc at + length inside + length after → (is_among k others || is_inside after k) ≡ true)
      → (at < k) ⊎ (k ≤ at) → (k < suc at + length inside) ⊎ (suc at + length inside ≤ k) → (is_among k (at ∷ others) || is_inside (inner ∷ (inside ++ after)) k) ≡ true
  named_at first rest (inr le) _ =
      named_there at inner others inside after k (by_head (nat_eq at k) (is_among k others) (is_among k inner) (is_inside inside k) (is_inside after k) (eq-eqb at k (omega (arith, low, le))))
  named_at first rest (inl lt) (inl before) =
      named_there at inner others inside after k (by_first (nat_eq at k) (is_among k others) (is_among k inner) (is_inside inside k) (is_inside after k) (first (omega (arith, lt)) before))
  named_at first rest (inl lt) (inr behind) =
      let e = length-append inside after in
      named_there at inner others inside after k (by_rest (nat_eq at k) (is_among k others) (is_among k inner) (is_inside inside k) (is_inside after k) (rest behind (omega (arith, e, high))))

named : (at : ℕ) (roots : List ℕ) (inners : List (List ℕ)) (k : ℕ) → IsForest at roots inners → at ≤ k → k < at + length inners → (is_among k roots || is_inside inners k) ≡ true
named at roots inners k (no_trees _) low high = absurd (omega (arith, low, high))
named at roots inners k (more_trees _ inner others inside after a b) low high =
    named_at at inner others inside after k low high (λ l h. named (suc at) inner inside k a l h) (λ l h. named (suc at + length inside) others after k b l h)
    (cases_lt at k) (cases_lt k (suc at + length inside))

-- ---- which are picked

-- numbers that are named are passed over
passed : (whole : List (List ℕ)) (at : ℕ) (xs ys : List (List ℕ)) → ((k : ℕ) → at ≤ k → k < at + length xs → is_inside whole k ≡ true) → outermost_from whole at (xs ++ ys) ≡ outermost_from whole (at + length xs) ys
passed whole at [] ys h = ap (λ (n : ℕ). outermost_from whole n ys) (omega arith)
passed whole at (x ∷ xs) ys h =
    ap (λ (b : Bool). if b then outermost_from whole (at + 1) (xs ++ ys) else at ∷ outermost_from whole (at + 1) (xs ++ ys)) (h at (omega arith) (omega arith))
    ∙ (passed whole (at + 1) xs ys (λ k low high. h k (omega (arith, low)) (omega (arith, high))) ∙ ap (λ (n : ℕ). outermost_from whole n ys) (omega arith))

module _ (whole : List (List ℕ)) (at : ℕ) (inner others : List ℕ) (inside after : List (List ℕ)) (a : IsForest (suc at) inner inside) (b : IsForest (suc at + length inside) others after)
    (same : (k : ℕ) → at ≤ k → k < at + length (inner ∷ (inside ++ after)) → is_inside whole k ≡ is_inside (inner ∷ (inside ++ after)) k) where
  -- the first of them is named nowhere
  head_out : is_inside whole at ≡ false
  head_out =
      same at (omega arith) (omega arith)
      ∙ ap₂ (λ (x : Bool) (y : Bool). x || y) (roots_out (suc at) inner inside at a (inl (omega arith)))
      (inside_both inside after at ∙ ap₂ (λ (x : Bool) (y : Bool). x || y) (inside_out (suc at) inner inside at a (inl (omega arith))) (inside_out (suc at + length inside) others after at b (inl (omega arith))))

  -- those in it are named
  inner_in : (k : ℕ) → at + 1 ≤ k → k < at + 1 + length inside → is_inside whole k ≡ true
  inner_in k low high =
      let e = length-append inside after in
      same k (omega (arith, low)) (omega (arith, high, e))
      ∙ (ap (λ (x : Bool). is_among k inner || x) (inside_both inside after k)
      ∙ by_first false false (is_among k inner) (is_inside inside k) (is_inside after k) (named (suc at) inner inside k a (omega (arith, low)) (omega (arith, high))))

  -- of those after it only they name any
  after_same : (k : ℕ) → suc at + length inside ≤ k → k < suc at + length inside + length after → is_inside whole k ≡ is_inside after k
  after_same k low high =
      let e = length-append inside after in
      same k (omega (arith, low)) (omega (arith, high, e))
      ∙ (ap₂ (λ (x : Bool) (y : Bool). x || y) (roots_out (suc at) inner inside k a (inr low)) (inside_both inside after k)
      ∙ ap (λ (x : Bool). x || is_inside after k) (inside_out (suc at) inner inside k a (inr low)))

  picked_more : outermost_from whole (suc at + length inside) after ≡ others → outermost_from whole at (inner ∷ (inside ++ after)) ≡ at ∷ others
  picked_more h =
      ap (λ (x : Bool). if x then outermost_from whole (at + 1) (inside ++ after) else at ∷ outermost_from whole (at + 1) (inside ++ after)) head_out
      ∙ ap (λ (l : List ℕ). at ∷ l) (passed whole (at + 1) inside after inner_in ∙ (ap (λ (n : ℕ). outermost_from whole n after) (omega arith) ∙ h))

picked : (whole : List (List ℕ)) (at : ℕ) (roots : List ℕ) (inners : List (List ℕ)) → IsForest at roots inners → ((k : ℕ) → at ≤ k → k < at + length inners → is_inside whole k ≡ is_inside inners k)
    → outermost_from whole at inners ≡ roots
picked whole at roots inners (no_trees _) same = refl
picked whole at roots inners (more_trees _ inner others inside after a b) same =
    picked_more whole at inner others inside after a b same (picked whole (suc at + length inside) others after b (after_same whole at inner others inside after a b same))

pub forest_outermost : (roots : List ℕ) (inners : List (List ℕ)) → IsForest 1 roots inners → outermost inners ≡ roots
forest_outermost roots inners f = picked inners 1 roots inners f (λ k low high. refl)
