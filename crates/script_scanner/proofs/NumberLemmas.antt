-- Digits, one group after the other, and their value.
use Rattle.std.proofs.Common.{◌≡◌, ℕ, ◌+◌, ◌*◌, ◌<◌, ◌≤◌, List, [], ◌∷◌, map, length, drop, Bool, true, false, cond, refl, sym, ◌∙◌, ap, subst, arith, mul-le-mul_left}
use Rattle.std.specs.Prelude.{Some, None, fold, nat_le, ◌&&◌, ◌==◌}
use Rattle.std.specs.Char.{is_digit, digit_value}
use Rattle.std.proofs.lemmas.Bool.{leb-true, le-leb}
use Rattle.std.proofs.Math.ListN.{drop_of_length-le}
use Rattle.unit_text.specs.declared.Point.{Point}
use Rattle.unit_text.specs.Points.{code_of}
use Rattle.script_scanner.specs.Numbers.{digit_length, more_digits, with_digit, limited, digits_value}
use Rattle.script_scanner.proofs.Lists.{map_drop, drop_drop}

module _ (radix : ℕ) where
  one : (c : ℕ) (b : Bool) (n : ℕ) → cond b 1 0 ≡ n → 0 < n → cond b 1 0 ≡ n + more_digits radix (drop n (c ∷ []))
  one c true n e p = subst (λ (m : ℕ). 1 ≡ m + more_digits radix (drop m (c ∷ []))) e refl
  one c false n e p = absurd (omega (arith, e, p))

  two : (c d : ℕ) (codes : List ℕ) (b u : Bool) (n : ℕ) → cond b 1 (cond u 2 0) ≡ n → 0 < n
      → cond b (1 + more_digits radix (d ∷ codes)) (cond u (2 + more_digits radix codes) 0) ≡ n + more_digits radix (drop n (c ∷ d ∷ codes))
  two c d codes true u n e p = subst (λ (m : ℕ). 1 + more_digits radix (d ∷ codes) ≡ m + more_digits radix (drop m (c ∷ d ∷ codes))) e refl
  two c d codes false true n e p = subst (λ (m : ℕ). 2 + more_digits radix codes ≡ m + more_digits radix (drop m (c ∷ d ∷ codes))) e refl
  two c d codes false false n e p = absurd (omega (arith, e, p))

  -- one more digit
  pub digits_more : (codes : List ℕ) (n : ℕ) → digit_length radix codes ≡ n → 0 < n → more_digits radix codes ≡ n + more_digits radix (drop n codes)
  digits_more [] n e p = absurd (omega (arith, e, p))
  digits_more (c ∷ []) n e p = one c (is_digit c radix) n e p
  digits_more (c ∷ d ∷ codes) n e p = two c d codes (is_digit c radix) ((c == 0x5F) && is_digit d radix) n e p

  none_two : (d : ℕ) (codes : List ℕ) (b u : Bool) → cond {A = ℕ} b 1 (cond u 2 0) ≡ 0 → cond b (1 + more_digits radix (d ∷ codes)) (cond u (2 + more_digits radix codes) 0) ≡ 0
  none_two d codes true u e = absurd (omega (arith, e))
  none_two d codes false true e = absurd (omega (arith, e))
  none_two d codes false false e = refl

  -- no more digits
  pub digits_end : (codes : List ℕ) → digit_length radix codes ≡ 0 → more_digits radix codes ≡ 0
  digits_end [] e = refl
  digits_end (c ∷ []) e = e
  digits_end (c ∷ d ∷ codes) e = none_two d codes (is_digit c radix) ((c == 0x5F) && is_digit d radix) e

  -- the digits passed, and the next one
  pub digits_on : (points : List Point) (at n : ℕ) → digit_length radix (map code_of (drop at points)) ≡ n → 0 < n
      → more_digits radix (map code_of points) ≡ at + more_digits radix (map code_of (drop at points))
      → more_digits radix (map code_of points) ≡ (at + n) + more_digits radix (map code_of (drop (at + n) points))
  digits_on points at n e p before =
      let step : more_digits radix (map code_of (drop at points)) ≡ n + more_digits radix (map code_of (drop (at + n) points)) =
      digits_more (map code_of (drop at points)) n e p
      ∙ ap (λ cs. n + more_digits radix cs) (sym (map_drop code_of n (drop at points)) ∙ ap (map code_of) (sym (drop_drop at n points))) in
      omega (arith, before, step)

  -- the digits passed are all
  pub digits_done : (points : List Point) (at : ℕ) → digit_length radix (map code_of (drop at points)) ≡ 0
      → more_digits radix (map code_of points) ≡ at + more_digits radix (map code_of (drop at points)) → at ≡ more_digits radix (map code_of points)
  digits_done points at e before = let stop : more_digits radix (map code_of (drop at points)) ≡ 0 = digits_end (map code_of (drop at points)) e in omega (arith, before, stop)

  grows_by : (v d : ℕ) (b : Bool) → 1 ≤ radix → v ≤ cond b (v * radix + d) v
  grows_by v d true h = let m : v * 1 ≤ v * radix = mul-le-mul_left v h in omega (arith, m)
  grows_by v d false h = omega arith

  -- a value does not fall as digits are read
  pub value_grows : (v : ℕ) (codes : List ℕ) → 1 ≤ radix → v ≤ fold (with_digit radix) v codes
  value_grows v [] h = omega arith
  value_grows v (c ∷ codes) h = let here : v ≤ with_digit radix v c = grows_by v (digit_value c) (is_digit c radix) h in
      let there : with_digit radix v c ≤ fold (with_digit radix) (with_digit radix v c) codes = value_grows (with_digit radix v c) codes h in
      omega (arith, here, there)

limited_by : (v : ℕ) (b : Bool) → nat_le v 9007199254740991 ≡ b → 9007199254740991 < v → cond b (Some v) None ≡ None
limited_by v true e h = absurd (omega (arith, leb-true v 9007199254740991 e, h))
limited_by v false e h = refl

-- a value above the limit
pub limited_none : (v : ℕ) → 9007199254740991 < v → limited v ≡ None
limited_none v h = limited_by v (nat_le v 9007199254740991) refl h

-- a value within the limit
limited_some : (v : ℕ) → v ≤ 9007199254740991 → limited v ≡ Some v
limited_some v h = ap (λ b. cond b (Some v) None) (le-leb v 9007199254740991 h)

module _ (radix : ℕ) where
  -- one digit more was read
  pub value_next : (points : List Point) (i value next : ℕ) (d : Point) → drop i points ≡ d ∷ drop (i + 1) points → next ≡ with_digit radix value d.code
      → fold (with_digit radix) value (map code_of (drop i points)) ≡ fold (with_digit radix) 0 (map code_of points)
      → fold (with_digit radix) next (map code_of (drop (i + 1) points)) ≡ fold (with_digit radix) 0 (map code_of points)
  value_next points i value next d here more before =
      ap (λ v. fold (with_digit radix) v (map code_of (drop (i + 1) points))) more
      ∙ sym (ap (λ ps. fold (with_digit radix) value (map code_of ps)) here)
      ∙ before

  -- a front whose value is above the limit
  pub value_over : (points : List Point) (i value next : ℕ) (d : Point) → 1 ≤ radix → drop i points ≡ d ∷ drop (i + 1) points → next ≡ with_digit radix value d.code
      → fold (with_digit radix) value (map code_of (drop i points)) ≡ fold (with_digit radix) 0 (map code_of points)
      → 9007199254740991 < next → digits_value radix (map code_of points) ≡ None
  value_over points i value next d low here more before over =
      let whole : fold (with_digit radix) next (map code_of (drop (i + 1) points)) ≡ fold (with_digit radix) 0 (map code_of points) = value_next points i value next d here more before in
      let grown : next ≤ fold (with_digit radix) next (map code_of (drop (i + 1) points)) = value_grows radix next (map code_of (drop (i + 1) points)) low in
      limited_none (fold (with_digit radix) 0 (map code_of points)) (omega (arith, whole, grown, over))

  -- all digits were read
  pub value_all : (points : List Point) (i value : ℕ) → length points ≤ i → fold (with_digit radix) value (map code_of (drop i points)) ≡ fold (with_digit radix) 0 (map code_of points)
      → value ≤ 9007199254740991 → Some value ≡ digits_value radix (map code_of points)
  value_all points i value ended before small =
      let same : value ≡ fold (with_digit radix) 0 (map code_of points) =
      sym (ap (λ ps. fold (with_digit radix) value (map code_of ps)) (drop_of_length-le points ended)) ∙ before in
      sym (ap limited (sym same) ∙ limited_some value small)
