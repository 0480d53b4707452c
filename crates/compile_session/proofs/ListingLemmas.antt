-- The least of the numbers that are missing.
use Rattle.std.proofs.Common.{◌≡◌, ℕ, ◌+◌, ◌<◌, ◌≤◌, ◌⊎◌, inl, inr, Bool, cond, nat_lt, List, [], ◌∷◌, ◌++◌, length, take, get_or, Option, Some, None, MatchOption, ap, sym, subst, ◌∙◌, arith, filter, Contains, append-nil}
use Rattle.std.proofs.lemmas.Bool.{lt-ltb, le-ltb}
use Rattle.std.proofs.lemmas.List.Elements.{All-nil, All-same, All-push, All-weaker, Contains-append_left, Contains-push, filter_more}
use Rattle.session_specs.specs.Sources.{IsLeastOf}

-- those of these numbers that are above the count
abbrev pub above : ℕ → List ℕ → List ℕ
above count ns = filter (λ n. nat_lt count n) ns

-- the least of these numbers, if there are any
abbrev pub IsLeast : List ℕ → Option ℕ → Type 0
IsLeast ns None = ns ≡ []
IsLeast ns (Some n) = IsLeastOf ns n

-- a number that is not above the count
above_same : (count : ℕ) (ns : List ℕ) (i : ℕ) → i < length ns → get_or ns i 0 ≤ count → above count (take (i + 1) ns) ≡ above count (take i ns)
above_same count ns i within low =
    filter_more (λ m. nat_lt count m) ns i 0 within
    ∙ ap (λ (b : Bool). above count (take i ns) ++ cond b (get_or ns i 0 ∷ []) []) (le-ltb count (get_or ns i 0) low)
    ∙ append-nil (above count (take i ns))

pub least_same : (count : ℕ) (ns : List ℕ) (i : ℕ) (least new : Option ℕ) → i < length ns → get_or ns i 0 ≤ count → IsLeast (above count (take i ns)) least → new ≡ least → IsLeast (above count (take (i + 1) ns)) new
least_same count ns i least new within low h same = subst (IsLeast (above count (take (i + 1) ns))) (sym same) (subst (λ (l : List ℕ). IsLeast l least) (sym (above_same count ns i within low)) h)

-- a number that is above the count
above_more : (count : ℕ) (ns : List ℕ) (i : ℕ) → i < length ns → count < get_or ns i 0 → above count (take (i + 1) ns) ≡ above count (take i ns) ++ get_or ns i 0 ∷ []
above_more count ns i within high =
    filter_more (λ m. nat_lt count m) ns i 0 within
    ∙ ap (λ (b : Bool). above count (take i ns) ++ cond b (get_or ns i 0 ∷ []) []) (lt-ltb count (get_or ns i 0) high)

-- m is the lesser of n and of one
least_with : (ns : List ℕ) (one : Option ℕ) (n m : ℕ) → IsLeast ns one → MatchOption one (m ≡ n) (λ k. (m ≡ k) ⊎ (m ≡ n)) → (m ≤ n) × MatchOption one (Unit {0}) (λ k. m ≤ k) → IsLeastOf (ns ++ n ∷ []) m
least_with ns None n m none is least = record {
  is_one = subst (λ (k : ℕ). Contains (ns ++ n ∷ []) k) (sym is) (Contains-push ns n);
  least = All-push (λ k. m ≤ k) ns n (All-same (λ k. m ≤ k) ns [] none (All-nil (λ k. m ≤ k))) least.0;
}
least_with ns (Some k) n m h is least = record {
  is_one = one_of is;
  least = All-push (λ j. m ≤ j) ns n (All-weaker (λ j. k ≤ j) (λ j. m ≤ j) (λ j le. omega (arith, le, least.1)) ns h.least) least.0;
}
  where
    one_of : (m ≡ k) ⊎ (m ≡ n) → Contains (ns ++ n ∷ []) m
    one_of (inl same) = subst (λ (j : ℕ). Contains (ns ++ n ∷ []) j) (sym same) (Contains-append_left ns (n ∷ []) k h.is_one)
    one_of (inr same) = subst (λ (j : ℕ). Contains (ns ++ n ∷ []) j) (sym same) (Contains-push ns n)

pub least_more : (count : ℕ) (ns : List ℕ) (i : ℕ) (one new : Option ℕ) (m : ℕ) → i < length ns → count < get_or ns i 0 → IsLeast (above count (take i ns)) one
    → MatchOption one (m ≡ get_or ns i 0) (λ k. (m ≡ k) ⊎ (m ≡ get_or ns i 0)) → (m ≤ get_or ns i 0) × MatchOption one (Unit {0}) (λ k. m ≤ k) → new ≡ Some m → IsLeast (above count (take (i + 1) ns)) new
least_more count ns i one new m within high h is least same =
    subst (IsLeast (above count (take (i + 1) ns))) (sym same) (subst (λ (l : List ℕ). IsLeastOf l m) (sym (above_more count ns i within high)) (least_with (above count (take i ns)) one (get_or ns i 0) m h is least))
