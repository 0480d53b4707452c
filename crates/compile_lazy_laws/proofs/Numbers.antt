-- Functions that start at rising offsets are numbered from 1 in their order.
use Rattle.std.proofs.Common.{◌≡◌, ◌∙◌, ℕ, suc, ◌+◌, ◌<◌, ◌≤◌, Bool, cond, nat_lt, List, [], ◌∷◌, ◌++◌, length, filter, append_assoc, length-append, refl, sym, ap, subst, arith}
use Rattle.std.proofs.lemmas.Bool.{le-ltb, lt-ltb}
use Rattle.emit_limit_laws.specs.Offsets.{OffsetsRise}
use Rattle.compile_specs.specs.Shown.{number_of}

-- these offsets have the numbers from `at` on, among functions that start at offsets
abbrev pub AreNumbered : List ℕ → (at : ℕ) → List ℕ → Type 0
AreNumbered starts at [] = Unit {0}
AreNumbered starts at (n ∷ ns) = (number_of starts n ≡ at) × AreNumbered starts (suc at) ns

pub numbered_front : (starts : List ℕ) (at : ℕ) (ns ms : List ℕ) → AreNumbered starts at (ns ++ ms) → AreNumbered starts at ns
numbered_front starts at [] ms h = tt
numbered_front starts at (n ∷ ns) ms h = (h.0, numbered_front starts (suc at) ns ms h.1)

pub numbered_back : (starts : List ℕ) (at past : ℕ) (ns ms : List ℕ) → past ≡ at + length ns → AreNumbered starts at (ns ++ ms) → AreNumbered starts past ms
numbered_back starts at past [] ms e h = subst (λ (k : ℕ). AreNumbered starts k ms) (omega (arith, e)) h
numbered_back starts at past (n ∷ ns) ms e h = numbered_back starts (suc at) past ns ms (omega (arith, e)) h.1

-- ---- offsets that rise

-- offsets below this one
abbrev AllBelow : ℕ → List ℕ → Type 0
AllBelow low [] = Unit {0}
AllBelow low (n ∷ ns) = (n < low) × AllBelow low ns

below_more : (low n : ℕ) (ns : List ℕ) → low ≤ n → AllBelow low ns → AllBelow (suc n) (ns ++ n ∷ [])
below_more low n [] le below = (omega arith, tt)
below_more low n (m ∷ ns) le below = (omega (arith, below.0), below_more low n ns le below.1)

count_front : (n low : ℕ) (front back : List ℕ) → low ≤ n → AllBelow low front → length (filter (λ s. nat_lt s n) (front ++ back)) ≡ length front + length (filter (λ s. nat_lt s n) back)
count_front n low [] back le below = omega arith
count_front n low (m ∷ front) back le below =
    ap (λ (b : Bool). length (cond b (m ∷ filter (λ s. nat_lt s n) (front ++ back)) (filter (λ s. nat_lt s n) (front ++ back)))) (lt-ltb m n (omega (arith, below.0)))
    ∙ (ap suc (count_front n low front back le below.1) ∙ omega arith)

none_back : (n from : ℕ) (back : List ℕ) → n ≤ from → OffsetsRise from back → filter (λ s. nat_lt s n) back ≡ []
none_back n from [] le rise = refl
none_back n from (m ∷ back) le rise =
    ap (λ (b : Bool). cond b (m ∷ filter (λ s. nat_lt s n) back) (filter (λ s. nat_lt s n) back)) (le-ltb m n (omega (arith, rise.0)))
    ∙ none_back n (suc m) back (omega (arith, rise.0)) rise.1

one_number : (n low : ℕ) (front back : List ℕ) → low ≤ n → AllBelow low front → OffsetsRise n back → number_of (front ++ back) n ≡ suc (length front)
one_number n low front back le below rise =
    let none : length (filter (λ s. nat_lt s n) back) ≡ 0 = ap (λ (l : List ℕ). length l) (none_back n n back (omega arith) rise) in
    let many = count_front n low front back le below in
    omega (arith, many, none)

numbered_behind : (low at : ℕ) (front back : List ℕ) → at ≡ suc (length front) → AllBelow low front → OffsetsRise low back → AreNumbered (front ++ back) at back
numbered_behind low at front [] e below rise = tt
numbered_behind low at front (n ∷ back) e below rise =
    let long = length-append front (n ∷ []) in (
      one_number n low front (n ∷ back) rise.0 below (omega arith, rise.1) ∙ sym e,
      subst (λ (l : List ℕ). AreNumbered l (suc at) back) (append_assoc front (n ∷ []) back)
          (numbered_behind (suc n) (suc at) (front ++ n ∷ []) back (omega (arith, e, long)) (below_more low n front rise.0 below) rise.1),
    )

pub numbered_rising : (starts : List ℕ) → OffsetsRise 0 starts → AreNumbered starts 1 starts
numbered_rising starts rise = numbered_behind 0 1 [] starts refl tt rise
