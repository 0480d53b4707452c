-- The table of the lines of a text, and the lines that end in front of an offset.
use Rattle.std.proofs.Common.{◌≡◌, ℕ, ◌+◌, ◌-◌, ◌<◌, ◌≤◌, ◌⊎◌, inl, inr, zero, suc, Bool, true, false, List, [], ◌∷◌, ◌++◌, length, get_or, refl, sym, ap, arith, ◌∙◌}
use Rattle.std.proofs.lemmas.Grind.{common_steps, get_or_default_zero}
use Rattle.std.proofs.lemmas.Bool.{cases_lt}
use Rattle.std.proofs.Math.ListN.{get_or-append}
use Rattle.std.proofs.Math.Seq.{get_or-append_seam}
use Rattle.holzikra_places.specs.Places.{ends_line, lines_ended, line_starts, units_from, IsLineStart, IsIndexOf, IsPlace, StartsAtZero, StartsPoint, byte_units}

pub ended-yes : (text : List ℕ) (n : ℕ) → ends_line text n ≡ true → lines_ended text (suc n) ≡ lines_ended text n + 1
ended-yes text n e = rw e refl

pub ended-no : (text : List ℕ) (n : ℕ) → ends_line text n ≡ false → lines_ended text (suc n) ≡ lines_ended text n
ended-no text n e = rw e refl

pub starts-yes : (text : List ℕ) (n : ℕ) → ends_line text n ≡ true → line_starts text (suc n) ≡ line_starts text n ++ (n + 1) ∷ []
starts-yes text n e = rw e refl

pub starts-no : (text : List ℕ) (n : ℕ) → ends_line text n ≡ false → line_starts text (suc n) ≡ line_starts text n
starts-no text n e = rw e refl

leq_cases : (a b : ℕ) → (a ≤ b) ⊎ (b < a)
leq_cases a b = elim (cases_lt b a) [ inl lt ↦ inr lt | inr le ↦ inl le ]

bool_cases : (b : Bool) → (b ≡ true) ⊎ (b ≡ false)
bool_cases true = inl refl
bool_cases false = inr refl

pub ended-grows : (text : List ℕ) (n : ℕ) → lines_ended text n ≤ lines_ended text (suc n)
ended-grows text n =
    elim (bool_cases (ends_line text n)) [
      | inl e ↦ let h = ended-yes text n e in omega arith
      | inr e ↦ let h = ended-no text n e in omega arith
    ]

ended-rises : (text : List ℕ) (a k : ℕ) → lines_ended text a ≤ lines_ended text (a + k)
ended-rises text a zero = let e : a + 0 ≡ a = omega arith in rw e (omega arith)
ended-rises text a (suc k) =
    let h = ended-rises text a k in
    let g = ended-grows text (a + k) in
    let e : a + suc k ≡ suc (a + k) = omega arith in
    rw e (omega (arith, h, g))

pub ended-monotone : (text : List ℕ) (a b : ℕ) → a ≤ b → lines_ended text a ≤ lines_ended text b
ended-monotone text a b le =
    let h = ended-rises text a (b - a) in
    let e : a + (b - a) ≡ b = omega arith in
    rw e at h

-- where as many lines end in front of b as in front of a, none ends between
pub none-ends : (text : List ℕ) (a b k : ℕ) → lines_ended text b ≡ lines_ended text a → a ≤ k → k < b → ends_line text k ≡ false
none-ends text a b k same low high =
    elim (bool_cases (ends_line text k)) [
      | inr e ↦ e
      | inl e ↦
          let h = ended-yes text k e in
          let f = ended-monotone text a k low in
          let le : suc k ≤ b = omega arith in
          let g = ended-monotone text (suc k) b le in
          absurd (omega arith)
    ]

pub starts-length : (text : List ℕ) (n : ℕ) → length (line_starts text n) ≡ lines_ended text n + 1
starts-length text zero = refl
starts-length text (suc n) =
    let h = starts-length text n in
    elim (bool_cases (ends_line text n)) [
      | inl e ↦ rw (starts-yes text n e, ended-yes text n e) (grind (arith, common_steps, h))
      | inr e ↦ rw (starts-no text n e, ended-no text n e) h
    ]

-- what each number of the table is
pub record IsStartAt (text : List ℕ) (n i start : ℕ) : Type 0 where
  pub within : start ≤ n
  pub count : lines_ended text start ≡ i
  pub starts : (start ≡ 0) ⊎ (ends_line text (start - 1) ≡ true)

pub start-further : (text : List ℕ) (n i start : ℕ) → IsStartAt text n i start → IsStartAt text (suc n) i start
start-further text n i start h =
    let w = h.within in
    record { within = omega arith; count = h.count; starts = h.starts }

pub start-new : (text : List ℕ) (n i : ℕ) → ends_line text n ≡ true → i ≡ lines_ended text n + 1 → IsStartAt text (suc n) i (n + 1)
start-new text n i e is =
    let h = ended-yes text n e in
    let one : n + 1 ≡ suc n = omega arith in
    let back : n + 1 - 1 ≡ n = omega arith in
    record { within = omega arith; count = rw one (omega (arith, h)); starts = inr (rw back e) }

start-at-new : (text : List ℕ) (n i : ℕ) → ends_line text n ≡ true → i < length (line_starts text n ++ (n + 1) ∷ [])
    → (i < length (line_starts text n) → IsStartAt text n i (get_or (line_starts text n) i 0))
    → IsStartAt text (suc n) i (get_or (line_starts text n ++ (n + 1) ∷ []) i 0)
start-at-new text n i e within before =
    let size = starts-length text n in
    let sum : length (line_starts text n ++ (n + 1) ∷ []) ≡ length (line_starts text n) + 1 = grind (arith, common_steps) in
    elim (leq_cases (length (line_starts text n)) i) [
      | inr lt ↦ rw (get_or-append (line_starts text n) ((n + 1) ∷ []) 0 i lt) (start-further text n i _ (before lt))
      | inl le ↦
          let is : i ≡ length (line_starts text n) = omega (arith, sum, within) in
          let read : get_or (line_starts text n ++ (n + 1) ∷ []) i 0 ≡ n + 1 = rw is (get_or-append_seam (line_starts text n) (n + 1) [] 0) in
          rw read (start-new text n i e (omega (arith, is, size)))
    ]

ended-before-step : (text : List ℕ) (i start : ℕ) → ends_line text (start - 1) ≡ true → lines_ended text start ≡ i → 0 < i
    → (lines_ended text (start - 1) + 1 ≡ i) × (0 < start)
ended-before-step text i zero e count pos = let c : 0 ≡ i = count in absurd (omega arith)
ended-before-step text i (suc start) e count pos =
    let back : suc start - 1 ≡ start = omega arith in
    let e' : ends_line text start ≡ true = rw back at e in
    let h = ended-yes text start e' in
    rw back ((omega (arith, h, count), omega arith))

-- in front of a line that is not the first one, one line less has ended
ended-before : (text : List ℕ) (n i start : ℕ) → IsStartAt text n i start → 0 < i → (lines_ended text (start - 1) + 1 ≡ i) × (0 < start)
ended-before text n i start h pos =
    let count = h.count in
    elim (h.starts) [
      | inl zero-is ↦ let c : lines_ended text 0 ≡ i = rw zero-is at count in let c0 : 0 ≡ i = c in absurd (omega arith)
      | inr e ↦ ended-before-step text i start e count pos
    ]

pub start-at : (text : List ℕ) (n i : ℕ) → i < length (line_starts text n) → IsStartAt text n i (get_or (line_starts text n) i 0)
start-at text zero i within =
    let z : i ≡ 0 = omega arith in
    rw z (record { within = omega arith; count = refl; starts = inl refl })
start-at text (suc n) i within =
    elim (bool_cases (ends_line text n)) [
      | inr e ↦
          let same = starts-no text n e in
          let lt : i < length (line_starts text n) = rw same at within in
          rw same (start-further text n i _ (start-at text n i lt))
      | inl e ↦
          let more = starts-yes text n e in
          rw more (start-at-new text n i e (rw more at within) (start-at text n i))
    ]

-- the place of an offset, by the number of its line
pub index-is : (text : List ℕ) (n offset i : ℕ) → offset ≤ n → IsIndexOf (line_starts text n) offset i → lines_ended text offset ≡ i
index-is text n offset i within is =
    let here = start-at text n i is.0 in
    let count = here.count in
    let low = ended-monotone text _ offset is.1 in
    let size = starts-length text n in
    elim (leq_cases (length (line_starts text n)) (i + 1)) [
      | inl last ↦ let high = ended-monotone text offset n within in omega arith
      | inr more ↦
          let next = start-at text n (i + 1) more in
          let before = is.2 more in
          let ends = ended-before text n (i + 1) _ next (omega arith) in
          let high = ended-monotone text offset _ (let le : offset ≤ get_or (line_starts text n) (i + 1) 0 - 1 = omega arith in le) in
          omega (arith, ends, high, low, count)
    ]

pub line-start : (text : List ℕ) (n offset i : ℕ) → offset ≤ n → IsIndexOf (line_starts text n) offset i
    → IsLineStart text offset (get_or (line_starts text n) i 0)
line-start text n offset i within is =
    let here = start-at text n i is.0 in
    let count = here.count in
    let all = index-is text n offset i within is in
    let same : lines_ended text offset ≡ lines_ended text (get_or (line_starts text n) i 0) = omega (arith, count, all) in
    record { before = is.1; starts = here.starts; none_between = λ k. none-ends text _ offset k same }

pub starts-at-zero : (text : List ℕ) (n : ℕ) → StartsAtZero (line_starts text n)
starts-at-zero text zero = (omega arith, refl)
starts-at-zero text (suc n) =
    let h = starts-at-zero text n in
    elim (bool_cases (ends_line text n)) [
      | inr e ↦ rw (starts-no text n e) h
      | inl e ↦
          rw (starts-yes text n e)
          ((grind (arith, common_steps, h.0), rw (get_or-append (line_starts text n) ((n + 1) ∷ []) 0 0 h.0) h.1))
    ]

pub first-in-table : (text starts : List ℕ) → starts ≡ line_starts text (length text) → StartsAtZero starts
first-in-table text starts table = rw table (starts-at-zero text (length text))

pub place-is : (text starts : List ℕ) (offset i start units : ℕ) → starts ≡ line_starts text (length text) → offset ≤ length text
    → IsIndexOf starts offset i → start ≡ get_or starts i start → units ≡ units_from text start (offset - start)
    → IsPlace text offset (i + 1) (units + 1)
place-is text starts offset i start units table within is read counted =
    let read0 : get_or starts i start ≡ get_or starts i 0 = get_or_default_zero starts i start is.0 in
    let at0 : start ≡ get_or (line_starts text (length text)) i 0 = rw table at (read ∙ read0) in
    let is' : IsIndexOf (line_starts text (length text)) offset i = rw table at is in
    let all = index-is text (length text) offset i within is' in
    let from = line-start text (length text) offset i within is' in
    (ap (λ x. x + 1) (sym all), (start, rw at0 from, ap (λ x. x + 1) counted))

-- ---- no two places are one

clash : (b : Bool) → b ≡ true → b ≡ false → ⊥
clash b e f = cc

units-rise : (text : List ℕ) (s n k : ℕ) → units_from text s n ≤ units_from text s (n + k)
units-rise text s n zero = let e : n + 0 ≡ n = omega arith in rw e (omega arith)
units-rise text s n (suc k) =
    let h = units-rise text s n k in
    let e : n + suc k ≡ suc (n + k) = omega arith in
    let step : units_from text s (suc (n + k)) ≡ units_from text s (n + k) + byte_units (get_or text (s + (n + k)) 0) = refl in
    rw e (omega (arith, h, step))

units-monotone : (text : List ℕ) (s a b : ℕ) → a ≤ b → units_from text s a ≤ units_from text s b
units-monotone text s a b le =
    let h = units-rise text s a (b - a) in
    let e : a + (b - a) ≡ b = omega arith in
    rw e at h

later-units : (text : List ℕ) (s a b : ℕ) → s ≤ a → a < b → 0 < byte_units (get_or text a 0)
    → units_from text s (a - s) < units_from text s (b - s)
later-units text s a b low lt here =
    let step : units_from text s (suc (a - s)) ≡ units_from text s (a - s) + byte_units (get_or text (s + (a - s)) 0) = refl in
    let at-a : s + (a - s) ≡ a = omega arith in
    let same-byte : byte_units (get_or text (s + (a - s)) 0) ≡ byte_units (get_or text a 0) = ap (λ k. byte_units (get_or text k 0)) at-a in
    let rise = units-monotone text s (suc (a - s)) (b - s) (omega arith) in
    omega (arith, step, same-byte, rise, here)

same-start : (text : List ℕ) (a b s t : ℕ) → a ≤ b → lines_ended text b ≡ lines_ended text a → IsLineStart text a s → IsLineStart text b t
    → s ≡ t
same-start text a b s t le same hs ht =
    let s-before = hs.before in
    let t-before = ht.before in
    elim (cases_lt s t) [
      | inl lt ↦
          elim (ht.starts) [
            | inl z ↦ absurd (omega arith)
            | inr e ↦
                elim (cases_lt (t - 1) a) [
                  | inl in-front ↦ absurd (clash _ e (hs.none_between (t - 1) (omega arith) in-front))
                  | inr behind ↦ absurd (clash _ e (none-ends text a b (t - 1) same behind (omega arith)))
                ]
          ]
      | inr ge ↦
          elim (cases_lt t s) [
            | inr le' ↦ omega arith
            | inl lt ↦
                elim (hs.starts) [
                  | inl z ↦ absurd (omega arith)
                  | inr e ↦ absurd (clash _ e (ht.none_between (s - 1) (omega arith) (omega arith)))
                ]
          ]
    ]

not-later : (text : List ℕ) (a b line column : ℕ) → a < b → b ≤ length text → StartsPoint text a → IsPlace text a line column
    → IsPlace text b line column → ⊥
not-later text a b line column lt within here p q =
    let line-a = p.0 in
    let line-b = q.0 in
    let same : lines_ended text b ≡ lines_ended text a = omega (arith, line-a, line-b) in
    let le : a ≤ b = omega arith in
    let start = same-start text a b p.1.0 q.1.0 le same p.1.1 q.1.1 in
    let units-a = p.1.2 in
    let units-b = q.1.2 in
    let moved : units_from text p.1.0 (b - p.1.0) ≡ units_from text q.1.0 (b - q.1.0) = ap (λ s. units_from text s (b - s)) start in
    let inside : a < length text = omega (arith, lt, within) in
    let more = later-units text p.1.0 a b (p.1.1).before lt (here inside) in
    omega (arith, units-a, units-b, moved, more)

pub one-place : (text : List ℕ) (a b line column : ℕ) → a ≤ length text → b ≤ length text → StartsPoint text a → StartsPoint text b
    → IsPlace text a line column → IsPlace text b line column → b ≡ a
one-place text a b line column within-a within-b here there p q =
    elim (cases_lt a b) [
      | inl lt ↦ absurd (not-later text a b line column lt within-b here p q)
      | inr ge ↦
          elim (cases_lt b a) [
            | inl lt ↦ absurd (not-later text b a line column lt within-a there q p)
            | inr le ↦ omega arith
          ]
    ]
