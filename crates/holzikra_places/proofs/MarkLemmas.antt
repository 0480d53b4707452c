-- The 16-bit units in front of an offset, counted from a mark.
use Rattle.std.proofs.Common.{◌≡◌, ℕ, ◌+◌, ◌-◌, ◌*◌, ◌/◌, ◌<◌, ◌≤◌, inl, inr, zero, suc, Bool, true, false, List, [], ◌∷◌, ◌++◌, length, get_or, refl, sym, ap, ap₂, arith, ◌∙◌, if◌then◌else◌, Some}
use Rattle.std.proofs.lemmas.Grind.{common_steps, get_or_default_zero}
use Rattle.std.proofs.lemmas.Bool.{cases_lt}
use Rattle.std.proofs.Math.ListN.{get_or-append}
use Rattle.std.proofs.Math.Seq.{get_or-append_seam}
use Rattle.holzikra_places.specs.Places.{AreMarksOf, IsIndexOf, IsPlaceIn, IsTableOf, byte_units, marks_below, units_from}
use Rattle.holzikra_places.proofs.PlaceLemmas.{place-is}

small-by : (goes_on pair : Bool) → (if goes_on then 0 else (if pair then 2 else 1)) ≤ 2
small-by true pair = omega arith
small-by false true = omega arith
small-by false false = omega arith

byte-small : (byte : ℕ) → byte_units byte ≤ 2
unfolding byte_units
byte-small byte = small-by _ _

pub units-small : (text : List ℕ) (start n : ℕ) → units_from text start n ≤ 2 * n
units-small text start zero = omega arith
units-small text start (suc n) =
    let h = units-small text start n in
    let one = byte-small (get_or text (start + n) 0) in
    let step : units_from text start (suc n) ≡ units_from text start n + byte_units (get_or text (start + n) 0) = refl in
    omega (arith, h, one, step)

-- the units up to a place and those behind it
units-sum : (text : List ℕ) (a n : ℕ) → units_from text 0 a + units_from text a n ≡ units_from text 0 (a + n)
units-sum text a zero =
    let e : a + 0 ≡ a = omega arith in
    let none : units_from text a 0 ≡ 0 = refl in
    rw e (omega (arith, none))
units-sum text a (suc n) =
    let h = units-sum text a n in
    let e : a + suc n ≡ suc (a + n) = omega arith in
    let left : units_from text a (suc n) ≡ units_from text a n + byte_units (get_or text (a + n) 0) = refl in
    let all : units_from text 0 (suc (a + n)) ≡ units_from text 0 (a + n) + byte_units (get_or text (0 + (a + n)) 0) = refl in
    let at : 0 + (a + n) ≡ a + n = omega arith in
    let same : byte_units (get_or text (0 + (a + n)) 0) ≡ byte_units (get_or text (a + n) 0) = ap (λ k. byte_units (get_or text k 0)) at in
    rw e (omega (arith, h, left, all, same))

pub units-join : (text : List ℕ) (a b : ℕ) → a ≤ b → units_from text 0 a + units_from text a (b - a) ≡ units_from text 0 b
units-join text a b le =
    let e : a + (b - a) ≡ b = omega arith in
    units-sum text a (b - a) ∙ ap (units_from text 0) e

-- ---- marks

pub marks-length : (text : List ℕ) (n : ℕ) → length (marks_below text n) ≡ n
marks-length text zero = refl
marks-length text (suc n) =
    let h = marks-length text n in
    let sum : length (marks_below text n ++ units_from text 0 (n * 1024) ∷ []) ≡ length (marks_below text n) + 1 = grind (arith, common_steps) in
    omega (arith, h, sum)

pub mark-at : (text : List ℕ) (n k : ℕ) → k < n → get_or (marks_below text n) k 0 ≡ units_from text 0 (k * 1024)
mark-at text zero k lt = absurd (omega arith)
mark-at text (suc n) k lt =
    let size = marks-length text n in
    elim (cases_lt k n) [
      | inl in-front ↦
          let low : k < length (marks_below text n) = omega (arith, size) in
          get_or-append (marks_below text n) (units_from text 0 (n * 1024) ∷ []) 0 k low ∙ mark-at text n k in-front
      | inr last ↦
          let is : k ≡ length (marks_below text n) = omega (arith, size) in
          let same : k ≡ n = omega (arith, size) in
          let read : get_or (marks_below text n ++ units_from text 0 (n * 1024) ∷ []) k 0 ≡ units_from text 0 (n * 1024) =
          rw is (get_or-append_seam (marks_below text n) (units_from text 0 (n * 1024)) [] 0)
          in
          read ∙ ap (λ (m : ℕ). units_from text 0 (m * 1024)) (sym same)
    ]

-- ---- the loop that makes marks

pub marks-step : (text marks new : List ℕ) (units k : ℕ) → new ≡ marks ++ units ∷ [] → marks ≡ marks_below text k → units ≡ units_from text 0 (k * 1024)
    → new ≡ marks_below text (k + 1)
marks-step text marks new units k is old same =
    let one : k + 1 ≡ suc k = omega arith in
    rw one (is ∙ ap₂ (λ (l : List ℕ) (u : ℕ). l ++ u ∷ []) old same)

pub units-next : (text : List ℕ) (units more k : ℕ) → units ≡ units_from text 0 (k * 1024) → more ≡ units_from text (k * 1024) ((k + 1) * 1024 - k * 1024)
    → units + more ≡ units_from text 0 ((k + 1) * 1024)
units-next text units more k before between =
    ap₂ (λ (a b : ℕ). a + b) before between ∙ units-join text (k * 1024) ((k + 1) * 1024) (omega arith)

pub small-next : (units more k : ℕ) → units ≤ 2 * (k * 1024) → more ≤ 2 * ((k + 1) * 1024 - k * 1024) → units + more ≤ 2 * ((k + 1) * 1024)
small-next units more k before between = omega arith

-- ---- the units in front of an offset

pub mark-within : (text marks : List ℕ) (offset : ℕ) → AreMarksOf text marks → offset ≤ length text → offset / 1024 < length marks
mark-within text marks offset are within =
    let size : length marks ≡ length text / 1024 + 1 = ap length are ∙ marks-length text (length text / 1024 + 1) in
    omega (arith, size, within)

pub units-before : (text marks : List ℕ) (offset more : ℕ) → AreMarksOf text marks → offset ≤ length text
    → more ≡ units_from text (offset / 1024 * 1024) (offset - offset / 1024 * 1024) → get_or marks (offset / 1024) 0 + more ≡ units_from text 0 offset
units-before text marks offset more are within between =
    let low : offset / 1024 < length text / 1024 + 1 = omega (arith, within) in
    let known : get_or marks (offset / 1024) 0 ≡ units_from text 0 (offset / 1024 * 1024) =
    ap (λ (l : List ℕ). get_or l (offset / 1024) 0) are ∙ mark-at text (length text / 1024 + 1) (offset / 1024) low
    in
    ap₂ (λ (a b : ℕ). a + b) known between ∙ units-join text (offset / 1024 * 1024) offset (omega arith)

pub before-small : (text : List ℕ) (offset units : ℕ) → units ≡ units_from text 0 offset → units ≤ 2 * offset
before-small text offset units is = let small = units-small text 0 offset in omega (arith, is, small)

-- ---- the place of an offset

start-before : (starts : List ℕ) (offset i start : ℕ) → IsIndexOf starts offset i → start ≡ get_or starts i start → start ≤ offset
start-before starts offset i start is read =
    let read0 : get_or starts i start ≡ get_or starts i 0 = get_or_default_zero starts i start is.0 in
    let le : get_or starts i 0 ≤ offset = is.1 in
    omega (arith, read, read0, le)

pub units-rise : (text starts : List ℕ) (offset i start before all : ℕ) → IsIndexOf starts offset i → start ≡ get_or starts i start
    → before ≡ units_from text 0 start → all ≡ units_from text 0 offset → before ≤ all
units-rise text starts offset i start before all is read before_is all_is =
    let sum = units-join text start offset (start-before starts offset i start is read) in
    omega (arith, before_is, all_is, sum)

pub place-in : (text starts : List ℕ) (offset i start before all : ℕ) → IsTableOf text starts → offset ≤ length text → IsIndexOf starts offset i
    → start ≡ get_or starts i start → before ≡ units_from text 0 start → all ≡ units_from text 0 offset
    → IsPlaceIn text offset (Some (record { line = i + 1; column = all - before + 1 }))
place-in text starts offset i start before all table within is read before_is all_is =
    let le = start-before starts offset i start is read in
    let sum = units-join text start offset le in
    let counted : all - before ≡ units_from text start (offset - start) = omega (arith, before_is, all_is, sum) in
    (within, place-is text starts offset i start (all - before) table within is read counted)
