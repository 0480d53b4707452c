-- Texts with colour sequences, put together.
use Rattle.std.proofs.Common.{◌≡◌, ℕ, ◌<◌, ◌≤◌, ◌+◌, ◌-◌, Bool, true, false, ◌||◌, nat_eq, List, [], ◌∷◌, ◌++◌, length, take, drop, refl, sym, ap, subst, ◌∙◌, append_assoc, arith}
use Rattle.std.proofs.lemmas.List.{take-append-drop, take_all, append-nil}
use Rattle.std.proofs.lemmas.List.Folds.{list_any-append}
use Rattle.std.proofs.lemmas.Bool.{ne_eqb}
use Rattle.std.proofs.Math.Seq.{take-add}
use Rattle.holzikra_colours.specs.Colours.{has_escape, without, without_colours, IsPainted, Shows, ShowsAsBefore}

left-false : (a b : Bool) → (a || b) ≡ false → a ≡ false
left-false true b is = is
left-false false b is = refl

right-false : (a b : Bool) → (a || b) ≡ false → b ≡ false
right-false true b is = grind arith
right-false false b is = is

-- a text without escapes shows itself
pub without-text : (text rest : List ℕ) → has_escape text ≡ false → without_colours (text ++ rest) ≡ text ++ without_colours rest
without-text [] rest none = refl
without-text (byte ∷ text) rest none =
    rw (left-false (nat_eq byte 27) (has_escape text) none) (
    ap (λ (shown : List ℕ). byte ∷ shown) (without-text text rest (right-false (nat_eq byte 27) (has_escape text) none))
    )

-- and so without anything behind it
pub without-all : (text : List ℕ) → has_escape text ≡ false → without_colours text ≡ text
without-all text none = ap without_colours (sym (append-nil text)) ∙ without-text text [] none ∙ append-nil text

-- a part of it has no escapes either
piece-none : (text : List ℕ) (at count : ℕ) → has_escape text ≡ false → has_escape (take count (drop at text)) ≡ false
piece-none text at count none =
    let test : ℕ → Bool = λ byte. nat_eq byte 27 in
    let behind : has_escape (drop at text) ≡ false =
    right-false (has_escape (take at text)) (has_escape (drop at text)) (
    sym (list_any-append test (take at text) (drop at text)) ∙ ap has_escape (take-append-drop at text) ∙ none
    ) in
    left-false (has_escape (take count (drop at text))) (has_escape (drop count (drop at text))) (
    sym (list_any-append test (take count (drop at text)) (drop count (drop at text))) ∙ ap has_escape (take-append-drop count (drop at text)) ∙ behind
    )

-- the text up to a later place
pub painted-more :
    (text out : List ℕ) (at to : ℕ) → at ≤ to → IsPainted text at out → IsPainted text to (out ++ take (to - at) (drop at text))
painted-more text out at to up before none rest =
    let piece : List ℕ = take (to - at) (drop at text) in
    let sum : at + (to - at) ≡ to = omega arith in
    let front : take to text ≡ take at text ++ piece = ap (λ (n : ℕ). take n text) (sym sum) ∙ take-add at (to - at) text in
    ap without_colours (append_assoc out piece rest)
    ∙ before none (piece ++ rest)
    ∙ ap (λ (shown : List ℕ). take at text ++ shown) (without-text piece rest (piece-none text at (to - at) none))
    ∙ sym (append_assoc (take at text) piece (without_colours rest))
    ∙ ap (λ (shown : List ℕ). shown ++ without_colours rest) (sym front)

not-m : (digit : ℕ) → digit < 58 → nat_eq digit 109 ≡ false
not-m digit few = ne_eqb digit 109 (λ is. omega arith)

-- a colour sequence shows nothing
sequence-nothing : (tens units : ℕ) (rest : List ℕ) → tens < 58 → units < 58 → without_colours (27 ∷ 91 ∷ tens ∷ units ∷ 109 ∷ rest) ≡ without_colours rest
sequence-nothing tens units rest few-tens few-units = rw (not-m tens few-tens, not-m units few-units) refl

pub sequence-shows :
    (old : List ℕ) (tens units : ℕ)
    → tens < 58 → units < 58 → ShowsAsBefore old (((((old ++ 27 ∷ []) ++ 91 ∷ []) ++ tens ∷ []) ++ units ∷ []) ++ 109 ∷ [])
sequence-shows old tens units few-tens few-units shown before rest =
    let joined : (((((old ++ 27 ∷ []) ++ 91 ∷ []) ++ tens ∷ []) ++ units ∷ []) ++ 109 ∷ []) ++ rest ≡ old ++ 27 ∷ 91 ∷ tens ∷ units ∷ 109 ∷ rest = simp append_assoc refl in
    ap without_colours joined
    ∙ before (27 ∷ 91 ∷ tens ∷ units ∷ 109 ∷ rest)
    ∙ ap (λ (more : List ℕ). shown ++ more) (sequence-nothing tens units rest few-tens few-units)

-- the whole text, where nothing follows
pub painted-all :
    (text out : List ℕ) (at : ℕ)
    → at ≤ length text → IsPainted text at out → has_escape text ≡ false → without_colours (out ++ take (length text - at) (drop at text)) ≡ text
painted-all text out at few before none =
    let piece : List ℕ = take (length text - at) (drop at text) in
    ap without_colours (sym (append-nil (out ++ piece)))
    ∙ painted-more text out at (length text) few before none []
    ∙ append-nil (take (length text) text)
    ∙ take_all (length text) text (omega arith)
