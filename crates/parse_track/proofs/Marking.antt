-- Marks that are set one by one.
use Rattle.std.proofs.Common.{◌≡◌, ℕ, zero, suc, ◌+◌, ◌<◌, ◌≤◌, Bool, true, false, ◌||◌, nat_eq, List, [], ◌∷◌, ◌++◌, length, take, get_or, replicate, refl, sym, ap, ◌∙◌, arith}
use Rattle.std.proofs.Math.ListN.{set}
use Rattle.std.proofs.lemmas.Bool.{eq-eqb}
use Rattle.std.proofs.lemmas.List.{take_more}
use Rattle.parse_track.specs.EarlyErrors.{has}
use Rattle.parse_track.specs.Walk.{marks}
use Rattle.parse_track.proofs.Walk.{has-append, or_first, tell_less, tell_more}
use Rattle.parse_track.proofs.Marks.{marks_same, cons_same}

or_yes : (b : Bool) → (b || true) ≡ true
or_yes true = refl
or_yes false = refl

mark_none : (q h : ℕ) (xs : List ℕ) → nat_eq q h ≡ false → has nat_eq q (xs ++ h ∷ []) ≡ has nat_eq q xs
mark_none q h xs e = has-append q xs (h ∷ []) ∙ or_first (has nat_eq q xs) (has nat_eq q (h ∷ [])) (ap (λ (b : Bool). b || false) e)

mark_yes : (q h : ℕ) (xs : List ℕ) → nat_eq q h ≡ true → has nat_eq q (xs ++ h ∷ []) ≡ true
mark_yes q h xs e = has-append q xs (h ∷ []) ∙ (ap (λ (b : Bool). has nat_eq q xs || (b || false)) e ∙ or_yes (has nat_eq q xs))

pub mark_before : (xs : List ℕ) (h p n : ℕ) → h < p → marks (xs ++ h ∷ []) p n ≡ marks xs p n
mark_before xs h p n l = marks_same (xs ++ h ∷ []) xs p n (λ q m o. mark_none q h xs (tell_more q h (omega arith)))

pub mark_behind : (xs : List ℕ) (h p n : ℕ) → p + n ≤ h → marks (xs ++ h ∷ []) p n ≡ marks xs p n
mark_behind xs h p n l = marks_same (xs ++ h ∷ []) xs p n (λ q m o. mark_none q h xs (tell_less q h (omega arith)))

-- a place at a distance d is marked
pub mark_at : (xs : List ℕ) (d p n : ℕ) → marks (xs ++ (p + d) ∷ []) p n ≡ set (marks xs p n) d true
mark_at xs d p zero = refl
mark_at xs zero p (suc n) =
    cons_same (has nat_eq p (xs ++ (p + 0) ∷ [])) true (marks (xs ++ (p + 0) ∷ []) (p + 1) n) (marks xs (p + 1) n)
    (mark_yes p (p + 0) xs (eq-eqb p (p + 0) (omega arith))) (mark_before xs (p + 0) (p + 1) n (omega arith))
mark_at xs (suc d) p (suc n) =
    cons_same (has nat_eq p (xs ++ (p + suc d) ∷ [])) (has nat_eq p xs) (marks (xs ++ (p + suc d) ∷ []) (p + 1) n) (set (marks xs (p + 1) n) d true)
    (mark_none p (p + suc d) xs (tell_less p (p + suc d) (omega arith)))
    (ap (λ (h : ℕ). marks (xs ++ h ∷ []) (p + 1) n) (let e : p + suc d ≡ (p + 1) + d = omega arith in e) ∙ mark_at xs d (p + 1) n)

pub mark_here : (xs : List ℕ) (h n : ℕ) → marks (xs ++ h ∷ []) 0 n ≡ set (marks xs 0 n) h true
mark_here xs h n = ap (λ (k : ℕ). marks (xs ++ k ∷ []) 0 n) (let e : h ≡ 0 + h = omega arith in e) ∙ mark_at xs h 0 n

pub length-marks : (xs : List ℕ) (p n : ℕ) → length (marks xs p n) ≡ n
length-marks xs p zero = refl
length-marks xs p (suc n) = ap suc (length-marks xs (p + 1) n)

pub marks_none : (p n : ℕ) → marks [] p n ≡ replicate n false
marks_none p zero = refl
marks_none p (suc n) = ap (λ (bs : List Bool). false ∷ bs) (marks_none (p + 1) n)

pub mark_step : (hits : List ℕ) (i count : ℕ) (before now : List Bool) → i < length hits → now ≡ set before (get_or hits i 0) true → before ≡ marks (take i hits) 0 count → now ≡ marks (take (i + 1) hits) 0 count
mark_step hits i count before now l e f =
    e ∙ (ap (λ (bs : List Bool). set bs (get_or hits i 0) true) f
    ∙ (sym (mark_here (take i hits) (get_or hits i 0) count) ∙ ap (λ (xs : List ℕ). marks xs 0 count) (sym (take_more hits i 0 l))))
