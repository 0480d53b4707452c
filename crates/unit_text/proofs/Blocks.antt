-- Bytes that are looked at 64 at a time, as lanes of a vector.
use Rattle.std.proofs.Common.{◌≡◌, ℕ, zero, suc, ◌+◌, ◌%◌, ◌^◌, ◌<◌, ◌≤◌, Bool, true, false, cond, eqb, leb, List, [], ◌∷◌, map, length, get_or, replicate, take, drop, refl, sym, ap, ◌∙◌, subst, arith, leb-false, eqb-true, take-append-drop}
use Rattle.std.proofs.lemmas.List.{length-map, get_or-drop}
use Rattle.std.proofs.lemmas.Simd.{length-zip2, mask_l-mod}
use Rattle.std.proofs.lemmas.Str.{IsAscii-append}
use Rattle.std.specs.Bool.{MatchBool}
use Rattle.std.specs.Str.{IsAscii, IsNotAscii}
use lib.Lanes.{zip2, mask_l, top}

abbrev at_least : ℕ → ℕ → ℕ
at_least a b = cond (leb a b) 255 0

-- where no lane is marked each byte is below 128
none_high : (xs : List ℕ) → mask_l (map (top 7) (zip2 at_least (replicate (length xs) 128) xs)) ≡ 0 → (i : ℕ) → get_or xs i 0 < 128
none_high [] e i = omega arith
none_high (x ∷ xs) e zero = go (leb 128 x) refl (omega arith)
  where
    go : (t : Bool) → leb 128 x ≡ t → ◌≡◌ {A = ℕ} (cond (top 7 (cond t 255 0)) 1 0) 0 → x < 128
    go true p q = absurd (omega arith)
    go false p q = leb-false _ _ p
none_high (x ∷ xs) e (suc i) = none_high xs (omega arith) i

mask_small : (f : ℕ → ℕ → ℕ) (xs ys : List ℕ) → length xs ≡ 64 → length ys ≡ 64 → mask_l (map (top 7) (zip2 f xs ys)) % 2 ^ 64 ≡ mask_l (map (top 7) (zip2 f xs ys))
mask_small f xs ys p q = mask_l-mod _ 64 (omega (arith, length-map (zip2 f xs ys) (top 7), length-zip2 f xs ys (p ∙ sym q)))

pub ascii_of_mask : (xs : List ℕ) → length xs ≡ 64 → eqb (mask_l (map (top 7) (zip2 at_least (replicate 64 128) xs)) % 2 ^ 64) 0 ≡ true → (i : ℕ) → get_or xs i 0 < 128
ascii_of_mask xs long e =
    none_high xs (ap (λ n. mask_l (map (top 7) (zip2 at_least (replicate n 128) xs))) long ∙ sym (mask_small at_least (replicate 64 128) xs refl long) ∙ eqb-true _ _ e)

-- the front and the rest
all_ascii : (bytes : List ℕ) (front : ℕ) → IsAscii (take front bytes) → IsAscii (drop front bytes) → IsAscii bytes
all_ascii bytes front before after = subst IsAscii (take-append-drop front bytes) (IsAscii-append _ _ before after)

some_other : (bytes : List ℕ) (front : ℕ) → IsNotAscii (drop front bytes) → IsNotAscii bytes
some_other bytes front (i, high) = (front + i, subst (λ n. 128 ≤ n) (get_or-drop front bytes i 0) high)

pub ascii_cases : (bytes rest : List ℕ) (front : ℕ) (b : Bool) → rest ≡ drop front bytes → IsAscii (take front bytes) → MatchBool b (IsAscii rest) (IsNotAscii rest)
    → MatchBool b (IsAscii bytes) (IsNotAscii bytes)
ascii_cases bytes rest front true is before after = all_ascii bytes front before (subst IsAscii is after)
ascii_cases bytes rest front false is before after = some_other bytes front (subst IsNotAscii is after)
