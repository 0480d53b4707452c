-- Items that are put at the end of a region, several at once.
use Rattle.std.proofs.Common.{◌≡◌, ℕ, ◌<◌, zero, suc, Option, None, Some, IfSome, List, [], ◌∷◌, ◌++◌, length, refl, ap, arith, append_assoc, append-nil}
use Rattle.track_log_laws.specs.Spelled.{TextItem, TextPart, put, put_in}

abbrev pub put_all : List TextItem → ℕ → List TextPart → List TextPart
put_all xs n [] = []
put_all xs zero (p ∷ ps) = record p { items = p.items ++ xs } ∷ ps
put_all xs (suc n) (p ∷ ps) = p ∷ put_all xs n ps

abbrev pub put_all_in : Option ℕ → List TextItem → List TextPart → List TextPart
put_all_in None xs ps = ps
put_all_in (Some n) xs ps = put_all xs n ps

length_put : (x : TextItem) (n : ℕ) (ps : List TextPart) → length (put x n ps) ≡ length ps
length_put x n [] = refl
length_put x zero (p ∷ ps) = refl
length_put x (suc n) (p ∷ ps) = ap suc (length_put x n ps)

pub length_put_in : (at : Option ℕ) (x : TextItem) (ps : List TextPart) → length (put_in at x ps) ≡ length ps
length_put_in None x ps = refl
length_put_in (Some n) x ps = length_put x n ps

put_none : (n : ℕ) (ps : List TextPart) → put_all [] n ps ≡ ps
put_none n [] = refl
put_none zero (p ∷ ps) = ap (λ xs. record p { items = xs } ∷ ps) (append-nil p.items)
put_none (suc n) (p ∷ ps) = ap (λ qs. p ∷ qs) (put_none n ps)

pub put_none_in : (at : Option ℕ) (ps : List TextPart) → put_all_in at [] ps ≡ ps
put_none_in None ps = refl
put_none_in (Some n) ps = put_none n ps

put_more : (x : TextItem) (xs : List TextItem) (n : ℕ) (ps : List TextPart) → put_all xs n (put x n ps) ≡ put_all (x ∷ xs) n ps
put_more x xs n [] = refl
put_more x xs zero (p ∷ ps) = ap (λ ys. record p { items = ys } ∷ ps) (append_assoc p.items (x ∷ []) xs)
put_more x xs (suc n) (p ∷ ps) = ap (λ qs. p ∷ qs) (put_more x xs n ps)

pub put_more_in : (at : Option ℕ) (x : TextItem) (xs : List TextItem) (ps : List TextPart) → put_all_in at xs (put_in at x ps) ≡ put_all_in at (x ∷ xs) ps
put_more_in None x xs ps = refl
put_more_in (Some n) x xs ps = put_more x xs n ps

put_front : (xs : List TextItem) (n : ℕ) (ps qs : List TextPart) → n < length ps → put_all xs n (ps ++ qs) ≡ put_all xs n ps ++ qs
put_front xs n [] qs h = absurd (omega arith)
put_front xs zero (p ∷ ps) qs h = refl
put_front xs (suc n) (p ∷ ps) qs h = ap (λ rs. p ∷ rs) (put_front xs n ps qs (let l : n < length ps = omega arith in l))

pub put_front_in : (at : Option ℕ) (xs : List TextItem) (ps qs : List TextPart) → IfSome at (λ n. n < length ps) → put_all_in at xs (ps ++ qs) ≡ put_all_in at xs ps ++ qs
put_front_in None xs ps qs h = refl
put_front_in (Some n) xs ps qs h = put_front xs n ps qs h

-- at the last region
pub put_last : (xs : List TextItem) (n : ℕ) (ps : List TextPart) (p : TextPart) → length ps ≡ n
    → put_all xs n (ps ++ p ∷ []) ≡ ps ++ record p { items = p.items ++ xs } ∷ []
put_last xs zero [] p e = refl
put_last xs (suc n) [] p e = absurd (omega arith)
put_last xs zero (q ∷ qs) p e = absurd (omega arith)
put_last xs (suc n) (q ∷ qs) p e = ap (λ rs. q ∷ rs) (put_last xs n qs p (let l : length qs ≡ n = omega arith in l))
