-- Digits, values and pieces of words.
use Rattle.std.proofs.Common.{◌≡◌, refl, sym, ℕ, ◌+◌, ◌*◌, ◌-◌, ◌≤◌, Bool, true, ◌&&◌, not, nat_eq, List, [], ◌∷◌, ◌++◌, Option, Some, None, arith, ◌<◌, length, take, drop, get_or, nat_le, if◌then◌else◌, subst, append_assoc, take-append-drop, length-drop, take_all}
use Rattle.std.proofs.Math.Seq.{take-length}
use Rattle.std.proofs.lemmas.List.{take_more}
use Rattle.session_words.specs.Numbers.{all_digits, is_number, value, value_behind, pieces}

pub digits_of_number : (word : List ℕ) → is_number word ≡ true → all_digits word ≡ true
digits_of_number [] e = refl
digits_of_number (c ∷ []) e = grind arith
digits_of_number (c ∷ d ∷ ds) e = grind arith

-- further digits make no number smaller
pub value_grows : (n : ℕ) (digits : List ℕ) → n ≤ value_behind n digits
value_grows n [] = omega arith
value_grows n (c ∷ cs) = let further = value_grows (n * 10 + (c - 48)) cs in omega arith

-- no comma stands in a word
abbrev pub is_piece : List ℕ → Bool
is_piece [] = true
is_piece (c ∷ cs) = not (nat_eq c 44) && is_piece cs

pub one_piece : (word : List ℕ) → is_piece word ≡ true → pieces word ≡ word ∷ []
one_piece [] e = refl
one_piece (c ∷ cs) e = grind (arith, one_piece cs)

pub first_piece : (front rest : List ℕ) → is_piece front ≡ true → pieces (front ++ 44 ∷ rest) ≡ front ∷ pieces rest
first_piece [] rest e = refl
first_piece (c ∷ cs) rest e = grind (arith, first_piece cs rest)

pub is_piece_snoc : (front : List ℕ) (c : ℕ) → is_piece front ≡ true → (c ≡ 44 → ⊥) → is_piece (front ++ c ∷ []) ≡ true
is_piece_snoc [] c e f = grind arith
is_piece_snoc (d ∷ ds) c e f = grind (arith, is_piece_snoc ds c)

pub cut_at : (word : List ℕ) (i : ℕ) → i < length word → is_piece (take i word) ≡ true → get_or word i 0 ≡ 44
    → pieces word ≡ take i word ∷ pieces (take (length word - (i + 1)) (drop (i + 1) word))
cut_at word i h p c =
    let more = take_more word i 0 h in
    let split = take-append-drop (i + 1) word in
    let first = first_piece (take i word) (drop (i + 1) word) p in
    let together = append_assoc (take i word) (get_or word i 0 ∷ []) (drop (i + 1) word) in
    let size = length-drop (i + 1) word in
    let rest = take-length (drop (i + 1) word) in
    cc

pub further_piece : (word : List ℕ) (i : ℕ) → i < length word → is_piece (take i word) ≡ true → (get_or word i 0 ≡ 44 → ⊥)
    → is_piece (take (i + 1) word) ≡ true
further_piece word i h p c = subst (λ front. is_piece front ≡ true) (sym (take_more word i 0 h)) (is_piece_snoc (take i word) (get_or word i 0) p c)

pub all_one_piece : (word : List ℕ) (i : ℕ) → length word ≤ i → is_piece (take i word) ≡ true → pieces word ≡ word ∷ []
all_one_piece word i h p = one_piece word (subst (λ front. is_piece front ≡ true) (take_all i word h) p)

pub too_large : (n high : ℕ) (digits rest : List ℕ) → high < n → value_behind n rest ≡ value digits
    → ◌≡◌ {A = Option ℕ} None (if nat_le (value digits) high then Some (value digits) else None)
too_large n high digits rest h e = let grown = value_grows n rest in grind arith
