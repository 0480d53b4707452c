-- A text that is cut: a name or a number that lies in front of the cut is the same as in the whole text.
use Rattle.std.proofs.Common.{◌≡◌, ℕ, suc, ◌+◌, ◌≤◌, List, [], ◌∷◌, ◌++◌, length, take, drop, Bool, true, false, cond, refl, sym, ◌∙◌, ap, arith, Option, Some, None}
use Rattle.std.specs.Prelude.{◌&&◌, ◌==◌, option_map}
use Rattle.std.specs.Char.{is_digit}
use Rattle.std.specs.List.{prefix_len}
use Rattle.std.proofs.lemmas.List.{take-append-le, drop-append-le}
use Rattle.std.proofs.lemmas.List.Sums.{prefix_len-le-length}
use Rattle.unit_text.specs.Units.{text_units}
use Rattle.script_scanner.specs.declared.numbers.Numeral.{Numeral}
use Rattle.script_scanner.specs.Names.{is_name_part}
use Rattle.script_scanner.specs.Numbers.{more_digits, digits_value, radix_of, zero_literal, with_radix, after_zero, numeral_at, is_spoiled_by}
use Rattle.script_scanner.specs.Words.{word_at, word_index}
use Rattle.script_scanner.specs.Tokens.{Piece, Text, name_kind, name_piece, valued_piece, number_piece}
use Rattle.scan_laws.proofs.CutBlanks.{prefix_cut}

-- a token takes a code point at least, and n at most
abbrev pub PieceWithin : ℕ → Option Piece → Type 0
PieceWithin high None = Unit {0}
PieceWithin high (Some p) = (1 ≤ p.length) × (p.length ≤ high)

-- where a text may be cut after a token of this length, the token is the same in the text that is cut
abbrev pub PieceCut : (ℕ → Type 0) → Option Piece → Option Piece → Type 0
PieceCut May None cut = Unit {0}
PieceCut May (Some p) cut = May p.length → cut ≡ Some p

-- Names.

pub name_within : (c : ℕ) (codes : List ℕ) → PieceWithin (suc (length codes)) (Some (name_piece (c ∷ codes)))
name_within c codes = let h : prefix_len is_name_part codes ≤ length codes = prefix_len-le-length is_name_part codes in (omega arith, omega (arith, h))

name_of : ℕ → List ℕ → Piece
name_of n front = record { kind = name_kind (option_map word_index (word_at (text_units front))); value = Text (text_units front); length = n }

pub name_cut : (May : ℕ → Type 0) (c : ℕ) (cs ds : List ℕ) → ((n : ℕ) → May n → n ≤ suc (length cs)) → PieceCut May (Some (name_piece (c ∷ (cs ++ ds)))) (Some (name_piece (c ∷ cs)))
unfolding name_of
name_cut May c cs ds within = λ may.
    let le : 1 + prefix_len is_name_part (cs ++ ds) ≤ suc (length cs) = within (1 + prefix_len is_name_part (cs ++ ds)) may in
    let same : prefix_len is_name_part (cs ++ ds) ≡ prefix_len is_name_part cs = prefix_cut is_name_part cs ds (omega (arith, le)) in
    sym (ap (λ (front : List ℕ). Some (name_of (1 + prefix_len is_name_part (cs ++ ds)) front)) (take-append-le (1 + prefix_len is_name_part (cs ++ ds)) (c ∷ cs) ds le)
    ∙ ap (λ (n : ℕ). Some (name_of (1 + n) (take (1 + n) (c ∷ cs)))) same)

-- Digits.

more_within : (radix : ℕ) (codes : List ℕ) → more_digits radix codes ≤ length codes
more_within radix [] = omega arith
more_within radix (c ∷ []) = by (is_digit c radix)
  where
    by : (b : Bool) → cond b 1 0 ≤ 1
    by true = omega arith
    by false = omega arith
more_within radix (c ∷ d ∷ codes) = by (is_digit c radix) ((c == 0x5F) && is_digit d radix) (more_within radix (d ∷ codes)) (more_within radix codes)
  where
    by : (x y : Bool) → more_digits radix (d ∷ codes) ≤ suc (length codes) → more_digits radix codes ≤ length codes
        → cond x (1 + more_digits radix (d ∷ codes)) (cond y (2 + more_digits radix codes) 0) ≤ suc (suc (length codes))
    by true y h k = omega (arith, h)
    by false true h k = omega (arith, k)
    by false false h k = omega arith

more_cut : (radix : ℕ) (cs ds : List ℕ) → more_digits radix (cs ++ ds) ≤ length cs → more_digits radix (cs ++ ds) ≡ more_digits radix cs
more_cut radix [] ds le = omega (arith, le)
more_cut radix (c ∷ []) [] le = refl
more_cut radix (c ∷ []) (d ∷ ds) le = by (is_digit c radix) ((c == 0x5F) && is_digit d radix) (more_digits radix (d ∷ ds)) (more_digits radix ds) le
  where
    by : (x y : Bool) (m n : ℕ) → cond x (1 + m) (cond y (2 + n) 0) ≤ 1 → cond x (1 + m) (cond y (2 + n) 0) ≡ cond x 1 0
    by true y m n h = omega (arith, h)
    by false true m n h = absurd (omega (arith, h))
    by false false m n h = refl
more_cut radix (c ∷ d ∷ cs) ds le = by (is_digit c radix) ((c == 0x5F) && is_digit d radix) (more_cut radix (d ∷ cs) ds) (more_cut radix cs ds) le
  where
    by : (x y : Bool) → (more_digits radix (d ∷ (cs ++ ds)) ≤ suc (length cs) → more_digits radix (d ∷ (cs ++ ds)) ≡ more_digits radix (d ∷ cs))
        → (more_digits radix (cs ++ ds) ≤ length cs → more_digits radix (cs ++ ds) ≡ more_digits radix cs)
        → cond x (1 + more_digits radix (d ∷ (cs ++ ds))) (cond y (2 + more_digits radix (cs ++ ds)) 0) ≤ suc (suc (length cs))
        → cond x (1 + more_digits radix (d ∷ (cs ++ ds))) (cond y (2 + more_digits radix (cs ++ ds)) 0) ≡ cond x (1 + more_digits radix (d ∷ cs)) (cond y (2 + more_digits radix cs) 0)
    by true y k l h = ap (λ n. 1 + n) (k (omega (arith, h)))
    by false true k l h = ap (λ n. 2 + n) (l (omega (arith, h)))
    by false false k l h = refl

-- Numbers.

abbrev DigitsWithin : ℕ → Numeral → Type 0
DigitsWithin high n = (1 ≤ n.length) × (n.length ≤ high)

either_digits : (high : ℕ) (b : Bool) (m n : Numeral) → DigitsWithin high m → DigitsWithin high n → DigitsWithin high (cond b m n)
either_digits high true m n h k = h
either_digits high false m n h k = k

zero_within : (high : ℕ) → 1 ≤ high → DigitsWithin high zero_literal
zero_within high le = (omega arith, le)

radix_within : (o : Option ℕ) (codes : List ℕ) → DigitsWithin (suc (suc (length codes))) (with_radix o codes)
radix_within None codes = zero_within (suc (suc (length codes))) (omega arith)
radix_within (Some radix) [] = zero_within 2 (omega arith)
radix_within (Some radix) (c ∷ codes) = either_digits (suc (suc (suc (length codes)))) (is_digit c radix) _ zero_literal
    (let h : more_digits radix codes ≤ length codes = more_within radix codes in (omega arith, omega (arith, h))) (zero_within (suc (suc (suc (length codes)))) (omega arith))

zero_digits_within : (codes : List ℕ) → DigitsWithin (suc (length codes)) (after_zero codes)
zero_digits_within [] = zero_within 1 (omega arith)
zero_digits_within (c ∷ codes) = radix_within (radix_of c) codes

numeral_within : (c : ℕ) (codes : List ℕ) → DigitsWithin (suc (length codes)) (numeral_at (c ∷ codes))
numeral_within c codes = either_digits (suc (length codes)) (c == 0x30) (after_zero codes) _ (zero_digits_within codes)
    (let h : more_digits 10 codes ≤ length codes = more_within 10 codes in (omega arith, omega (arith, h)))

-- a literal is the same in a text that is cut after it
abbrev SameDigits : ℕ → Numeral → Numeral → Type 0
SameDigits room whole cut = whole.length ≤ room → whole ≡ cut

same_either : (room : ℕ) (b : Bool) (m n m_cut n_cut : Numeral) → SameDigits room m m_cut → SameDigits room n n_cut → SameDigits room (cond b m n) (cond b m_cut n_cut)
same_either room true m n m_cut n_cut h k = h
same_either room false m n m_cut n_cut h k = k

literal : ℕ → Option ℕ → ℕ → Bool → Numeral
literal skipped value n is_decimal = record { length = skipped + n; value = value; is_decimal = is_decimal }

digits_cut : (radix skipped : ℕ) (is_decimal : Bool) (c : ℕ) (cs ds : List ℕ) → more_digits radix (cs ++ ds) ≤ length cs
    → ◌≡◌ {A = Numeral} (record { length = skipped + more_digits radix (cs ++ ds); value = digits_value radix (take (1 + more_digits radix (cs ++ ds)) (c ∷ (cs ++ ds))); is_decimal = is_decimal })
    (record { length = skipped + more_digits radix cs; value = digits_value radix (take (1 + more_digits radix cs) (c ∷ cs)); is_decimal = is_decimal })
unfolding literal
digits_cut radix skipped is_decimal c cs ds le =
    ap (λ (front : List ℕ). literal skipped (digits_value radix front) (more_digits radix (cs ++ ds)) is_decimal) (take-append-le (1 + more_digits radix (cs ++ ds)) (c ∷ cs) ds (omega (arith, le)))
    ∙ ap (λ (n : ℕ). literal skipped (digits_value radix (take (1 + n) (c ∷ cs))) n is_decimal) (more_cut radix cs ds le)

radix_short : (o : Option ℕ) (codes : List ℕ) (room : ℕ) → room ≤ 2 → SameDigits room (with_radix o codes) zero_literal
radix_short None codes room le = λ h. refl
radix_short (Some radix) [] room le = λ h. refl
radix_short (Some radix) (c ∷ codes) room le = by (is_digit c radix)
  where
    by : (b : Bool) → SameDigits room (cond b (record { length = 3 + more_digits radix codes; value = digits_value radix (take (1 + more_digits radix codes) (c ∷ codes)); is_decimal = false }) zero_literal) zero_literal
    by true = λ h. absurd (omega (arith, h, le))
    by false = λ h. refl

radix_cut : (o : Option ℕ) (cs ds : List ℕ) → SameDigits (suc (suc (length cs))) (with_radix o (cs ++ ds)) (with_radix o cs)
radix_cut None cs ds = λ h. refl
radix_cut (Some radix) [] ds = radix_short (Some radix) ds 2 (omega arith)
radix_cut (Some radix) (c ∷ cs) ds = same_either (suc (suc (suc (length cs)))) (is_digit c radix) _ zero_literal _ zero_literal (λ h. digits_cut radix 3 false c cs ds (omega (arith, h))) (λ h. refl)

zero_cut : (cs ds : List ℕ) → SameDigits (suc (length cs)) (after_zero (cs ++ ds)) (after_zero cs)
zero_cut [] [] = λ h. refl
zero_cut [] (d ∷ ds) = radix_short (radix_of d) ds 1 (omega arith)
zero_cut (c ∷ cs) ds = radix_cut (radix_of c) cs ds

numeral_cut : (c : ℕ) (cs ds : List ℕ) → SameDigits (suc (length cs)) (numeral_at (c ∷ (cs ++ ds))) (numeral_at (c ∷ cs))
numeral_cut c cs ds = same_either (suc (length cs)) (c == 0x30) (after_zero (cs ++ ds)) _ (after_zero cs) _ (zero_cut cs ds) (λ h. digits_cut 10 1 true c cs ds (omega (arith, h)))

valued_within : (high : ℕ) (o : Option ℕ) (n : ℕ) → (1 ≤ n) × (n ≤ high) → PieceWithin high (valued_piece o n)
valued_within high None n h = tt
valued_within high (Some value) n h = h

pub number_within : (c : ℕ) (codes : List ℕ) → PieceWithin (suc (length codes)) (number_piece (numeral_at (c ∷ codes)) (c ∷ codes))
number_within c codes = by (is_spoiled_by (numeral_at (c ∷ codes)).is_decimal (drop (numeral_at (c ∷ codes)).length (c ∷ codes)))
  where
    by : (b : Bool) → PieceWithin (suc (length codes)) (cond b None (valued_piece (numeral_at (c ∷ codes)).value (numeral_at (c ∷ codes)).length))
    by true = tt
    by false = valued_within (suc (length codes)) (numeral_at (c ∷ codes)).value (numeral_at (c ∷ codes)).length (numeral_within c codes)

-- what does not spoil a number whole does not when the text is cut
spoiled_cut : (is_decimal : Bool) (xs ds : List ℕ) → is_spoiled_by is_decimal (xs ++ ds) ≡ false → is_spoiled_by is_decimal xs ≡ false
spoiled_cut is_decimal [] ds e = refl
spoiled_cut is_decimal (x ∷ xs) ds e = e

unspoiled_cut : (May : ℕ → Type 0) (n : Numeral) (cs ds : List ℕ) → ((m : ℕ) → May m → m ≤ length cs) → PieceCut May (number_piece n (cs ++ ds)) (number_piece n cs)
unspoiled_cut May n cs ds within = by (is_spoiled_by n.is_decimal (drop n.length (cs ++ ds))) n.value refl refl
  where
    by : (b : Bool) (o : Option ℕ) → is_spoiled_by n.is_decimal (drop n.length (cs ++ ds)) ≡ b → n.value ≡ o → PieceCut May (cond b None (valued_piece o n.length)) (cond (is_spoiled_by n.is_decimal (drop n.length cs)) None (valued_piece n.value n.length))
    by true o e f = tt
    by false None e f = tt
    by false (Some value) e f = λ may.
        let unspoiled : is_spoiled_by n.is_decimal (drop n.length cs) ≡ false =
        spoiled_cut n.is_decimal (drop n.length cs) ds (sym (ap (is_spoiled_by n.is_decimal) (drop-append-le n.length cs ds (within n.length may))) ∙ e) in
        ap (λ (b : Bool). cond b None (valued_piece n.value n.length)) unspoiled ∙ ap (λ (v : Option ℕ). valued_piece v n.length) f

same_cut : (May : ℕ → Type 0) (whole cut : Numeral) (cs ds : List ℕ) → ((m : ℕ) → May m → m ≤ length cs) → SameDigits (length cs) whole cut → PieceCut May (number_piece whole (cs ++ ds)) (number_piece whole cs)
    → PieceCut May (number_piece whole (cs ++ ds)) (number_piece cut cs)
same_cut May whole cut cs ds within same k = by (is_spoiled_by whole.is_decimal (drop whole.length (cs ++ ds))) whole.value k
  where
    by : (b : Bool) (o : Option ℕ) → PieceCut May (cond b None (valued_piece o whole.length)) (number_piece whole cs) → PieceCut May (cond b None (valued_piece o whole.length)) (number_piece cut cs)
    by true o l = tt
    by false None l = tt
    by false (Some value) l = λ may. ap (λ (n : Numeral). number_piece n cs) (sym (same (within whole.length may))) ∙ l may

pub number_cut : (May : ℕ → Type 0) (c : ℕ) (cs ds : List ℕ) → ((n : ℕ) → May n → n ≤ suc (length cs)) → PieceCut May (number_piece (numeral_at (c ∷ (cs ++ ds))) (c ∷ (cs ++ ds))) (number_piece (numeral_at (c ∷ cs)) (c ∷ cs))
number_cut May c cs ds within = same_cut May (numeral_at (c ∷ (cs ++ ds))) (numeral_at (c ∷ cs)) (c ∷ cs) ds within (numeral_cut c cs ds) (unspoiled_cut May (numeral_at (c ∷ (cs ++ ds))) (c ∷ cs) ds within)
