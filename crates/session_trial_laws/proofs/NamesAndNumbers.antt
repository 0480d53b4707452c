-- A letter and digits are a name, and digits are a number, in front of a text that goes on with neither.
use Rattle.std.proofs.Common.{◌≡◌, ℕ, ◌+◌, ◌-◌, ◌/◌, ◌%◌, ◌≤◌, List, [], ◌∷◌, ◌++◌, length, take, drop, Bool, true, false, cond, refl, sym, ◌∙◌, ap, Option, Some, None, inl, inr}
use Rattle.std.specs.Prelude.{◌==◌, option_map, fold, nat_le, nat_lt}
use Rattle.std.specs.Char.{is_digit}
use Rattle.std.specs.List.{prefix_len}
use Rattle.std.proofs.lemmas.Bool.{le-leb, cases_Bool, eqb-true}
use Rattle.std.proofs.Math.Numerals.{one-add}
use Rattle.std.proofs.Math.Seq.{take-append_seam, drop-append_seam}
use Rattle.unicode_ident.proofs.Computing.{unicode_ident}
use Rattle.unit_text.specs.Units.{text_units}
use Rattle.script_grammar.specs.declared.token.Kind.{Kind}
use Rattle.script_grammar.specs.declared.token.Kind.TheVariants as kind
use Rattle.script_scanner.specs.declared.numbers.Numeral.{Numeral}
use Rattle.script_scanner.specs.Blanks.{blank_at}
use Rattle.script_scanner.specs.Names.{is_name_start, is_name_part}
use Rattle.script_scanner.specs.Numbers.{more_digits, with_digit, limited, digits_value, zero_literal, after_zero, numeral_at, is_spoiled_by}
use Rattle.script_scanner.specs.Tokens.{Piece, Text, Number, name_kind, name_piece, number_piece, token_at}
use Rattle.script_scanner.specs.Words.{Word, word_at, word_index}
use Rattle.session_trial_laws.proofs.Digits.{IsDigit, AreDigits, digit_cases, digit_no_start, digit_is_digit, digits_units, digits_prefix, digits_more}

-- A letter that a name may begin with, with a digit after it in no word.
pub record IsLetter (c : ℕ) : Type 0 where
  pub starts : is_name_start c ≡ true
  pub unit : nat_le c 0xFFFF ≡ true
  pub ascii : nat_lt c 128 ≡ true
  pub bare : (codes : List ℕ) → blank_at (c ∷ codes) ≡ None
  pub wordless : (d : ℕ) (ds : List ℕ) → IsDigit d → word_at (c ∷ d ∷ ds) ≡ None

pub is_letter_f : IsLetter 0x66
unfolding unicode_ident word_at
is_letter_f = record { starts = refl; unit = refl; ascii = refl; bare = λ codes. refl; wordless = λ d ds h. digit_cases (λ x. word_at (0x66 ∷ x ∷ ds) ≡ None) refl refl refl refl refl refl refl refl refl refl d h }

pub is_letter_g : IsLetter 0x67
unfolding unicode_ident word_at
is_letter_g = record { starts = refl; unit = refl; ascii = refl; bare = λ codes. refl; wordless = λ d ds h. digit_cases (λ x. word_at (0x67 ∷ x ∷ ds) ≡ None) refl refl refl refl refl refl refl refl refl refl d h }

pub is_letter_o : IsLetter 0x6F
unfolding unicode_ident word_at
is_letter_o = record { starts = refl; unit = refl; ascii = refl; bare = λ codes. refl; wordless = λ d ds h. digit_cases (λ x. word_at (0x6F ∷ x ∷ ds) ≡ None) refl refl refl refl refl refl refl refl refl refl d h }

pub is_letter_v : IsLetter 0x76
unfolding unicode_ident word_at
is_letter_v = record { starts = refl; unit = refl; ascii = refl; bare = λ codes. refl; wordless = λ d ds h. digit_cases (λ x. word_at (0x76 ∷ x ∷ ds) ≡ None) refl refl refl refl refl refl refl refl refl refl d h }

-- Names.

name_of : ℕ → List ℕ → Piece
name_of n text = record { kind = name_kind (option_map word_index (word_at text)); value = Text text; length = n }

abbrev named : Kind → List ℕ → ℕ → Piece
named k text n = record { kind = k; value = Text text; length = n }

abbrev pub name_of_digits : ℕ → List ℕ → Piece
name_of_digits c ds = record { kind = kind.Name; value = Text (c ∷ ds); length = 1 + length ds }

units_behind : (c : ℕ) (ds : List ℕ) → IsLetter c → AreDigits ds → text_units (c ∷ ds) ≡ c ∷ ds
units_behind c ds letter h =
    ap (λ (b : Bool). (cond b (c ∷ []) (((c - 0x1_0000) / 0x400 + 0xD800) ∷ ((c - 0x1_0000) % 0x400 + 0xDC00) ∷ [])) ++ text_units ds) letter.unit
    ∙ ap (λ (us : List ℕ). c ∷ us) (digits_units ds h)

module _ {A : Type 0} where
  pub chosen : (b : Bool) (x y : A) → b ≡ true → cond b x y ≡ x
  chosen b x y e = ap (λ (z : Bool). cond z x y) e

  pub passed_by : (b : Bool) (x y : A) → b ≡ false → cond b x y ≡ y
  passed_by b x y e = ap (λ (z : Bool). cond z x y) e

front_taken : (c : ℕ) (ds rest : List ℕ) → take (1 + length ds) (c ∷ (ds ++ rest)) ≡ c ∷ ds
front_taken c ds rest = ap (λ (n : ℕ). take n (c ∷ (ds ++ rest))) (one-add (length ds)) ∙ ap (λ (xs : List ℕ). c ∷ xs) (take-append_seam ds rest)

pub name_token : (in_template : Bool) (c d : ℕ) (ds rest : List ℕ) → IsLetter c → AreDigits (d ∷ ds) → prefix_len is_name_part rest ≡ 0
    → token_at in_template (c ∷ d ∷ (ds ++ rest)) ≡ Some (name_of_digits c (d ∷ ds))
unfolding token_at name_of
name_token in_template c d ds rest letter h stop =
    chosen (is_name_start c) (Some (name_piece (c ∷ d ∷ (ds ++ rest)))) _ letter.starts
    ∙ ap (λ (n : ℕ). Some (name_of (1 + n) (text_units (take (1 + n) (c ∷ d ∷ (ds ++ rest)))))) (digits_prefix (d ∷ ds) rest h stop)
    ∙ ap (λ (front : List ℕ). Some (name_of (1 + length (d ∷ ds)) (text_units front))) (front_taken c (d ∷ ds) rest)
    ∙ ap (λ (front : List ℕ). Some (name_of (1 + length (d ∷ ds)) front)) (units_behind c (d ∷ ds) letter h)
    ∙ ap (λ (o : Option Word). Some (named (name_kind (option_map word_index o)) (c ∷ d ∷ ds) (1 + length (d ∷ ds)))) (letter.wordless d ds h.0)

-- Numbers.

-- what follows goes on with no number: no digit, no name, no base and no fraction
pub record StopsNumber (rest : List ℕ) : Type 0 where
  pub digits : more_digits 10 rest ≡ 0
  pub clean : is_spoiled_by true rest ≡ false
  pub decimal : after_zero rest ≡ zero_literal

abbrev pub number_of_digits : ℕ → ℕ → Piece
number_of_digits n size = record { kind = kind.Number; value = Number n; length = size }

literal : ℕ → Option ℕ → Numeral
literal n value = record { length = n; value = value; is_decimal = true }

-- the literal that digits are
digits_literal : (n c : ℕ) (cs rest : List ℕ) → AreDigits (c ∷ cs) → fold (with_digit 10) 0 (c ∷ cs) ≡ n → n ≤ 9007199254740991 → (c ≡ 48 → (n ≡ 0) × (cs ≡ [])) → StopsNumber rest
    → numeral_at (c ∷ (cs ++ rest)) ≡ literal (1 + length cs) (Some n)
unfolding literal
digits_literal n c cs rest h value small lead stop = elim (cases_Bool (c == 0x30)) as (λ _. numeral_at (c ∷ (cs ++ rest)) ≡ literal (1 + length cs) (Some n)) [
  | inl y ↦ (let (zero_is, none) = lead (eqb-true c 0x30 y) in
      chosen (c == 0x30) (after_zero (cs ++ rest)) _ y
      ∙ ap (λ (xs : List ℕ). after_zero (xs ++ rest)) none
      ∙ stop.decimal
      ∙ ap (λ (m : ℕ). literal 1 (Some m)) (sym zero_is)
      ∙ ap (λ (xs : List ℕ). literal (1 + length xs) (Some n)) (sym none))
  | inr e ↦ (passed_by (c == 0x30) (after_zero (cs ++ rest)) _ e
      ∙ ap (λ (m : ℕ). literal (1 + m) (digits_value 10 (take (1 + m) (c ∷ (cs ++ rest))))) (digits_more cs rest h.1 stop.digits)
      ∙ ap (λ (front : List ℕ). literal (1 + length cs) (digits_value 10 front)) (front_taken c cs rest)
      ∙ ap (λ (m : ℕ). literal (1 + length cs) (limited m)) value
      ∙ ap (λ (o : Option ℕ). literal (1 + length cs) o) (chosen (nat_le n 9007199254740991) (Some n) None (le-leb n 9007199254740991 small)))
]

pub number_token : (in_template : Bool) (n c : ℕ) (cs rest : List ℕ) → AreDigits (c ∷ cs) → fold (with_digit 10) 0 (c ∷ cs) ≡ n → n ≤ 9007199254740991 → (c ≡ 48 → (n ≡ 0) × (cs ≡ [])) → StopsNumber rest
    → token_at in_template (c ∷ (cs ++ rest)) ≡ Some (number_of_digits n (1 + length cs))
unfolding token_at literal
number_token in_template n c cs rest h value small lead stop =
    passed_by (is_name_start c) _ _ (digit_no_start c h.0)
    ∙ chosen (is_digit c 10) _ _ (digit_is_digit c h.0)
    ∙ ap (λ (numeral : Numeral). number_piece numeral (c ∷ (cs ++ rest))) (digits_literal n c cs rest h value small lead stop)
    ∙ ap (λ (m : ℕ). cond (is_spoiled_by true (drop m (c ∷ (cs ++ rest)))) None (Some (number_of_digits n (1 + length cs)))) (one-add (length cs))
    ∙ ap (λ (xs : List ℕ). cond (is_spoiled_by true xs) None (Some (number_of_digits n (1 + length cs)))) (drop-append_seam cs rest)
    ∙ passed_by (is_spoiled_by true rest) None (Some (number_of_digits n (1 + length cs))) stop.clean
