-- Numbers. ECMA-262, 12th edition, clause 12.8.3, of which this project has whole numbers in four bases up to 2^53 - 1.
use Rattle.std.specs.Prelude.{ℕ, ◌+◌, ◌*◌, Bool, true, false, ◌||◌, ◌&&◌, ◌==◌, nat_le, List, [], ◌∷◌, Option, Some, None, take, fold, if◌then◌else◌}
use Rattle.std.specs.Char.{is_digit, digit_value}
use Rattle.script_scanner.specs.declared.numbers.Numeral.{Numeral}
use Rattle.script_scanner.specs.Names.{is_name_start}

-- How many code points one more digit takes after a digit: one `_` may stand before it. 0 where none follows.
abbrev pub digit_length : ℕ → List ℕ → ℕ
digit_length radix [] = 0
digit_length radix (c ∷ []) = if is_digit c radix then 1 else 0
digit_length radix (c ∷ d ∷ codes) = if is_digit c radix then 1 else (if (c == 0x5F) && is_digit d radix then 2 else 0)

-- How many code points the digits take that follow a digit.
abbrev pub more_digits : ℕ → List ℕ → ℕ
more_digits radix [] = 0
more_digits radix (c ∷ []) = if is_digit c radix then 1 else 0
more_digits radix (c ∷ d ∷ codes) = if is_digit c radix then 1 + more_digits radix (d ∷ codes)
    else (if (c == 0x5F) && is_digit d radix then 2 + more_digits radix codes else 0)

-- The value so far, with one more digit. What is no digit, as `_`, adds nothing.
abbrev pub with_digit : ℕ → ℕ → ℕ → ℕ
with_digit radix value c = if is_digit c radix then value * radix + digit_value c else value

-- A value of at most 2^53 - 1.
abbrev pub limited : ℕ → Option ℕ
limited value = if nat_le value 9007199254740991 then Some value else None

-- The value of digits, if it is at most 2^53 - 1.
abbrev pub digits_value : ℕ → List ℕ → Option ℕ
digits_value radix codes = limited (fold (with_digit radix) 0 codes)

-- The base that a letter after a leading `0` gives: `x`, `o` or `b`, small or capital.
abbrev pub radix_of : ℕ → Option ℕ
radix_of c = if (c == 0x78) || (c == 0x58) then Some 16
    else (if (c == 0x6F) || (c == 0x4F) then Some 8 else (if (c == 0x62) || (c == 0x42) then Some 2 else None))

-- The literal `0`.
abbrev pub zero_literal : Numeral
zero_literal = record { length = 1; value = Some 0; is_decimal = true }

-- A literal of this base, if digits of it follow; else the `0` alone. The text is what follows `0` and the letter.
abbrev pub with_radix : Option ℕ → List ℕ → Numeral
with_radix None codes = zero_literal
with_radix (Some radix) [] = zero_literal
with_radix (Some radix) (c ∷ codes) = if is_digit c radix
    then record {
      length = 3 + more_digits radix codes;
      value = digits_value radix
          (take (1 + more_digits radix codes) (c ∷ codes));
      is_decimal = false;
    }
    else zero_literal

-- The literal that begins with `0`; the text is what follows it.
abbrev pub after_zero : List ℕ → Numeral
after_zero [] = zero_literal
after_zero (c ∷ codes) = with_radix (radix_of c) codes

-- The literal at the front of a text that begins with a decimal digit.
abbrev pub numeral_at : List ℕ → Numeral
numeral_at [] = zero_literal
numeral_at (c ∷ codes) = if c == 0x30 then after_zero codes
    else record { length = 1 + more_digits 10 codes; value = digits_value 10 (take (1 + more_digits 10 codes) (c ∷ codes)); is_decimal = true }

-- Clause 12.8.3: what may not follow a literal directly, a name's start or a digit; and after a decimal one no `.`, since
-- this project has no fractions.
abbrev pub is_spoiled_by : Bool → List ℕ → Bool
is_spoiled_by is_decimal [] = false
is_spoiled_by is_decimal (c ∷ codes) = is_name_start c || is_digit c 10 || (is_decimal && (c == 0x2E))
