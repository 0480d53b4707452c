-- Escapes in strings and templates. ECMA-262, 12th edition, clause 12.8.4: EscapeSequence and LineContinuation.
use Rattle.std.specs.Prelude.{ℕ, ◌+◌, ◌*◌, Bool, false, ◌&&◌, ◌==◌, not, nat_lt, nat_le, List, [], ◌∷◌, Option, Some, None, take, drop, if◌then◌else◌}
use Rattle.std.specs.Char.{is_digit, digit_value}
use Rattle.std.specs.List.{prefix_len}
use Rattle.script_scanner.specs.declared.escapes.Step.{Step}
use Rattle.script_scanner.specs.declared.escapes.Step.TheVariants.{Add, Skip, Break}
use Rattle.script_scanner.specs.Blanks.{begins, is_line_end, line_end_length}
use Rattle.script_scanner.specs.Numbers.{digits_value}

abbrev pub is_hex_digit : ℕ → Bool
is_hex_digit c = is_digit c 16

-- A decimal digit stands at the front.
abbrev pub begins_with_digit : List ℕ → Bool
begins_with_digit [] = false
begins_with_digit (c ∷ codes) = is_digit c 10

-- The value of two hexadecimal digits at the front.
abbrev pub hex_byte : List ℕ → Option ℕ
hex_byte [] = None
hex_byte (c ∷ []) = None
hex_byte (c ∷ d ∷ codes) = if is_hex_digit c && is_hex_digit d then Some (16 * digit_value c + digit_value d) else None

abbrev pub two_bytes : Option ℕ → Option ℕ → Option ℕ
two_bytes None low = None
two_bytes (Some high) None = None
two_bytes (Some high) (Some low) = Some (256 * high + low)

-- The value of four hexadecimal digits at the front.
abbrev pub hex_unit : List ℕ → Option ℕ
hex_unit codes = two_bytes (hex_byte codes) (hex_byte (drop 2 codes))

-- Adds what a value stands for, if there is one; n code points spell it.
abbrev pub value_step : Option ℕ → ℕ → Step
value_step None n = Break
value_step (Some value) n = Add value n

-- The same, of a value of at most 10FFFF (MV of CodePoint).
abbrev pub code_point_step : Option ℕ → ℕ → Step
code_point_step None n = Break
code_point_step (Some value) n = if nat_le value 0x10_FFFF then Add value n else Break

-- `\u{`, one or more hexadecimal digits, and `}`. The text is what follows the `{`.
abbrev pub braced_step : List ℕ → Step
braced_step codes = let count = prefix_len is_hex_digit codes in
    if nat_lt 0 count && begins (0x7D ∷ []) (drop count codes) then code_point_step (digits_value 16 (take count codes)) (4 + count) else Break

-- `\u`, with four digits or in braces. The text is what follows the `u`.
abbrev pub unicode_step : List ℕ → Step
unicode_step codes = if begins (0x7B ∷ []) codes then braced_step (drop 1 codes) else value_step (hex_unit codes) 6

-- Table 36 of clause 12.8.4: what an escape of one character stands for. A character that is in no row stands for itself.
abbrev pub single_escape : ℕ → ℕ
single_escape c = if c == 0x62 then 0x8
    else (if c == 0x74 then 0x9
    else (if c == 0x6E then 0xA
    else (if c == 0x76 then 0xB
    else (if c == 0x66 then 0xC
    else (if c == 0x72 then 0xD else c)))))

-- What a `\` and the text after it do. `\0` before a digit and `\` before another digit are no escapes, as in strict code.
abbrev pub escape_step : List ℕ → Step
escape_step [] = Break
escape_step (c ∷ codes) = if is_line_end c then Skip (1 + line_end_length (c ∷ codes))
    else (if is_digit c 10 then (if (c == 0x30) && not (begins_with_digit codes) then Add 0 2 else Break)
    else (if c == 0x78 then value_step (hex_byte codes) 4
    else (if c == 0x75 then unicode_step codes
    else Add (single_escape c) 2)))
