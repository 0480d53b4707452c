-- Strings and template parts: what stands in them has no more units than the code points from their beginning on.
use Rattle.std.proofs.Common.{ℕ, zero, suc, ◌+◌, ◌≤◌, ◌≡◌, List, [], ◌∷◌, ◌++◌, length, take, drop, Option, Some, None, arith, length-append}
use Rattle.std.specs.Prelude.{◌&&◌, ◌||◌, ◌==◌, not, nat_lt, nat_le, option_map}
use Rattle.std.specs.Char.{is_digit}
use Rattle.std.specs.List.{prefix_len}
use Rattle.unit_text.specs.Units.{code_units, text_units}
use Rattle.script_scanner.specs.declared.escapes.Step.{Step}
use Rattle.script_scanner.specs.declared.escapes.Step.TheVariants.{Add, Skip, Close, Break}
use Rattle.script_scanner.specs.declared.parts.Ending.{Ending}
use Rattle.script_scanner.specs.declared.parts.Ending.TheVariants.{Quote, Template}
use Rattle.script_scanner.specs.Blanks.{is_line_end, begins, line_end_length}
use Rattle.script_scanner.specs.Escapes.{is_hex_digit, begins_with_digit, hex_byte, hex_unit, value_step, code_point_step, braced_step, unicode_step, single_escape, escape_step}
use Rattle.script_scanner.specs.Numbers.{digits_value}
use Rattle.script_scanner.specs.Parts.{Body, behind, then_body, body_within, body_of, string_step, template_step, step_at}
use Rattle.scan_laws.proofs.Units.{either, some_units, few_units, units_add, rest_short}

-- What an escape adds is written with two code points at least.

abbrev TakesTwo : Step → Type 0
TakesTwo (Add code n) = 2 ≤ n
TakesTwo (Skip n) = Unit {0}
TakesTwo (Close n) = Unit {0}
TakesTwo Break = Unit {0}

value_two : (o : Option ℕ) (n : ℕ) → 2 ≤ n → TakesTwo (value_step o n)
value_two None n le = tt
value_two (Some value) n le = le

code_point_two : (o : Option ℕ) (n : ℕ) → 2 ≤ n → TakesTwo (code_point_step o n)
code_point_two None n le = tt
code_point_two (Some value) n le = either TakesTwo (nat_le value 0x10_FFFF) (Add value n) Break le tt

braced_two : (codes : List ℕ) → TakesTwo (braced_step codes)
braced_two codes = either TakesTwo (nat_lt 0 (prefix_len is_hex_digit codes) && begins (0x7D ∷ []) (drop (prefix_len is_hex_digit codes) codes)) _ Break
    (code_point_two (digits_value 16 (take (prefix_len is_hex_digit codes) codes)) (4 + prefix_len is_hex_digit codes) (omega arith)) tt

unicode_two : (codes : List ℕ) → TakesTwo (unicode_step codes)
unicode_two codes = either TakesTwo (begins (0x7B ∷ []) codes) (braced_step (drop 1 codes)) _ (braced_two (drop 1 codes)) (value_two (hex_unit codes) 6 (omega arith))

escape_two : (codes : List ℕ) → TakesTwo (escape_step codes)
escape_two [] = tt
escape_two (c ∷ codes) =
    either TakesTwo (is_line_end c) (Skip (1 + line_end_length (c ∷ codes))) _ tt
    (either TakesTwo (is_digit c 10) _ _ (either TakesTwo ((c == 0x30) && not (begins_with_digit codes)) (Add 0 2) Break (omega arith) tt)
    (either TakesTwo (c == 0x78) (value_step (hex_byte codes) 4) _ (value_two (hex_byte codes) 4 (omega arith))
    (either TakesTwo (c == 0x75) (unicode_step codes) (Add (single_escape c) 2) (unicode_two codes) (omega arith))))

-- What a step adds, and what is after it, have no more units than the whole.

abbrev StepShort : List ℕ → Step → Type 0
StepShort codes (Add code n) = length (code_units code) + length (text_units (drop n codes)) ≤ length (text_units codes)
StepShort codes (Skip n) = Unit {0}
StepShort codes (Close n) = Unit {0}
StepShort codes Break = Unit {0}

two_short : (c d : ℕ) (codes : List ℕ) (s : Step) → TakesTwo s → StepShort (c ∷ d ∷ codes) s
two_short c d codes (Add code zero) h = absurd (omega (arith, h))
two_short c d codes (Add code (suc zero)) h = absurd (omega (arith, h))
two_short c d codes (Add code (suc (suc n))) h =
    let first : length (text_units (c ∷ d ∷ codes)) ≡ length (code_units c) + length (text_units (d ∷ codes)) = units_add c (d ∷ codes) in
    let second : length (text_units (d ∷ codes)) ≡ length (code_units d) + length (text_units codes) = units_add d codes in
    let one : 1 ≤ length (code_units c) = some_units c in
    let other : 1 ≤ length (code_units d) = some_units d in
    let added : length (code_units code) ≤ 2 = few_units code in
    let rest : length (text_units (drop n codes)) ≤ length (text_units codes) = rest_short n codes in
    omega (arith, first, second, one, other, added, rest)
two_short c d codes (Skip n) h = tt
two_short c d codes (Close n) h = tt
two_short c d codes Break h = tt

escape_short : (c : ℕ) (codes : List ℕ) → StepShort (c ∷ codes) (escape_step codes)
escape_short c [] = tt
escape_short c (d ∷ codes) = two_short c d codes (escape_step (d ∷ codes)) (escape_two (d ∷ codes))

-- a code point that stands for itself
itself_short : (c : ℕ) (codes : List ℕ) → StepShort (c ∷ codes) (Add c 1)
itself_short c codes = let e : length (text_units (c ∷ codes)) ≡ length (code_units c) + length (text_units codes) = units_add c codes in omega (arith, e)

-- a line end that stands for LF
line_end_short : (c : ℕ) (codes : List ℕ) → StepShort (c ∷ codes) (Add 0xA (line_end_length (c ∷ codes)))
line_end_short c [] = let e : length (text_units (c ∷ [])) ≡ length (code_units c) + length (text_units []) = units_add c [] in let some : 1 ≤ length (code_units c) = some_units c in omega (arith, e, some)
line_end_short c (d ∷ codes) = either (λ n. StepShort (c ∷ d ∷ codes) (Add 0xA n)) ((c == 0xD) && (d == 0xA)) 2 1 (omega (arith, first, second, some)) (omega (arith, first, some))
  where
    first : length (text_units (c ∷ d ∷ codes)) ≡ length (code_units c) + length (text_units (d ∷ codes))
    first = units_add c (d ∷ codes)

    second : length (text_units (d ∷ codes)) ≡ length (code_units d) + length (text_units codes)
    second = units_add d codes

    some : 1 ≤ length (code_units c)
    some = some_units c

string_short : (quote : ℕ) (codes : List ℕ) → StepShort codes (string_step quote codes)
string_short quote [] = tt
string_short quote (c ∷ codes) =
    either (StepShort (c ∷ codes)) (c == quote) (Close 1) _ tt
    (either (StepShort (c ∷ codes)) (c == 0x5C) (escape_step codes) _ (escape_short c codes)
    (either (StepShort (c ∷ codes)) ((c == 0xA) || (c == 0xD)) Break (Add c 1) tt (itself_short c codes)))

template_short : (codes : List ℕ) → StepShort codes (template_step codes)
template_short [] = tt
template_short (c ∷ codes) =
    either (StepShort (c ∷ codes)) (c == 0x60) (Close 1) _ tt
    (either (StepShort (c ∷ codes)) ((c == 0x24) && begins (0x7B ∷ []) codes) (Close 2) _ tt
    (either (StepShort (c ∷ codes)) (c == 0x5C) (escape_step codes) _ (escape_short c codes)
    (either (StepShort (c ∷ codes)) (c == 0xD) (Add 0xA (line_end_length (c ∷ codes))) (Add c 1) (line_end_short c codes) (itself_short c codes))))

step_short : (ending : Ending) (codes : List ℕ) → StepShort codes (step_at ending codes)
step_short (Quote quote) codes = string_short quote codes
step_short Template codes = template_short codes

-- Bodies.

abbrev pub BodyShort : ℕ → Option Body → Type 0
BodyShort bound None = Unit {0}
BodyShort bound (Some body) = length body.units ≤ bound

behind_short : (units : List ℕ) (n rest bound : ℕ) (o : Option Body) → length units + rest ≤ bound → BodyShort rest o → BodyShort bound (option_map (behind units n) o)
behind_short units n rest bound None le h = tt
behind_short units n rest bound (Some body) le h =
    let e : length (units ++ body.units) ≡ length units + length body.units = length-append units body.units in omega (arith, e, le, h)

then_short : (codes : List ℕ) (s : Step) (rest : ℕ → Option Body) → StepShort codes s → ((n : ℕ) → BodyShort (length (text_units (drop n codes))) (rest n)) → BodyShort (length (text_units codes)) (then_body s rest)
then_short codes (Add code n) rest h k = behind_short (code_units code) n (length (text_units (drop n codes))) (length (text_units codes)) (rest n) h (k n)
then_short codes (Skip n) rest h k = behind_short [] n (length (text_units (drop n codes))) (length (text_units codes)) (rest n) (let le : length (text_units (drop n codes)) ≤ length (text_units codes) = rest_short n codes in omega (arith, le)) (k n)
then_short codes (Close n) rest h k = omega arith
then_short codes Break rest h k = tt

within_short : (ending : Ending) (fuel : ℕ) (codes : List ℕ) → BodyShort (length (text_units codes)) (body_within ending fuel codes)
within_short ending zero codes = tt
within_short ending (suc fuel) codes = then_short codes (step_at ending codes) (λ n. body_within ending fuel (drop n codes)) (step_short ending codes) (λ n. within_short ending fuel (drop n codes))

-- the units of a body are no more than those of the text that it is read from
pub body_short : (ending : Ending) (codes : List ℕ) → BodyShort (length (text_units codes)) (body_of ending codes)
unfolding body_of
body_short ending codes = within_short ending (suc (length codes)) codes
