-- A text in front of a `{`: a string or a template part that lies in it is the same whatever stands after the brace.
use Rattle.std.proofs.Common.{◌≡◌, ℕ, zero, suc, ◌+◌, ◌-◌, ◌<◌, ◌≤◌, List, [], ◌∷◌, ◌++◌, length, take, drop, Bool, true, cond, refl, sym, ◌∙◌, ap, subst, arith, Option, Some, None, length-drop, length-append}
use Rattle.std.specs.Prelude.{◌&&◌, ◌||◌, ◌==◌, not, nat_lt}
use Rattle.std.specs.Char.{is_digit}
use Rattle.std.specs.List.{prefix_len}
use Rattle.std.proofs.lemmas.List.{take-append-le, drop-append-le}
use Rattle.script_grammar.specs.declared.token.Kind.{Kind}
use Rattle.script_scanner.specs.declared.escapes.Step.{Step}
use Rattle.script_scanner.specs.declared.escapes.Step.TheVariants.{Add, Skip, Close, Break}
use Rattle.script_scanner.specs.declared.parts.Ending.{Ending}
use Rattle.script_scanner.specs.declared.parts.Ending.TheVariants.{Quote, Template}
use Rattle.script_scanner.specs.Blanks.{is_line_end, begins, line_end_length}
use Rattle.script_scanner.specs.Escapes.{is_hex_digit, begins_with_digit, hex_byte, hex_unit, value_step, code_point_step, braced_step, unicode_step, single_escape, escape_step}
use Rattle.script_scanner.specs.Numbers.{digits_value}
use Rattle.script_scanner.specs.Parts.{Body, body_within, body_of, string_step, template_step, step_at}
use Rattle.script_scanner.specs.Tokens.{Piece, string_piece, template_piece}
use Rattle.scan_laws.proofs.Steps.{unicode_within, escape_within, string_within, template_within, step_within, StepSame, step_short, step_self, same_either, value_same, hex_byte_cut, hex_unit_cut, BodySame, then_same}
use Rattle.scan_skip_laws.proofs.BehindBlanks.{prefix_front}

-- A step that ends before the brace is the same in another text that is the same up to it.

hex_byte_same : (cs ds es : List ℕ) → 2 ≤ length cs → hex_byte (cs ++ es) ≡ hex_byte (cs ++ ds)
hex_byte_same cs ds es le = sym (hex_byte_cut cs es le) ∙ hex_byte_cut cs ds le

hex_unit_same : (cs ds es : List ℕ) → 4 ≤ length cs → hex_unit (cs ++ es) ≡ hex_unit (cs ++ ds)
hex_unit_same cs ds es le = sym (hex_unit_cut cs es le) ∙ hex_unit_cut cs ds le

-- the digits end in front of the brace
first_same : (ys ds es : List ℕ) → begins (0x7D ∷ []) (ys ++ 0x7B ∷ ds) ≡ begins (0x7D ∷ []) (ys ++ 0x7B ∷ es)
first_same [] ds es = refl
first_same (y ∷ ys) ds es = refl

braced_same : (cs ds es : List ℕ) → braced_step (cs ++ 0x7B ∷ es) ≡ braced_step (cs ++ 0x7B ∷ ds)
braced_same cs ds es =
    let count = prefix_len is_hex_digit (cs ++ 0x7B ∷ ds) in
    let front = prefix_front is_hex_digit refl cs ds es in
    let within : count ≤ length cs = front.1 in
    ap (λ n. made n (begins (0x7D ∷ []) (drop n (cs ++ 0x7B ∷ es))) (take n (cs ++ 0x7B ∷ es))) (sym front.0)
    ∙ ap (λ xs. made count (begins (0x7D ∷ []) (drop count (cs ++ 0x7B ∷ es))) xs) (take-append-le count cs (0x7B ∷ es) within ∙ sym (take-append-le count cs (0x7B ∷ ds) within))
    ∙ ap (λ b. made count b (take count (cs ++ 0x7B ∷ ds)))
    (ap (begins (0x7D ∷ [])) (drop-append-le count cs (0x7B ∷ es) within) ∙ sym (first_same (drop count cs) ds es) ∙ sym (ap (begins (0x7D ∷ [])) (drop-append-le count cs (0x7B ∷ ds) within)))
  where
    made : ℕ → Bool → List ℕ → Step
    made count closed front = cond (nat_lt 0 count && closed) (code_point_step (digits_value 16 front) (4 + count)) Break

unicode_same : (cs ds es : List ℕ) → StepSame (2 + length cs) (unicode_step (cs ++ 0x7B ∷ ds)) (unicode_step (cs ++ 0x7B ∷ es))
unicode_same [] ds es = step_short 4 (2 + suc (length ds)) (2 + 0) (unicode_step (0x7B ∷ ds)) (unicode_step (0x7B ∷ es)) (omega arith) (unicode_within (0x7B ∷ ds))
unicode_same (c ∷ cs) ds es = same_either (2 + suc (length cs)) ((c == 0x7B) && true) (braced_step (cs ++ 0x7B ∷ ds)) _ (braced_step (cs ++ 0x7B ∷ es)) _
    (subst (λ s. StepSame (2 + suc (length cs)) (braced_step (cs ++ 0x7B ∷ ds)) s) (sym (braced_same cs ds es)) (step_self (2 + suc (length cs)) (braced_step (cs ++ 0x7B ∷ ds))))
    (value_same (2 + suc (length cs)) (hex_unit (c ∷ (cs ++ 0x7B ∷ ds))) (hex_unit (c ∷ (cs ++ 0x7B ∷ es))) 6 (λ le. hex_unit_same (c ∷ cs) (0x7B ∷ ds) (0x7B ∷ es) (omega (arith, le))))

line_end_same : (c : ℕ) (cs ds es : List ℕ) → line_end_length (c ∷ (cs ++ 0x7B ∷ es)) ≡ line_end_length (c ∷ (cs ++ 0x7B ∷ ds))
line_end_same c [] ds es = refl
line_end_same c (d ∷ cs) ds es = refl

nul_same : (c : ℕ) (cs ds es : List ℕ) (room : ℕ) → StepSame room (cond ((c == 0x30) && not (begins_with_digit (cs ++ 0x7B ∷ ds))) (Add 0 2) Break) (cond ((c == 0x30) && not (begins_with_digit (cs ++ 0x7B ∷ es))) (Add 0 2) Break)
nul_same c [] ds es room = step_self room (cond ((c == 0x30) && not (is_digit 0x7B 10)) (Add 0 2) Break)
nul_same c (d ∷ cs) ds es room = step_self room (cond ((c == 0x30) && not (is_digit d 10)) (Add 0 2) Break)

escape_same : (cs ds es : List ℕ) → StepSame (suc (length cs)) (escape_step (cs ++ 0x7B ∷ ds)) (escape_step (cs ++ 0x7B ∷ es))
escape_same [] ds es = step_short 2 (suc (suc (length ds))) 1 (escape_step (0x7B ∷ ds)) (escape_step (0x7B ∷ es)) (omega arith) (escape_within (0x7B ∷ ds))
escape_same (c ∷ cs) ds es =
    same_either (suc (suc (length cs))) (is_line_end c) (Skip (1 + line_end_length (c ∷ (cs ++ 0x7B ∷ ds)))) _ (Skip (1 + line_end_length (c ∷ (cs ++ 0x7B ∷ es)))) _
    (λ le. ap (λ n. Skip (1 + n)) (line_end_same c cs ds es))
    (same_either (suc (suc (length cs))) (is_digit c 10) _ _ _ _ (nul_same c cs ds es (suc (suc (length cs))))
    (same_either (suc (suc (length cs))) (c == 0x78) (value_step (hex_byte (cs ++ 0x7B ∷ ds)) 4) _ (value_step (hex_byte (cs ++ 0x7B ∷ es)) 4) _
    (value_same (suc (suc (length cs))) (hex_byte (cs ++ 0x7B ∷ ds)) (hex_byte (cs ++ 0x7B ∷ es)) 4 (λ le. hex_byte_same cs (0x7B ∷ ds) (0x7B ∷ es) (omega (arith, le))))
    (same_either (suc (suc (length cs))) (c == 0x75) (unicode_step (cs ++ 0x7B ∷ ds)) (Add (single_escape c) 2) (unicode_step (cs ++ 0x7B ∷ es)) (Add (single_escape c) 2)
    (subst (λ n. StepSame n (unicode_step (cs ++ 0x7B ∷ ds)) (unicode_step (cs ++ 0x7B ∷ es))) (two_more (length cs)) (unicode_same cs ds es)) (λ le. refl))))
  where
    two_more : (n : ℕ) → 2 + n ≡ suc (suc n)
    two_more n = omega arith

string_step_same : (quote : ℕ) (cs ds es : List ℕ) → StepSame (length cs) (string_step quote (cs ++ 0x7B ∷ ds)) (string_step quote (cs ++ 0x7B ∷ es))
string_step_same quote [] ds es = step_short 1 (suc (length ds)) 0 (string_step quote (0x7B ∷ ds)) (string_step quote (0x7B ∷ es)) (omega arith) (string_within quote (0x7B ∷ ds))
string_step_same quote (c ∷ cs) ds es =
    same_either (suc (length cs)) (c == quote) (Close 1) _ (Close 1) _ (λ le. refl)
    (same_either (suc (length cs)) (c == 0x5C) (escape_step (cs ++ 0x7B ∷ ds)) _ (escape_step (cs ++ 0x7B ∷ es)) _ (escape_same cs ds es)
    (step_self (suc (length cs)) (cond ((c == 0xA) || (c == 0xD)) Break (Add c 1))))

template_step_same : (cs ds es : List ℕ) → StepSame (length cs) (template_step (cs ++ 0x7B ∷ ds)) (template_step (cs ++ 0x7B ∷ es))
template_step_same [] ds es = step_short 1 (suc (length ds)) 0 (template_step (0x7B ∷ ds)) (template_step (0x7B ∷ es)) (omega arith) (template_within (0x7B ∷ ds))
template_step_same (c ∷ cs) ds es =
    same_either (suc (length cs)) (c == 0x60) (Close 1) _ (Close 1) _ (λ le. refl)
    (dollar cs (c == 0x24) _ _
    (same_either (suc (length cs)) (c == 0x5C) (escape_step (cs ++ 0x7B ∷ ds)) _ (escape_step (cs ++ 0x7B ∷ es)) _ (escape_same cs ds es)
    (same_either (suc (length cs)) (c == 0xD) (Add 0xA (line_end_length (c ∷ (cs ++ 0x7B ∷ ds)))) (Add c 1) (Add 0xA (line_end_length (c ∷ (cs ++ 0x7B ∷ es)))) (Add c 1) (λ le. ap (Add 0xA) (line_end_same c cs ds es)) (λ le. refl))))
  where
    dollar : (xs : List ℕ) (x : Bool) (s s_there : Step) → StepSame (suc (length xs)) s s_there
        → StepSame (suc (length xs)) (cond (x && begins (0x7B ∷ []) (xs ++ 0x7B ∷ ds)) (Close 2) s) (cond (x && begins (0x7B ∷ []) (xs ++ 0x7B ∷ es)) (Close 2) s_there)
    dollar [] x s s_there h = same_either 1 (x && true) (Close 2) s (Close 2) s_there (λ le. refl) h
    dollar (d ∷ xs) x s s_there h = same_either (suc (suc (length xs))) (x && ((d == 0x7B) && true)) (Close 2) s (Close 2) s_there (λ le. refl) h

step_same : (ending : Ending) (cs ds es : List ℕ) → StepSame (length cs) (step_at ending (cs ++ 0x7B ∷ ds)) (step_at ending (cs ++ 0x7B ∷ es))
step_same (Quote quote) cs ds es = string_step_same quote cs ds es
step_same Template cs ds es = template_step_same cs ds es

-- Bodies.

body_same : (ending : Ending) (fuel fuel_there : ℕ) (cs ds es : List ℕ) → length cs < fuel_there → BodySame (length cs) (body_within ending fuel (cs ++ 0x7B ∷ ds)) (body_within ending fuel_there (cs ++ 0x7B ∷ es))
body_same ending zero fuel_there cs ds es lt = tt
body_same ending (suc fuel) zero cs ds es lt = absurd (omega (arith, lt))
body_same ending (suc fuel) (suc fuel_there) cs ds es lt =
    then_same (length cs) (step_at ending (cs ++ 0x7B ∷ ds)) (step_at ending (cs ++ 0x7B ∷ es)) (λ n. body_within ending fuel (drop n (cs ++ 0x7B ∷ ds))) (λ n. body_within ending fuel_there (drop n (cs ++ 0x7B ∷ es))) (length (cs ++ 0x7B ∷ ds))
    (step_within ending (cs ++ 0x7B ∷ ds)) (step_same ending cs ds es) (λ n some le.
    let size : length (drop n cs) ≡ length cs - n = length-drop n cs in
    subst (λ (rest : List ℕ). BodySame (length cs - n) (body_within ending fuel rest) (body_within ending fuel_there (drop n (cs ++ 0x7B ∷ es)))) (sym (drop-append-le n cs (0x7B ∷ ds) le))
    (subst (λ (rest : List ℕ). BodySame (length cs - n) (body_within ending fuel (drop n cs ++ 0x7B ∷ ds)) (body_within ending fuel_there rest)) (sym (drop-append-le n cs (0x7B ∷ es) le))
    (subst (λ room. BodySame room (body_within ending fuel (drop n cs ++ 0x7B ∷ ds)) (body_within ending fuel_there (drop n cs ++ 0x7B ∷ es))) size (body_same ending fuel fuel_there (drop n cs) ds es (omega (arith, size, lt, some, le))))))

body_front : (ending : Ending) (cs ds es : List ℕ) → BodySame (length cs) (body_of ending (cs ++ 0x7B ∷ ds)) (body_of ending (cs ++ 0x7B ∷ es))
unfolding body_of
body_front ending cs ds es =
    let size : length (cs ++ 0x7B ∷ es) ≡ length cs + suc (length es) = length-append cs (0x7B ∷ es) in
    body_same ending (suc (length (cs ++ 0x7B ∷ ds))) (suc (length (cs ++ 0x7B ∷ es))) cs ds es (omega (arith, size))

-- Strings and template parts.

-- a token that ends in front of the brace is that of the other text
abbrev pub PieceSame : ℕ → Option Piece → Option Piece → Type 0
PieceSame room None there = Unit {0}
PieceSame room (Some p) there = p.length ≤ room → there ≡ Some p

string_keeps : (room : ℕ) (o there : Option Body) → BodySame room o there → PieceSame (suc room) (string_piece o) (string_piece there)
string_keeps room None there h = tt
string_keeps room (Some b) there h = λ le. ap string_piece (h (omega (arith, le)))

pub string_front : (ending : Ending) (cs ds es : List ℕ) → PieceSame (suc (length cs)) (string_piece (body_of ending (cs ++ 0x7B ∷ ds))) (string_piece (body_of ending (cs ++ 0x7B ∷ es)))
string_front ending cs ds es = string_keeps (length cs) (body_of ending (cs ++ 0x7B ∷ ds)) (body_of ending (cs ++ 0x7B ∷ es)) (body_front ending cs ds es)

template_keeps : (whole head : Kind) (room : ℕ) (o there : Option Body) → BodySame room o there → PieceSame (suc room) (template_piece whole head o) (template_piece whole head there)
template_keeps whole head room None there h = tt
template_keeps whole head room (Some b) there h = λ le. ap (template_piece whole head) (h (omega (arith, le)))

pub template_front : (whole head : Kind) (ending : Ending) (cs ds es : List ℕ) → PieceSame (suc (length cs)) (template_piece whole head (body_of ending (cs ++ 0x7B ∷ ds))) (template_piece whole head (body_of ending (cs ++ 0x7B ∷ es)))
template_front whole head ending cs ds es = template_keeps whole head (length cs) (body_of ending (cs ++ 0x7B ∷ ds)) (body_of ending (cs ++ 0x7B ∷ es)) (body_front ending cs ds es)
