-- A text that is cut: a string or a template part that lies in front of the cut is the same as in the whole text.
use Rattle.std.proofs.Common.{◌≡◌, ℕ, zero, suc, ◌+◌, ◌-◌, ◌<◌, ◌≤◌, List, [], ◌∷◌, ◌++◌, length, take, drop, Bool, true, false, cond, refl, sym, ◌∙◌, ap, subst, arith, Option, Some, None, length-drop}
use Rattle.std.specs.Prelude.{◌&&◌, ◌||◌, ◌==◌, not, nat_lt, option_map}
use Rattle.std.specs.Char.{is_digit}
use Rattle.std.specs.List.{prefix_len}
use Rattle.std.proofs.lemmas.List.{take-append-le, drop-append-le}
use Rattle.unit_text.specs.Units.{code_units}
use Rattle.script_grammar.specs.declared.token.Kind.{Kind}
use Rattle.script_scanner.specs.declared.escapes.Step.{Step}
use Rattle.script_scanner.specs.declared.escapes.Step.TheVariants.{Add, Skip, Close, Break}
use Rattle.script_scanner.specs.declared.parts.Ending.{Ending}
use Rattle.script_scanner.specs.declared.parts.Ending.TheVariants.{Quote, Template}
use Rattle.script_scanner.specs.Blanks.{is_line_end, begins, line_end_length}
use Rattle.script_scanner.specs.Escapes.{is_hex_digit, begins_with_digit, hex_byte, hex_unit, value_step, code_point_step, braced_step, unicode_step, single_escape, escape_step}
use Rattle.script_scanner.specs.Numbers.{digits_value}
use Rattle.script_scanner.specs.Parts.{Body, behind, then_body, body_within, body_of, string_step, template_step, step_at}
use Rattle.script_scanner.specs.Tokens.{string_piece, template_piece}
use Rattle.scan_laws.proofs.CutBlanks.{prefix_cut, begins_cut}
use Rattle.scan_laws.proofs.CutNumbers.{PieceWithin, PieceCut}
use Rattle.scan_laws.proofs.Steps.{unicode_within, escape_within, string_within, template_within, step_within, StepWithin, StepSame, step_short, step_self, same_either, value_same, hex_byte_cut, hex_unit_cut, code_point_same, BodySame, then_same}

-- A step that ends before the cut is the same in the text that is cut.

braced_cut : (cs ds : List ℕ) → StepSame (3 + length cs) (braced_step (cs ++ ds)) (braced_step cs)
braced_cut cs ds = by (nat_lt 0 (prefix_len is_hex_digit (cs ++ ds)) && begins (0x7D ∷ []) (drop (prefix_len is_hex_digit (cs ++ ds)) (cs ++ ds))) refl
  where
    made : ℕ → Bool → List ℕ → Step
    made count closed front = cond (nat_lt 0 count && closed) (code_point_step (digits_value 16 front) (4 + count)) Break

    by : (b : Bool) → (nat_lt 0 (prefix_len is_hex_digit (cs ++ ds)) && begins (0x7D ∷ []) (drop (prefix_len is_hex_digit (cs ++ ds)) (cs ++ ds))) ≡ b
        → StepSame (3 + length cs) (cond b (code_point_step (digits_value 16 (take (prefix_len is_hex_digit (cs ++ ds)) (cs ++ ds))) (4 + prefix_len is_hex_digit (cs ++ ds))) Break) (braced_step cs)
    by false e = tt
    by true e = code_point_same (3 + length cs) (digits_value 16 (take (prefix_len is_hex_digit (cs ++ ds)) (cs ++ ds))) (4 + prefix_len is_hex_digit (cs ++ ds)) (braced_step cs) (λ le.
        let count = prefix_len is_hex_digit (cs ++ ds) in
        let within : count ≤ length cs = omega (arith, le) in
        let same : count ≡ prefix_len is_hex_digit cs = prefix_cut is_hex_digit cs ds within in
        let rest : drop count (cs ++ ds) ≡ drop count cs ++ ds = drop-append-le count cs ds within in
        let size : length (drop count cs) ≡ length cs - count = length-drop count cs in
        let closed : begins (0x7D ∷ []) (drop count (cs ++ ds)) ≡ begins (0x7D ∷ []) (drop count cs) = ap (begins (0x7D ∷ [])) rest ∙ begins_cut (0x7D ∷ []) (drop count cs) ds (omega (arith, size, le)) in
        ap (λ n. made n (begins (0x7D ∷ []) (drop n cs)) (take n cs)) (sym same)
        ∙ ap (λ front. made count (begins (0x7D ∷ []) (drop count cs)) front) (sym (take-append-le count cs ds within))
        ∙ ap (λ b. made count b (take count (cs ++ ds))) (sym closed)
        ∙ ap (λ b. cond b (code_point_step (digits_value 16 (take count (cs ++ ds))) (4 + count)) Break) e)

unicode_cut : (cs ds : List ℕ) → StepSame (2 + length cs) (unicode_step (cs ++ ds)) (unicode_step cs)
unicode_cut [] ds = step_short 4 (2 + length ds) (2 + 0) (unicode_step ds) Break (omega arith) (unicode_within ds)
unicode_cut (c ∷ cs) ds = same_either (2 + suc (length cs)) ((c == 0x7B) && true) (braced_step (cs ++ ds)) _ (braced_step cs) _
    (subst (λ n. StepSame n (braced_step (cs ++ ds)) (braced_step cs)) (one_over (length cs)) (braced_cut cs ds))
    (value_same (2 + suc (length cs)) (hex_unit (c ∷ (cs ++ ds))) (hex_unit (c ∷ cs)) 6 (λ le. hex_unit_cut (c ∷ cs) ds (omega (arith, le))))
  where
    one_over : (n : ℕ) → 3 + n ≡ 2 + suc n
    one_over n = omega arith

line_end_cut : (c : ℕ) (cs ds : List ℕ) → line_end_length (c ∷ (cs ++ ds)) ≤ suc (length cs) → line_end_length (c ∷ cs) ≡ line_end_length (c ∷ (cs ++ ds))
line_end_cut c [] [] le = refl
line_end_cut c [] (d ∷ ds) le = by ((c == 0xD) && (d == 0xA)) le
  where
    by : (b : Bool) → cond b 2 1 ≤ 1 → ◌≡◌ {A = ℕ} 1 (cond b 2 1)
    by true h = absurd (omega (arith, h))
    by false h = refl
line_end_cut c (d ∷ cs) ds le = refl

nul_cut : (c : ℕ) (cs ds : List ℕ) (room : ℕ) → StepSame room (cond ((c == 0x30) && not (begins_with_digit (cs ++ ds))) (Add 0 2) Break) (cond ((c == 0x30) && not (begins_with_digit cs)) (Add 0 2) Break)
nul_cut c [] ds room = by (c == 0x30) (begins_with_digit ds)
  where
    by : (x y : Bool) → StepSame room (cond (x && not y) (Add 0 2) Break) (cond (x && true) (Add 0 2) Break)
    by false y = tt
    by true false = λ le. refl
    by true true = tt
nul_cut c (d ∷ cs) ds room = step_self room (cond ((c == 0x30) && not (is_digit d 10)) (Add 0 2) Break)

escape_cut : (cs ds : List ℕ) → StepSame (suc (length cs)) (escape_step (cs ++ ds)) (escape_step cs)
escape_cut [] ds = step_short 2 (suc (length ds)) 1 (escape_step ds) Break (omega arith) (escape_within ds)
escape_cut (c ∷ cs) ds =
    same_either (suc (suc (length cs))) (is_line_end c) (Skip (1 + line_end_length (c ∷ (cs ++ ds)))) _ (Skip (1 + line_end_length (c ∷ cs))) _
    (λ le. ap (λ n. Skip (1 + n)) (line_end_cut c cs ds (omega (arith, le))))
    (same_either (suc (suc (length cs))) (is_digit c 10) _ _ _ _ (nul_cut c cs ds (suc (suc (length cs))))
    (same_either (suc (suc (length cs))) (c == 0x78) (value_step (hex_byte (cs ++ ds)) 4) _ (value_step (hex_byte cs) 4) _
    (value_same (suc (suc (length cs))) (hex_byte (cs ++ ds)) (hex_byte cs) 4 (λ le. hex_byte_cut cs ds (omega (arith, le))))
    (same_either (suc (suc (length cs))) (c == 0x75) (unicode_step (cs ++ ds)) (Add (single_escape c) 2) (unicode_step cs) (Add (single_escape c) 2)
    (subst (λ n. StepSame n (unicode_step (cs ++ ds)) (unicode_step cs)) (two_more (length cs)) (unicode_cut cs ds)) (λ le. refl))))
  where
    two_more : (n : ℕ) → 2 + n ≡ suc (suc n)
    two_more n = omega arith

string_step_cut : (quote : ℕ) (cs ds : List ℕ) → StepSame (length cs) (string_step quote (cs ++ ds)) (string_step quote cs)
string_step_cut quote [] ds = step_short 1 (length ds) 0 (string_step quote ds) Break (omega arith) (string_within quote ds)
string_step_cut quote (c ∷ cs) ds =
    same_either (suc (length cs)) (c == quote) (Close 1) _ (Close 1) _ (λ le. refl)
    (same_either (suc (length cs)) (c == 0x5C) (escape_step (cs ++ ds)) _ (escape_step cs) _ (escape_cut cs ds)
    (step_self (suc (length cs)) (cond ((c == 0xA) || (c == 0xD)) Break (Add c 1))))

template_step_cut : (cs ds : List ℕ) → StepSame (length cs) (template_step (cs ++ ds)) (template_step cs)
template_step_cut [] ds = step_short 1 (length ds) 0 (template_step ds) Break (omega arith) (template_within ds)
template_step_cut (c ∷ cs) ds =
    same_either (suc (length cs)) (c == 0x60) (Close 1) _ (Close 1) _ (λ le. refl)
    (dollar cs (c == 0x24) _ _
    (same_either (suc (length cs)) (c == 0x5C) (escape_step (cs ++ ds)) _ (escape_step cs) _ (escape_cut cs ds)
    (same_either (suc (length cs)) (c == 0xD) (Add 0xA (line_end_length (c ∷ (cs ++ ds)))) (Add c 1) (Add 0xA (line_end_length (c ∷ cs))) (Add c 1) (λ le. ap (Add 0xA) (line_end_cut c cs ds le)) (λ le. refl))))
  where
    dollar : (xs : List ℕ) (x : Bool) (s s_cut : Step) → StepSame (suc (length xs)) s s_cut → StepSame (suc (length xs)) (cond (x && begins (0x7B ∷ []) (xs ++ ds)) (Close 2) s) (cond (x && begins (0x7B ∷ []) xs) (Close 2) s_cut)
    dollar [] x s s_cut h = by x (begins (0x7B ∷ []) ds)
      where
        by : (y z : Bool) → StepSame 1 (cond (y && z) (Close 2) s) (cond (y && false) (Close 2) s_cut)
        by false z = h
        by true false = h
        by true true = λ le. absurd (omega (arith, le))
    dollar (d ∷ xs) x s s_cut h = same_either (suc (suc (length xs))) (x && ((d == 0x7B) && true)) (Close 2) s (Close 2) s_cut (λ le. refl) h

step_cut : (ending : Ending) (cs ds : List ℕ) → StepSame (length cs) (step_at ending (cs ++ ds)) (step_at ending cs)
step_cut (Quote quote) cs ds = string_step_cut quote cs ds
step_cut Template cs ds = template_step_cut cs ds

-- Bodies.

abbrev BodyWithin : ℕ → Option Body → Type 0
BodyWithin high None = Unit {0}
BodyWithin high (Some b) = b.inner + b.closing ≤ high

behind_within : (units : List ℕ) (n high : ℕ) (o : Option Body) → n ≤ high → BodyWithin (high - n) o → BodyWithin high (option_map (behind units n) o)
behind_within units n high None le h = tt
behind_within units n high (Some b) le h = omega (arith, le, h)

then_within : (high : ℕ) (s : Step) (rest : ℕ → Option Body) → StepWithin 1 high s → ((n : ℕ) → BodyWithin (high - n) (rest n)) → BodyWithin high (then_body s rest)
then_within high (Add code n) rest h k = behind_within (code_units code) n high (rest n) h.1 (k n)
then_within high (Skip n) rest h k = behind_within [] n high (rest n) h.1 (k n)
then_within high (Close n) rest h k = omega (arith, h.1)
then_within high Break rest h k = tt

within_body : (ending : Ending) (fuel : ℕ) (codes : List ℕ) → BodyWithin (length codes) (body_within ending fuel codes)
within_body ending zero codes = tt
within_body ending (suc fuel) codes = then_within (length codes) (step_at ending codes) (λ n. body_within ending fuel (drop n codes)) (step_within ending codes)
    (λ n. subst (λ high. BodyWithin high (body_within ending fuel (drop n codes))) (length-drop n codes) (within_body ending fuel (drop n codes)))

cut_body : (ending : Ending) (fuel fuel_cut : ℕ) (cs ds : List ℕ) → length cs < fuel_cut → BodySame (length cs) (body_within ending fuel (cs ++ ds)) (body_within ending fuel_cut cs)
cut_body ending zero fuel_cut cs ds lt = tt
cut_body ending (suc fuel) zero cs ds lt = absurd (omega (arith, lt))
cut_body ending (suc fuel) (suc fuel_cut) cs ds lt =
    then_same (length cs) (step_at ending (cs ++ ds)) (step_at ending cs) (λ n. body_within ending fuel (drop n (cs ++ ds))) (λ n. body_within ending fuel_cut (drop n cs)) (length (cs ++ ds))
    (step_within ending (cs ++ ds)) (step_cut ending cs ds) (λ n some le.
    let size : length (drop n cs) ≡ length cs - n = length-drop n cs in
    subst (λ (rest : List ℕ). BodySame (length cs - n) (body_within ending fuel rest) (body_within ending fuel_cut (drop n cs))) (sym (drop-append-le n cs ds le))
    (subst (λ room. BodySame room (body_within ending fuel (drop n cs ++ ds)) (body_within ending fuel_cut (drop n cs))) size (cut_body ending fuel fuel_cut (drop n cs) ds (omega (arith, size, lt, some, le)))))

body_of_within : (ending : Ending) (codes : List ℕ) → BodyWithin (length codes) (body_of ending codes)
unfolding body_of
body_of_within ending codes = within_body ending (suc (length codes)) codes

body_of_cut : (ending : Ending) (cs ds : List ℕ) → BodySame (length cs) (body_of ending (cs ++ ds)) (body_of ending cs)
unfolding body_of
body_of_cut ending cs ds = cut_body ending (suc (length (cs ++ ds))) (suc (length cs)) cs ds (omega arith)

-- Strings and template parts.

string_fits : (high : ℕ) (o : Option Body) → BodyWithin high o → PieceWithin (suc high) (string_piece o)
string_fits high None h = tt
string_fits high (Some b) h = (omega arith, omega (arith, h))

pub string_piece_within : (ending : Ending) (codes : List ℕ) → PieceWithin (suc (length codes)) (string_piece (body_of ending codes))
string_piece_within ending codes = string_fits (length codes) (body_of ending codes) (body_of_within ending codes)

template_fits : (whole head : Kind) (high : ℕ) (o : Option Body) → BodyWithin high o → PieceWithin (suc high) (template_piece whole head o)
template_fits whole head high None h = tt
template_fits whole head high (Some b) h = (omega arith, omega (arith, h))

pub template_piece_within : (whole head : Kind) (ending : Ending) (codes : List ℕ) → PieceWithin (suc (length codes)) (template_piece whole head (body_of ending codes))
template_piece_within whole head ending codes = template_fits whole head (length codes) (body_of ending codes) (body_of_within ending codes)

string_keeps : (May : ℕ → Type 0) (room : ℕ) (o cut : Option Body) → ((n : ℕ) → May n → n ≤ suc room) → BodySame room o cut → PieceCut May (string_piece o) (string_piece cut)
string_keeps May room None cut within h = tt
string_keeps May room (Some b) cut within h = λ may. let le : 1 + b.inner + b.closing ≤ suc room = within (1 + b.inner + b.closing) may in ap string_piece (h (omega (arith, le)))

pub string_cut : (May : ℕ → Type 0) (ending : Ending) (cs ds : List ℕ) → ((n : ℕ) → May n → n ≤ suc (length cs)) → PieceCut May (string_piece (body_of ending (cs ++ ds))) (string_piece (body_of ending cs))
string_cut May ending cs ds within = string_keeps May (length cs) (body_of ending (cs ++ ds)) (body_of ending cs) within (body_of_cut ending cs ds)

template_keeps : (May : ℕ → Type 0) (whole head : Kind) (room : ℕ) (o cut : Option Body) → ((n : ℕ) → May n → n ≤ suc room) → BodySame room o cut → PieceCut May (template_piece whole head o) (template_piece whole head cut)
template_keeps May whole head room None cut within h = tt
template_keeps May whole head room (Some b) cut within h = λ may. let le : 1 + b.inner + b.closing ≤ suc room = within (1 + b.inner + b.closing) may in ap (template_piece whole head) (h (omega (arith, le)))

pub template_cut : (May : ℕ → Type 0) (whole head : Kind) (ending : Ending) (cs ds : List ℕ) → ((n : ℕ) → May n → n ≤ suc (length cs))
    → PieceCut May (template_piece whole head (body_of ending (cs ++ ds))) (template_piece whole head (body_of ending cs))
template_cut May whole head ending cs ds within = template_keeps May whole head (length cs) (body_of ending (cs ++ ds)) (body_of ending cs) within (body_of_cut ending cs ds)
