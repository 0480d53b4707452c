-- Steps of the scan of a string or a template part: how many code points one takes, and when it is the same in another text.
use Rattle.std.proofs.Common.{◌≡◌, ℕ, suc, ◌+◌, ◌-◌, ◌<◌, ◌≤◌, List, [], ◌∷◌, ◌++◌, length, take, drop, Bool, true, false, cond, refl, ◌∙◌, ap, subst, arith, Option, Some, None, length-drop}
use Rattle.std.specs.Prelude.{◌&&◌, ◌||◌, ◌==◌, not, nat_lt, nat_le, option_map}
use Rattle.std.specs.Char.{is_digit}
use Rattle.std.specs.List.{prefix_len}
use Rattle.unit_text.specs.Units.{code_units}
use Rattle.script_scanner.specs.declared.escapes.Step.{Step}
use Rattle.script_scanner.specs.declared.escapes.Step.TheVariants.{Add, Skip, Close, Break}
use Rattle.script_scanner.specs.declared.parts.Ending.{Ending}
use Rattle.script_scanner.specs.declared.parts.Ending.TheVariants.{Quote, Template}
use Rattle.script_scanner.specs.Blanks.{is_line_end, begins, line_end_length}
use Rattle.script_scanner.specs.Escapes.{is_hex_digit, begins_with_digit, hex_byte, two_bytes, hex_unit, value_step, code_point_step, braced_step, unicode_step, single_escape, escape_step}
use Rattle.script_scanner.specs.Numbers.{digits_value}
use Rattle.script_scanner.specs.Parts.{Body, behind, then_body, string_step, template_step, step_at}
use Rattle.scan_laws.proofs.CutBlanks.{begins_long}

-- A step takes n code points at least and m at most.

abbrev pub StepWithin : ℕ → ℕ → Step → Type 0
StepWithin low high (Add code n) = (low ≤ n) × (n ≤ high)
StepWithin low high (Skip n) = (low ≤ n) × (n ≤ high)
StepWithin low high (Close n) = (low ≤ n) × (n ≤ high)
StepWithin low high Break = Unit {0}

lower : (low less high : ℕ) (s : Step) → less ≤ low → StepWithin low high s → StepWithin less high s
lower low less high (Add code n) le h = (omega (arith, le, h.0), h.1)
lower low less high (Skip n) le h = (omega (arith, le, h.0), h.1)
lower low less high (Close n) le h = (omega (arith, le, h.0), h.1)
lower low less high Break le h = tt

either_within : (low high : ℕ) (b : Bool) (s t : Step) → StepWithin low high s → StepWithin low high t → StepWithin low high (cond b s t)
either_within low high true s t h k = h
either_within low high false s t h k = k

value_within : (low high : ℕ) (o : Option ℕ) (n : ℕ) → low ≤ n → ((v : ℕ) → o ≡ Some v → n ≤ high) → StepWithin low high (value_step o n)
value_within low high None n le k = tt
value_within low high (Some value) n le k = (le, k value refl)

hex_byte_long : (codes : List ℕ) (v : ℕ) → hex_byte codes ≡ Some v → 2 ≤ length codes
hex_byte_long [] v e = absurd (cc)
hex_byte_long (c ∷ []) v e = absurd (cc)
hex_byte_long (c ∷ d ∷ codes) v e = omega arith

hex_unit_long : (codes : List ℕ) (v : ℕ) → hex_unit codes ≡ Some v → 4 ≤ length codes
hex_unit_long codes v e = by (hex_byte codes) (hex_byte (drop 2 codes)) refl refl e
  where
    by : (high low : Option ℕ) → hex_byte codes ≡ high → hex_byte (drop 2 codes) ≡ low → two_bytes high low ≡ Some v → 4 ≤ length codes
    by None low f g h = absurd (cc)
    by (Some high) None f g h = absurd (cc)
    by (Some high) (Some low) f g h =
        let front : 2 ≤ length codes = hex_byte_long codes high f in
        let back : 2 ≤ length (drop 2 codes) = hex_byte_long (drop 2 codes) low g in
        let size : length (drop 2 codes) ≡ length codes - 2 = length-drop 2 codes in
        omega (arith, front, back, size)

code_point_within : (low high : ℕ) (o : Option ℕ) (n : ℕ) → (low ≤ n) × (n ≤ high) → StepWithin low high (code_point_step o n)
code_point_within low high None n h = tt
code_point_within low high (Some value) n h = either_within low high (nat_le value 0x10_FFFF) (Add value n) Break h tt

braced_within : (codes : List ℕ) → StepWithin 4 (3 + length codes) (braced_step codes)
braced_within codes = by (nat_lt 0 (prefix_len is_hex_digit codes)) (begins (0x7D ∷ []) (drop (prefix_len is_hex_digit codes) codes)) refl
  where
    by : (x y : Bool) → begins (0x7D ∷ []) (drop (prefix_len is_hex_digit codes) codes) ≡ y
        → StepWithin 4 (3 + length codes) (cond (x && y) (code_point_step (digits_value 16 (take (prefix_len is_hex_digit codes) codes)) (4 + prefix_len is_hex_digit codes)) Break)
    by false y e = tt
    by true false e = tt
    by true true e =
        let some : 1 ≤ length (drop (prefix_len is_hex_digit codes) codes) = begins_long (0x7D ∷ []) (drop (prefix_len is_hex_digit codes) codes) e in
        let size : length (drop (prefix_len is_hex_digit codes) codes) ≡ length codes - prefix_len is_hex_digit codes = length-drop (prefix_len is_hex_digit codes) codes in
        code_point_within 4 (3 + length codes) (digits_value 16 (take (prefix_len is_hex_digit codes) codes)) (4 + prefix_len is_hex_digit codes) (omega arith, omega (arith, some, size))

pub unicode_within : (codes : List ℕ) → StepWithin 4 (2 + length codes) (unicode_step codes)
unicode_within [] = tt
unicode_within (c ∷ codes) = either_within 4 (2 + suc (length codes)) ((c == 0x7B) && true) (braced_step codes) (value_step (hex_unit (c ∷ codes)) 6) (same (3 + length codes) (2 + suc (length codes)) (omega arith) (braced_within codes))
    (value_within 4 (2 + suc (length codes)) (hex_unit (c ∷ codes)) 6 (omega arith) (λ v e. let h : 4 ≤ suc (length codes) = hex_unit_long (c ∷ codes) v e in omega (arith, h)))
  where
    same : (m n : ℕ) → m ≡ n → StepWithin 4 m (braced_step codes) → StepWithin 4 n (braced_step codes)
    same m n e h = subst (λ k. StepWithin 4 k (braced_step codes)) e h

line_end_within : (c : ℕ) (codes : List ℕ) → (1 ≤ line_end_length (c ∷ codes)) × (line_end_length (c ∷ codes) ≤ suc (length codes))
line_end_within c [] = (omega arith, omega arith)
line_end_within c (d ∷ codes) = by ((c == 0xD) && (d == 0xA))
  where
    by : (b : Bool) → (1 ≤ cond b 2 1) × (cond b 2 1 ≤ suc (suc (length codes)))
    by true = (omega arith, omega arith)
    by false = (omega arith, omega arith)

-- what is after a `\` takes one more, with it
pub escape_within : (codes : List ℕ) → StepWithin 2 (suc (length codes)) (escape_step codes)
escape_within [] = tt
escape_within (c ∷ codes) =
    either_within 2 (suc (suc (length codes))) (is_line_end c) (Skip (1 + line_end_length (c ∷ codes))) _
    (let h : (1 ≤ line_end_length (c ∷ codes)) × (line_end_length (c ∷ codes) ≤ suc (length codes)) = line_end_within c codes in (omega (arith, h.0), omega (arith, h.1)))
    (either_within 2 (suc (suc (length codes))) (is_digit c 10) _ _ (either_within 2 (suc (suc (length codes))) ((c == 0x30) && not (begins_with_digit codes)) (Add 0 2) Break (omega arith, omega arith) tt)
    (either_within 2 (suc (suc (length codes))) (c == 0x78) (value_step (hex_byte codes) 4) _ (value_within 2 (suc (suc (length codes))) (hex_byte codes) 4 (omega arith) (λ v e. let h : 2 ≤ length codes = hex_byte_long codes v e in omega (arith, h)))
    (either_within 2 (suc (suc (length codes))) (c == 0x75) (unicode_step codes) (Add (single_escape c) 2)
    (lower 4 2 (suc (suc (length codes))) (unicode_step codes) (omega arith) (subst (λ n. StepWithin 4 n (unicode_step codes)) (two_more (length codes)) (unicode_within codes))) (omega arith, omega arith))))
  where
    two_more : (n : ℕ) → 2 + n ≡ suc (suc n)
    two_more n = omega arith

pub string_within : (quote : ℕ) (codes : List ℕ) → StepWithin 1 (length codes) (string_step quote codes)
string_within quote [] = tt
string_within quote (c ∷ codes) =
    either_within 1 (suc (length codes)) (c == quote) (Close 1) _ (omega arith, omega arith)
    (either_within 1 (suc (length codes)) (c == 0x5C) (escape_step codes) _ (lower 2 1 (suc (length codes)) (escape_step codes) (omega arith) (escape_within codes))
    (either_within 1 (suc (length codes)) ((c == 0xA) || (c == 0xD)) Break (Add c 1) tt (omega arith, omega arith)))

pub template_within : (codes : List ℕ) → StepWithin 1 (length codes) (template_step codes)
template_within [] = tt
template_within (c ∷ codes) =
    either_within 1 (suc (length codes)) (c == 0x60) (Close 1) _ (omega arith, omega arith)
    (dollar (c == 0x24) (begins (0x7B ∷ []) codes) _ refl
    (either_within 1 (suc (length codes)) (c == 0x5C) (escape_step codes) _ (lower 2 1 (suc (length codes)) (escape_step codes) (omega arith) (escape_within codes))
    (either_within 1 (suc (length codes)) (c == 0xD) (Add 0xA (line_end_length (c ∷ codes))) (Add c 1) (line_end_within c codes) (omega arith, omega arith))))
  where
    dollar : (x y : Bool) (s : Step) → begins (0x7B ∷ []) codes ≡ y → StepWithin 1 (suc (length codes)) s → StepWithin 1 (suc (length codes)) (cond (x && y) (Close 2) s)
    dollar false y s e h = h
    dollar true false s e h = h
    dollar true true s e h = let some : 1 ≤ length codes = begins_long (0x7B ∷ []) codes e in (omega arith, omega (arith, some))

pub step_within : (ending : Ending) (codes : List ℕ) → StepWithin 1 (length codes) (step_at ending codes)
step_within (Quote quote) codes = string_within quote codes
step_within Template codes = template_within codes

-- A step that ends in front of where two texts differ is the same in both.

abbrev pub StepSame : ℕ → Step → Step → Type 0
StepSame room (Add code n) there = n ≤ room → there ≡ Add code n
StepSame room (Skip n) there = n ≤ room → there ≡ Skip n
StepSame room (Close n) there = n ≤ room → there ≡ Close n
StepSame room Break there = Unit {0}

pub step_short : (low high room : ℕ) (s there : Step) → room < low → StepWithin low high s → StepSame room s there
step_short low high room (Add code n) there lt h = λ le. absurd (omega (arith, lt, h.0, le))
step_short low high room (Skip n) there lt h = λ le. absurd (omega (arith, lt, h.0, le))
step_short low high room (Close n) there lt h = λ le. absurd (omega (arith, lt, h.0, le))
step_short low high room Break there lt h = tt

pub step_self : (room : ℕ) (s : Step) → StepSame room s s
step_self room (Add code n) = λ le. refl
step_self room (Skip n) = λ le. refl
step_self room (Close n) = λ le. refl
step_self room Break = tt

pub same_either : (room : ℕ) (b : Bool) (s t s_there t_there : Step) → StepSame room s s_there → StepSame room t t_there → StepSame room (cond b s t) (cond b s_there t_there)
same_either room true s t s_there t_there h k = h
same_either room false s t s_there t_there h k = k

pub value_same : (room : ℕ) (o there : Option ℕ) (n : ℕ) → (n ≤ room → there ≡ o) → StepSame room (value_step o n) (value_step there n)
value_same room None there n k = tt
value_same room (Some value) there n k = λ le. ap (λ (x : Option ℕ). value_step x n) (k le)

pub hex_byte_cut : (cs ds : List ℕ) → 2 ≤ length cs → hex_byte cs ≡ hex_byte (cs ++ ds)
hex_byte_cut [] ds le = absurd (omega (arith, le))
hex_byte_cut (c ∷ []) ds le = absurd (omega (arith, le))
hex_byte_cut (c ∷ d ∷ cs) ds le = refl

pub hex_unit_cut : (cs ds : List ℕ) → 4 ≤ length cs → hex_unit cs ≡ hex_unit (cs ++ ds)
hex_unit_cut [] ds le = absurd (omega (arith, le))
hex_unit_cut (a ∷ []) ds le = absurd (omega (arith, le))
hex_unit_cut (a ∷ b ∷ cs) ds le = ap (two_bytes (hex_byte (a ∷ b ∷ []))) (hex_byte_cut cs ds (omega (arith, le)))

pub code_point_same : (room : ℕ) (o : Option ℕ) (n : ℕ) (there : Step) → (n ≤ room → there ≡ code_point_step o n) → StepSame room (code_point_step o n) there
code_point_same room None n there k = tt
code_point_same room (Some value) n there k = by (nat_le value 0x10_FFFF) k
  where
    by : (b : Bool) → (n ≤ room → there ≡ cond b (Add value n) Break) → StepSame room (cond b (Add value n) Break) there
    by true h = h
    by false h = tt

-- Scans to the closing mark, of which each ends in front of that place, are the same.

abbrev pub BodySame : ℕ → Option Body → Option Body → Type 0
BodySame room None there = Unit {0}
BodySame room (Some b) there = b.inner + b.closing ≤ room → there ≡ Some b

behind_same : (units : List ℕ) (n room : ℕ) (o there : Option Body) (all : Option Body) → (n ≤ room → all ≡ option_map (behind units n) there) → (n ≤ room → BodySame (room - n) o there) → BodySame room (option_map (behind units n) o) all
behind_same units n room None there all e k = tt
behind_same units n room (Some b) there all e k = λ le. let within : n ≤ room = omega (arith, le) in
    e within ∙ ap (option_map (behind units n)) (k within (omega (arith, le)))

pub then_same : (room : ℕ) (s s_there : Step) (rest rest_there : ℕ → Option Body) (high : ℕ) → StepWithin 1 high s → StepSame room s s_there → ((n : ℕ) → 1 ≤ n → n ≤ room → BodySame (room - n) (rest n) (rest_there n))
    → BodySame room (then_body s rest) (then_body s_there rest_there)
then_same room (Add code n) s_there rest rest_there high h e k = behind_same (code_units code) n room (rest n) (rest_there n) (then_body s_there rest_there) (λ le. ap (λ (s : Step). then_body s rest_there) (e le)) (λ le. k n h.0 le)
then_same room (Skip n) s_there rest rest_there high h e k = behind_same [] n room (rest n) (rest_there n) (then_body s_there rest_there) (λ le. ap (λ (s : Step). then_body s rest_there) (e le)) (λ le. k n h.0 le)
then_same room (Close n) s_there rest rest_there high h e k = λ le. ap (λ (s : Step). then_body s rest_there) (e (omega (arith, le)))
then_same room Break s_there rest rest_there high h e k = tt
