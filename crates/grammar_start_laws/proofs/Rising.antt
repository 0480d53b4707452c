-- The tokens of a file start at rising offsets: each takes a code point, and each code point a byte.
use Rattle.std.proofs.Common.{◌≡◌, ℕ, zero, suc, ◌+◌, ◌≤◌, List, [], ◌∷◌, map, length, drop, Bool, true, false, cond, refl, arith, Option, Some, None}
use Rattle.std.specs.Prelude.{nat_lt, nat_le, ◌&&◌, ◌||◌, ◌==◌}
use Rattle.std.specs.List.{find, list_all, prefix_len}
use Rattle.std.specs.Char.{is_digit, len_utf8}
use Rattle.std.proofs.lemmas.Bool.{ltb-true, leb-true}
use Rattle.std.proofs.lemmas.Str.{len_utf8_bounds}
use Rattle.script_grammar.specs.declared.token.Kind.{Kind}
use Rattle.script_grammar.specs.declared.token.Kind.TheVariants as kind
use Rattle.unit_text.specs.declared.Point.{Point}
use Rattle.unit_text.specs.Points.{points, points_from, codes_of, code_of}
use Rattle.script_scanner.specs.declared.numbers.Numeral.{Numeral}
use Rattle.script_scanner.specs.declared.blanks.Blank.{Blank}
use Rattle.script_scanner.specs.Blanks.{blank_at, first_line_length}
use Rattle.script_scanner.specs.declared.braces.Brace.{Brace}
use Rattle.script_scanner.specs.Braces.{in_substitution}
use Rattle.script_scanner.specs.Marks.{Mark, marks, fits, mark_at, begins_no_token}
use Rattle.script_scanner.specs.Numbers.{numeral_at, after_zero, with_radix, radix_of, more_digits, zero_literal}
use Rattle.script_scanner.specs.declared.parts.Ending.TheVariants.{Quote, Template}
use Rattle.script_scanner.specs.Names.{is_name_start, is_name_part}
use Rattle.script_scanner.specs.Parts.{Body, body_of}
use Rattle.script_scanner.specs.Tokens.{Piece, Lexed, front_of, name_piece, number_piece, valued_piece, string_piece, template_piece, mark_piece, token_at, then_tokens, tokens_within, last_token, part, without_first_line}
use Rattle.script_scanner.specs.Lexemes.{lexeme_of, lexemes}
use Rattle.grammar_start_laws.specs.Own.{TokensRise}

-- what holds of both holds of the one that is chosen
either : {X : Type 0} (P : X → Type 0) (b : Bool) (x y : X) → P x → P y → P (cond b x y)
either P true x y p q = p
either P false x y p q = q

-- A token takes a code point.

one_more : (n : ℕ) → 1 ≤ 1 + n
one_more n = omega arith

three_more : (n : ℕ) → 1 ≤ 3 + n
three_more n = omega arith

two_more : (m n : ℕ) → 1 ≤ 1 + m + n
two_more m n = omega arith

abbrev takes : Option Piece → Type 0
takes None = Unit {0}
takes (Some piece) = 1 ≤ piece.length

record Takes (o : Option Piece) : Type 0 where
  is : takes o

record HasDigits (n : Numeral) : Type 0 where
  is : 1 ≤ n.length

zero_has : HasDigits zero_literal
zero_has = record { is = one_more 0 }

radix_takes : (o : Option ℕ) (codes : List ℕ) → HasDigits (with_radix o codes)
radix_takes None codes = zero_has
radix_takes (Some radix) [] = zero_has
radix_takes (Some radix) (c ∷ codes) = either HasDigits _ _ zero_literal (record { is = three_more (more_digits radix codes) }) zero_has

zero_takes : (codes : List ℕ) → HasDigits (after_zero codes)
zero_takes [] = zero_has
zero_takes (c ∷ codes) = radix_takes (radix_of c) codes

numeral_takes : (codes : List ℕ) → HasDigits (numeral_at codes)
numeral_takes [] = zero_has
numeral_takes (c ∷ codes) = either HasDigits _ (after_zero codes) _ (zero_takes codes) (record { is = one_more (more_digits 10 codes) })

none_takes : Takes None
none_takes = record { is = tt }

valued_takes : (o : Option ℕ) (n : ℕ) → 1 ≤ n → Takes (valued_piece o n)
valued_takes None n h = none_takes
valued_takes (Some value) n h = record { is = h }

number_takes : (codes : List ℕ) → Takes (number_piece (numeral_at codes) codes)
number_takes codes = either Takes _ None _ none_takes (valued_takes (numeral_at codes).value (numeral_at codes).length (numeral_takes codes).is)

string_takes : (o : Option Body) → Takes (string_piece o)
string_takes None = none_takes
string_takes (Some body) = record { is = two_more body.inner body.closing }

template_takes : (whole head : Kind) (o : Option Body) → Takes (template_piece whole head o)
template_takes whole head None = none_takes
template_takes whole head (Some body) = record { is = two_more body.inner body.closing }

abbrev has_text : Mark → Bool
has_text m = nat_le 1 (length m.text)

found_takes : (p : Mark → Bool) (ms : List Mark) → list_all has_text ms ≡ true → Takes (mark_piece (find p ms))
found_takes p [] h = none_takes
found_takes p (m ∷ ms) h = by (has_text m) refl h (found_takes p ms)
  where
    by : (a : Bool) → has_text m ≡ a → (a && list_all has_text ms) ≡ true → (list_all has_text ms ≡ true → Takes (mark_piece (find p ms))) → Takes (mark_piece (find p (m ∷ ms)))
    by true e g k = either (λ o. Takes (mark_piece o)) (p m) (Some m) (find p ms) (record { is = leb-true 1 (length m.text) e }) (k g)
    by false e g k = absurd (cc)

mark_takes : (codes : List ℕ) → Takes (mark_piece (mark_at codes))
unfolding mark_at
mark_takes codes = either (λ o. Takes (mark_piece o)) (begins_no_token codes) None (find (fits codes) marks) none_takes (found_takes (fits codes) marks refl)

token_takes : (t : Bool) (codes : List ℕ) → Takes (token_at t codes)
unfolding token_at
token_takes t [] = none_takes
token_takes t (c ∷ codes) =
    either Takes (is_name_start c) (Some (name_piece (c ∷ codes))) _ (record { is = one_more (prefix_len is_name_part codes) })
    (either Takes (is_digit c 10) _ _ (number_takes (c ∷ codes))
    (either Takes ((c == 0x22) || (c == 0x27)) _ _ (string_takes (body_of (Quote c) codes))
    (either Takes (c == 0x60) _ _ (template_takes kind.TemplateWhole kind.TemplateHead (body_of Template codes))
    (either Takes ((c == 0x7D) && t) _ _ (template_takes kind.TemplateTail kind.TemplateMiddle (body_of Template codes))
    (mark_takes (c ∷ codes))))))

-- Points whose starts rise, from this offset on.

abbrev PointsRise : ℕ → List Point → Type 0
PointsRise from [] = Unit {0}
PointsRise from (p ∷ ps) = (from ≤ p.start) × PointsRise (suc p.start) ps

points_lower : (b c : ℕ) (ps : List Point) → b ≤ c → PointsRise c ps → PointsRise b ps
points_lower b c [] le h = tt
points_lower b c (p ∷ ps) le h = (omega (arith, le, h.0), h.1)

points_rise : (at : ℕ) (codes : List ℕ) → PointsRise at (points_from at codes)
points_rise at [] = tt
points_rise at (c ∷ codes) = (omega arith, points_lower (suc at) (at + len_utf8 c) (points_from (at + len_utf8 c) codes) (let l = (len_utf8_bounds c).0 in omega (arith, l)) (points_rise (at + len_utf8 c) codes))

-- the same where they are all before the end of the text
abbrev RiseTo : ℕ → ℕ → List Point → Type 0
RiseTo to from [] = from ≤ to
RiseTo to from (p ∷ ps) = (from ≤ p.start) × RiseTo to (suc p.start) ps

rise_lower : (to b c : ℕ) (ps : List Point) → b ≤ c → RiseTo to c ps → RiseTo to b ps
rise_lower to b c [] le h = omega (arith, le, h)
rise_lower to b c (p ∷ ps) le h = (omega (arith, le, h.0), h.1)

rise_drop : (to b n : ℕ) (ps : List Point) → RiseTo to b ps → RiseTo to b (drop n ps)
rise_drop to b zero ps h = h
rise_drop to b (suc n) [] h = h
rise_drop to b (suc n) (p ∷ ps) h = rise_drop to b n ps (rise_lower to b (suc p.start) ps (omega (arith, h.0)) h.1)

part_rises : (from to b : ℕ) (ps : List Point) → b ≤ to → PointsRise b ps → RiseTo to b (part from to ps)
part_rises from to b [] le h = le
part_rises from to b (p ∷ ps) le h = by (nat_le from p.start) (nat_lt p.start to) refl (λ f. part_rises from to (suc p.start) ps f h.1) (part_rises from to b ps le (points_lower b (suc p.start) ps (omega (arith, h.0)) h.1))
  where
    by : (x y : Bool) → nat_lt p.start to ≡ y → (suc p.start ≤ to → RiseTo to (suc p.start) (part from to ps)) → RiseTo to b (part from to ps) → RiseTo to b (cond (x && y) (p ∷ part from to ps) (part from to ps))
    by true true f taken left = (h.0, taken (ltb-true p.start to f))
    by true false f taken left = left
    by false y f taken left = left

-- the tokens of such points

abbrev Rest : Type 0
Rest = List Brace → Bool → List Point → List Lexed

abbrev LexedRise : ℕ → List Lexed → Type 0
LexedRise b ts = TokensRise b (map lexeme_of ts)

last_rises : (to b : ℕ) (after : Bool) (ps : List Point) → RiseTo to b ps → LexedRise b (last_token to after ps ∷ [])
last_rises to b after [] h = (h, tt)
last_rises to b after (p ∷ ps) h = (h.0, tt)

step_rises : (to b : ℕ) (braces : List Brace) (after : Bool) (ps : List Point) (blank : Option Blank) (piece : Option Piece) (rest : Rest) → (ps ≡ [] → piece ≡ None) → Takes piece → RiseTo to b ps
    → ((o : List Brace) (a : Bool) (qs : List Point) (c : ℕ) → RiseTo to c qs → LexedRise c (rest o a qs)) → LexedRise b (then_tokens to braces after ps (front_of blank piece) rest)
step_rises to b braces after ps (Some blank) piece rest n t h k = k _ _ (drop blank.length ps) b (rise_drop to b blank.length ps h)
step_rises to b braces after ps None None rest n t h k = last_rises to b after ps h
step_rises to b braces after [] None (Some piece) rest n t h k = absurd (some (n refl))
  where
    some : ◌≡◌ {A = Option Piece} (Some piece) None → ⊥
    some e = cc
step_rises to b braces after (p ∷ ps) None (Some piece) rest n t h k = (h.0, k _ _ (drop piece.length (p ∷ ps)) (suc p.start) (behind piece.length t.is))
  where
    behind : (m : ℕ) → 1 ≤ m → RiseTo to (suc p.start) (drop m (p ∷ ps))
    behind zero le = absurd (omega (arith, le))
    behind (suc m) le = rise_drop to (suc p.start) m ps h.1

no_token : (t : Bool) (ps : List Point) → ps ≡ [] → token_at t (map code_of ps) ≡ None
unfolding token_at
no_token t [] e = refl
no_token t (p ∷ ps) e = absurd (cc)

within_rise : (fuel to b : ℕ) (braces : List Brace) (after : Bool) (ps : List Point) → RiseTo to b ps → LexedRise b (tokens_within fuel to braces after ps)
within_rise zero to b braces after ps h = tt
within_rise (suc fuel) to b braces after ps h =
    step_rises to b braces after ps (blank_at (map code_of ps)) (token_at (in_substitution braces) (map code_of ps)) (λ o a qs. tokens_within fuel to o a qs)
    (no_token (in_substitution braces) ps) (token_takes (in_substitution braces) (map code_of ps)) h (λ o a qs c r. within_rise fuel to c o a qs r)

first_line_rises : (from to b : ℕ) (ps : List Point) → RiseTo to b ps → RiseTo to b (without_first_line from ps)
first_line_rises from to b ps h = either (RiseTo to b) _ (drop (first_line_length (map code_of ps)) ps) ps (rise_drop to b (first_line_length (map code_of ps)) ps h) h

-- the tokens of a file start at rising offsets
pub lexemes_rise : (file : List ℕ) → TokensRise 0 (lexemes file)
unfolding lexemes
lexemes_rise file = within_rise (suc (length (without_first_line 0 (part 0 (length file) (points file))))) (length file) 0 [] false _ (first_line_rises 0 (length file) 0 _ (part_rises 0 (length file) 0 (points file) (omega arith) (points_rise 0 (codes_of file))))
