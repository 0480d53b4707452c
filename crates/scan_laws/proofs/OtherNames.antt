-- No name of a file is spelled as the name by which a use of `this` goes: that one begins with a other stop, and no name does.
use Rattle.std.proofs.Common.{◌≡◌, ℕ, zero, suc, ◌+◌, List, [], ◌∷◌, ◌++◌, map, length, take, Bool, true, false, cond, codes, Option, Some, None, refl, sym, ap, subst, ◌∙◌, true≢false, arith}
use Rattle.std.proofs.lemmas.Bool.{cond_both}
use Rattle.std.specs.Prelude.{nat_le, ◌&&◌, ◌||◌, ◌==◌}
use Rattle.std.specs.List.{prefix_len}
use Rattle.std.specs.Char.{is_digit}
use Rattle.script_grammar.specs.declared.token.Kind.TheVariants as kind
use Rattle.unicode_ident.proofs.Computing.{unicode_ident}
use Rattle.unit_text.specs.declared.Point.{Point}
use Rattle.unit_text.specs.Points.{points, code_of}
use Rattle.unit_text.specs.Units.{code_units, text_units}
use Rattle.script_scanner.specs.declared.numbers.Numeral.{Numeral}
use Rattle.script_scanner.specs.declared.blanks.Blank.{Blank}
use Rattle.script_scanner.specs.Blanks.{blank_at}
use Rattle.script_scanner.specs.declared.braces.Brace.{Brace}
use Rattle.script_scanner.specs.Braces.{in_substitution}
use Rattle.script_scanner.specs.Marks.{Mark, mark_at}
use Rattle.script_scanner.specs.Numbers.{numeral_at}
use Rattle.script_scanner.specs.declared.parts.Ending.TheVariants.{Quote, Template}
use Rattle.script_scanner.specs.Names.{is_name_start, is_name_part}
use Rattle.script_scanner.specs.Parts.{Body, body_of}
use Rattle.script_scanner.specs.Tokens.{Piece, Lexed, Text, front_of, name_piece, number_piece, valued_piece, string_piece, template_piece, mark_piece, token_at, then_tokens, tokens_within, last_token, part, without_first_line}
use Rattle.script_scanner.specs.Lexemes.{lexeme_of, lexemes, text_in}
use Rattle.script_grammar.specs.NameTokens.{OfEachNameToken, IsNotThis}

-- what holds of both holds of the one that is chosen
either : {X : Type 0} (P : X → Type 0) (b : Bool) (x y : X) → P x → P y → P (cond b x y)
either P true x y p q = p
either P false x y p q = q

-- a token that is a name is another one
abbrev other : Option Piece → Type 0
other None = Unit {0}
other (Some piece) = piece.kind ≡ kind.Name → IsNotThis (text_in piece.value)

record IsOther (o : Option Piece) : Type 0 where
  is : other o

none_other : IsOther None
none_other = record { is = tt }

-- what begins with another unit
first_unit : (c : ℕ) (us : List ℕ) → (c ≡ 0x2E → ⊥) → IsNotThis (c ∷ us)
first_unit c us h e = h (heads e) where
  heads : c ∷ us ≡ codes ".this" → c ≡ 0x2E
  heads e = cc

units_of : (b : Bool) (c high low : ℕ) (us : List ℕ) → (c ≡ 0x2E → ⊥) → (high ≡ 0x2E → ⊥) → IsNotThis ((cond b (c ∷ []) (high ∷ low ∷ [])) ++ us)
units_of true c high low us h k = first_unit c us h
units_of false c high low us h k = first_unit high (low ∷ us) k

name_units : (c : ℕ) (us : List ℕ) → (c ≡ 0x2E → ⊥) → IsNotThis (code_units c ++ us)
name_units c us h = units_of (nat_le c 0xFFFF) c _ _ us h (λ e. omega (arith, e))

full_stop : is_name_start 0x2E ≡ false
unfolding unicode_ident
full_stop = refl

no_full_stop : (c : ℕ) → is_name_start c ≡ true → c ≡ 0x2E → ⊥
no_full_stop c h e = true≢false (sym h ∙ (ap is_name_start e ∙ full_stop))

name_other : (c : ℕ) (codes : List ℕ) → is_name_start c ≡ true → IsOther (Some (name_piece (c ∷ codes)))
name_other c codes h = record { is = λ e. by (prefix_len is_name_part codes) (1 + prefix_len is_name_part codes) (omega arith) }
  where
    by : (n m : ℕ) → m ≡ suc n → IsNotThis (text_units (take m (c ∷ codes)))
    by n m e = subst (λ (k : ℕ). IsNotThis (text_units (take k (c ∷ codes)))) (sym e) (name_units c (text_units (take n codes)) (no_full_stop c h))

valued_other : (o : Option ℕ) (n : ℕ) → IsOther (valued_piece o n)
valued_other None n = none_other
valued_other (Some value) n = record { is = λ e. absurd (cc) }

number_other : (n : Numeral) (codes : List ℕ) → IsOther (number_piece n codes)
number_other n codes = either IsOther _ None _ none_other (valued_other n.value n.length)

string_other : (o : Option Body) → IsOther (string_piece o)
string_other None = none_other
string_other (Some body) = record { is = λ e. absurd (cc) }

whole_other : (o : Option Body) → IsOther (template_piece kind.TemplateWhole kind.TemplateHead o)
whole_other None = none_other
whole_other (Some body) = by (body.closing == 1)
  where
    by : (b : Bool) → IsOther (Some (record { kind = cond b kind.TemplateWhole kind.TemplateHead; value = Text body.units; length = 1 + body.inner + body.closing }))
    by true = record { is = λ e. absurd (cc) }
    by false = record { is = λ e. absurd (cc) }

tail_other : (o : Option Body) → IsOther (template_piece kind.TemplateTail kind.TemplateMiddle o)
tail_other None = none_other
tail_other (Some body) = by (body.closing == 1)
  where
    by : (b : Bool) → IsOther (Some (record { kind = cond b kind.TemplateTail kind.TemplateMiddle; value = Text body.units; length = 1 + body.inner + body.closing }))
    by true = record { is = λ e. absurd (cc) }
    by false = record { is = λ e. absurd (cc) }

mark_other : (o : Option Mark) → IsOther (mark_piece o)
mark_other None = none_other
mark_other (Some m) = record { is = λ e. absurd (cc) }

token_other : (t : Bool) (codes : List ℕ) → IsOther (token_at t codes)
unfolding token_at
token_other t [] = none_other
token_other t (c ∷ codes) =
    cond_both (is_name_start c) (Some (name_piece (c ∷ codes))) _ IsOther (name_other c codes) (λ e.
    (either IsOther (is_digit c 10) _ _ (number_other (numeral_at (c ∷ codes)) (c ∷ codes))
    (either IsOther ((c == 0x22) || (c == 0x27)) _ _ (string_other (body_of (Quote c) codes))
    (either IsOther (c == 0x60) _ _ (whole_other (body_of Template codes))
    (either IsOther ((c == 0x7D) && t) _ _ (tail_other (body_of Template codes))
    (mark_other (mark_at (c ∷ codes))))))))

-- the tokens of points

abbrev LexedOther : List Lexed → Type 0
LexedOther ts = OfEachNameToken IsNotThis (map lexeme_of ts)

last_other : (to : ℕ) (after : Bool) (ps : List Point) → LexedOther (last_token to after ps ∷ [])
last_other to after [] = (λ e. absurd (cc), tt)
last_other to after (p ∷ ps) = (λ e. absurd (cc), tt)

step_other : (to : ℕ) (braces : List Brace) (after : Bool) (ps : List Point) (blank : Option Blank) (piece : Option Piece) (rest : List Brace → Bool → List Point → List Lexed) → IsOther piece
    → ((o : List Brace) (a : Bool) (qs : List Point) → LexedOther (rest o a qs)) → LexedOther (then_tokens to braces after ps (front_of blank piece) rest)
step_other to braces after ps (Some blank) piece rest h k = k _ _ _
step_other to braces after ps None (Some piece) rest h k = (h.is, k _ _ _)
step_other to braces after ps None None rest h k = last_other to after ps

within_other : (fuel to : ℕ) (braces : List Brace) (after : Bool) (ps : List Point) → LexedOther (tokens_within fuel to braces after ps)
within_other zero to braces after ps = tt
within_other (suc fuel) to braces after ps =
    step_other to braces after ps (blank_at (map code_of ps)) (token_at (in_substitution braces) (map code_of ps)) (λ o a qs. tokens_within fuel to o a qs)
    (token_other (in_substitution braces) (map code_of ps)) (λ o a qs. within_other fuel to o a qs)

-- no token of a file that is a name is spelled so
pub names_are_others : (file : List ℕ) → OfEachNameToken IsNotThis (lexemes file)
unfolding lexemes
names_are_others file = within_other (suc (length (without_first_line 0 (part 0 (length file) (points file))))) (length file) [] false (without_first_line 0 (part 0 (length file) (points file)))
