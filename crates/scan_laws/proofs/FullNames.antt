-- No name of a file is empty: a name takes a code point, and each code point has a unit.
use Rattle.std.proofs.Common.{◌≡◌, ◌≢◌, ℕ, zero, suc, ◌+◌, List, [], ◌∷◌, ◌++◌, map, length, take, Bool, true, false, cond, Option, Some, None, sym, subst, arith}
use Rattle.std.specs.Prelude.{nat_le, ◌&&◌, ◌||◌, ◌==◌}
use Rattle.std.specs.List.{prefix_len}
use Rattle.std.specs.Char.{is_digit}
use Rattle.script_grammar.specs.declared.token.Kind.TheVariants as kind
use Rattle.unit_text.specs.declared.Point.{Point}
use Rattle.unit_text.specs.Points.{points, code_of}
use Rattle.unit_text.specs.Units.{code_units, text_units}
use Rattle.script_scanner.specs.declared.numbers.Numeral.{Numeral}
use Rattle.script_scanner.specs.declared.blanks.Blank.{Blank}
use Rattle.script_scanner.specs.Blanks.{blank_at}
use Rattle.script_scanner.specs.declared.braces.Brace.{Brace}
use Rattle.script_scanner.specs.Braces.{in_substitution}
use Rattle.script_scanner.specs.Marks.{Mark, mark_at}
use Rattle.script_scanner.specs.Numbers.{numeral_at}
use Rattle.script_scanner.specs.declared.parts.Ending.TheVariants.{Quote, Template}
use Rattle.script_scanner.specs.Names.{is_name_start, is_name_part}
use Rattle.script_scanner.specs.Parts.{Body, body_of}
use Rattle.script_scanner.specs.Tokens.{Piece, Lexed, Text, front_of, name_piece, number_piece, valued_piece, string_piece, template_piece, mark_piece, token_at, then_tokens, tokens_within, last_token, part, without_first_line}
use Rattle.script_scanner.specs.Lexemes.{lexeme_of, lexemes, text_in}
use Rattle.script_grammar.specs.NameTokens.{NamesAreFull}

-- what holds of both holds of the one that is chosen
either : {X : Type 0} (P : X → Type 0) (b : Bool) (x y : X) → P x → P y → P (cond b x y)
either P true x y p q = p
either P false x y p q = q

-- a token that is a name has a unit
abbrev full : Option Piece → Type 0
full None = Unit {0}
full (Some piece) = piece.kind ≡ kind.Name → text_in piece.value ≢ []

record IsFull (o : Option Piece) : Type 0 where
  is : full o

none_full : IsFull None
none_full = record { is = tt }

some_of : (b : Bool) (c high low : ℕ) (us : List ℕ) → (cond b (c ∷ []) (high ∷ low ∷ [])) ++ us ≢ []
some_of true c high low us e = cc
some_of false c high low us e = cc

some_units : (c : ℕ) (us : List ℕ) → code_units c ++ us ≢ []
some_units c us = some_of (nat_le c 0xFFFF) c _ _ us

name_full : (c : ℕ) (codes : List ℕ) → IsFull (Some (name_piece (c ∷ codes)))
name_full c codes = record { is = λ e. by (prefix_len is_name_part codes) (1 + prefix_len is_name_part codes) (omega arith) }
  where
    by : (n m : ℕ) → m ≡ suc n → text_units (take m (c ∷ codes)) ≢ []
    by n m e = subst (λ (k : ℕ). text_units (take k (c ∷ codes)) ≢ []) (sym e) (some_units c (text_units (take n codes)))

valued_full : (o : Option ℕ) (n : ℕ) → IsFull (valued_piece o n)
valued_full None n = none_full
valued_full (Some value) n = record { is = λ e. absurd (cc) }

number_full : (n : Numeral) (codes : List ℕ) → IsFull (number_piece n codes)
number_full n codes = either IsFull _ None _ none_full (valued_full n.value n.length)

string_full : (o : Option Body) → IsFull (string_piece o)
string_full None = none_full
string_full (Some body) = record { is = λ e. absurd (cc) }

whole_full : (o : Option Body) → IsFull (template_piece kind.TemplateWhole kind.TemplateHead o)
whole_full None = none_full
whole_full (Some body) = by (body.closing == 1)
  where
    by : (b : Bool) → IsFull (Some (record { kind = cond b kind.TemplateWhole kind.TemplateHead; value = Text body.units; length = 1 + body.inner + body.closing }))
    by true = record { is = λ e. absurd (cc) }
    by false = record { is = λ e. absurd (cc) }

tail_full : (o : Option Body) → IsFull (template_piece kind.TemplateTail kind.TemplateMiddle o)
tail_full None = none_full
tail_full (Some body) = by (body.closing == 1)
  where
    by : (b : Bool) → IsFull (Some (record { kind = cond b kind.TemplateTail kind.TemplateMiddle; value = Text body.units; length = 1 + body.inner + body.closing }))
    by true = record { is = λ e. absurd (cc) }
    by false = record { is = λ e. absurd (cc) }

mark_full : (o : Option Mark) → IsFull (mark_piece o)
mark_full None = none_full
mark_full (Some m) = record { is = λ e. absurd (cc) }

token_full : (t : Bool) (codes : List ℕ) → IsFull (token_at t codes)
unfolding token_at
token_full t [] = none_full
token_full t (c ∷ codes) =
    either IsFull (is_name_start c) (Some (name_piece (c ∷ codes))) _ (name_full c codes)
    (either IsFull (is_digit c 10) _ _ (number_full (numeral_at (c ∷ codes)) (c ∷ codes))
    (either IsFull ((c == 0x22) || (c == 0x27)) _ _ (string_full (body_of (Quote c) codes))
    (either IsFull (c == 0x60) _ _ (whole_full (body_of Template codes))
    (either IsFull ((c == 0x7D) && t) _ _ (tail_full (body_of Template codes))
    (mark_full (mark_at (c ∷ codes)))))))

-- the tokens of points

abbrev LexedFull : List Lexed → Type 0
LexedFull ts = NamesAreFull (map lexeme_of ts)

last_full : (to : ℕ) (after : Bool) (ps : List Point) → LexedFull (last_token to after ps ∷ [])
last_full to after [] = (λ e. absurd (cc), tt)
last_full to after (p ∷ ps) = (λ e. absurd (cc), tt)

step_full : (to : ℕ) (braces : List Brace) (after : Bool) (ps : List Point) (blank : Option Blank) (piece : Option Piece) (rest : List Brace → Bool → List Point → List Lexed) → IsFull piece
    → ((o : List Brace) (a : Bool) (qs : List Point) → LexedFull (rest o a qs)) → LexedFull (then_tokens to braces after ps (front_of blank piece) rest)
step_full to braces after ps (Some blank) piece rest h k = k _ _ _
step_full to braces after ps None (Some piece) rest h k = (h.is, k _ _ _)
step_full to braces after ps None None rest h k = last_full to after ps

within_full : (fuel to : ℕ) (braces : List Brace) (after : Bool) (ps : List Point) → LexedFull (tokens_within fuel to braces after ps)
within_full zero to braces after ps = tt
within_full (suc fuel) to braces after ps =
    step_full to braces after ps (blank_at (map code_of ps)) (token_at (in_substitution braces) (map code_of ps)) (λ o a qs. tokens_within fuel to o a qs)
    (token_full (in_substitution braces) (map code_of ps)) (λ o a qs. within_full fuel to o a qs)

-- no token of a file that is a name is empty
pub names_are_full : (file : List ℕ) → NamesAreFull (lexemes file)
unfolding lexemes
names_are_full file = within_full (suc (length (without_first_line 0 (part 0 (length file) (points file))))) (length file) [] false (without_first_line 0 (part 0 (length file) (points file)))
