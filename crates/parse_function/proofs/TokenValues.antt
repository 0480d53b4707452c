-- A token's kind says whether its value is a text. So tokens of one kind and one text have one value.
use Rattle.std.proofs.Common.{◌≡◌, ℕ, zero, suc, ◌+◌, List, [], ◌∷◌, ◌++◌, map, length, take, Bool, true, false, cond, Option, Some, None, refl, sym, ap, subst, ◌∙◌, inl, inr, option_map}
use Rattle.std.specs.Prelude.{◌⊎◌, ◌&&◌, ◌||◌, ◌==◌}
use Rattle.std.specs.List.{AllByRecursion}
use Rattle.std.specs.Char.{is_digit}
use Rattle.script_grammar.specs.declared.token.Kind.{Kind}
use Rattle.script_grammar.specs.declared.token.Kind.TheVariants as kind
use Rattle.script_grammar.specs.Lexeme.{Lexeme}
use Rattle.unit_text.specs.declared.Point.{Point}
use Rattle.unit_text.specs.Points.{code_of}
use Rattle.unit_text.specs.Units.{text_units}
use Rattle.script_scanner.specs.declared.blanks.Blank.{Blank}
use Rattle.script_scanner.specs.declared.braces.Brace.{Brace}
use Rattle.script_scanner.specs.declared.numbers.Numeral.{Numeral}
use Rattle.script_scanner.specs.declared.parts.Ending.TheVariants.{Quote, Template}
use Rattle.script_scanner.specs.Blanks.{blank_at}
use Rattle.script_scanner.specs.Braces.{in_substitution}
use Rattle.script_scanner.specs.Lexemes.{lexeme_of, text_in}
use Rattle.script_scanner.specs.Marks.{Mark, mark_at}
use Rattle.script_scanner.specs.Names.{is_name_start, name_length}
use Rattle.script_scanner.specs.Numbers.{numeral_at}
use Rattle.script_scanner.specs.Parts.{Body, body_of}
use Rattle.script_scanner.specs.Words.{word_at, word_index}
use Rattle.script_scanner.specs.Stands.{IsValueAmong}
use Rattle.script_scanner.specs.Tokens.{Value, Text, Number, Nothing, Piece, Lexed, front_of, name_kind, name_piece, number_piece, valued_piece, string_piece, template_piece, mark_piece, token_at, then_tokens, tokens_within, last_token, part, without_first_line, tokens}

-- the value of a token of this kind is a text
abbrev pub has_text : Kind → Bool
has_text (kind.Mark i) = false
has_text kind.Number = false
has_text kind.End = false
has_text kind.Bad = false
has_text _ = true

abbrev pub Suits : Bool → Value → Type 0
Suits true (Text units) = Unit {0}
Suits true (Number n) = ⊥
Suits true Nothing = ⊥
Suits false (Text units) = ⊥
Suits false (Number n) = Unit {0}
Suits false Nothing = Unit {0}

-- ---- one token

abbrev suited : Option Piece → Type 0
suited None = Unit {0}
suited (Some piece) = Suits (has_text piece.kind) piece.value

record IsSuited (o : Option Piece) : Type 0 where
  is : suited o

-- what holds of both holds of the one that is chosen
either : {X : Type 0} (P : X → Type 0) (b : Bool) (x y : X) → P x → P y → P (cond b x y)
either P true x y p q = p
either P false x y p q = q

none_suited : IsSuited None
none_suited = record { is = tt }

name_suited : (codes : List ℕ) → IsSuited (Some (name_piece codes))
name_suited codes = record { is = by (option_map word_index (word_at (text_units (take (name_length codes) codes)))) }
  where
    by : (o : Option ℕ) → Suits (has_text (name_kind o)) (Text (text_units (take (name_length codes) codes)))
    by None = tt
    by (Some i) = tt

valued_suited : (o : Option ℕ) (n : ℕ) → IsSuited (valued_piece o n)
valued_suited None n = none_suited
valued_suited (Some value) n = record { is = tt }

number_suited : (n : Numeral) (codes : List ℕ) → IsSuited (number_piece n codes)
number_suited n codes = either IsSuited _ None _ none_suited (valued_suited n.value n.length)

string_suited : (o : Option Body) → IsSuited (string_piece o)
string_suited None = none_suited
string_suited (Some body) = record { is = tt }

whole_suited : (o : Option Body) → IsSuited (template_piece kind.TemplateWhole kind.TemplateHead o)
whole_suited None = none_suited
whole_suited (Some body) = by (body.closing == 1)
  where
    by : (b : Bool) → IsSuited (Some (record { kind = cond b kind.TemplateWhole kind.TemplateHead; value = Text body.units; length = 1 + body.inner + body.closing }))
    by true = record { is = tt }
    by false = record { is = tt }

tail_suited : (o : Option Body) → IsSuited (template_piece kind.TemplateTail kind.TemplateMiddle o)
tail_suited None = none_suited
tail_suited (Some body) = by (body.closing == 1)
  where
    by : (b : Bool) → IsSuited (Some (record { kind = cond b kind.TemplateTail kind.TemplateMiddle; value = Text body.units; length = 1 + body.inner + body.closing }))
    by true = record { is = tt }
    by false = record { is = tt }

mark_suited : (o : Option Mark) → IsSuited (mark_piece o)
mark_suited None = none_suited
mark_suited (Some m) = record { is = tt }

token_suited : (t : Bool) (codes : List ℕ) → IsSuited (token_at t codes)
unfolding token_at
token_suited t [] = none_suited
token_suited t (c ∷ codes) =
    either IsSuited (is_name_start c) _ _ (name_suited (c ∷ codes))
    (either IsSuited (is_digit c 10) _ _ (number_suited (numeral_at (c ∷ codes)) (c ∷ codes))
    (either IsSuited ((c == 0x22) || (c == 0x27)) _ _ (string_suited (body_of (Quote c) codes))
    (either IsSuited (c == 0x60) _ _ (whole_suited (body_of Template codes))
    (either IsSuited ((c == 0x7D) && t) _ _ (tail_suited (body_of Template codes))
    (mark_suited (mark_at (c ∷ codes)))))))

-- ---- the tokens of points

abbrev pub AllSuited : List Lexed → Type 0
AllSuited ts = AllByRecursion (λ (t : Lexed). Suits (has_text t.kind) t.value) ts

last_suited : (to : ℕ) (after : Bool) (ps : List Point) → AllSuited (last_token to after ps ∷ [])
last_suited to after [] = (tt, tt)
last_suited to after (p ∷ ps) = (tt, tt)

step_suited : (to : ℕ) (braces : List Brace) (after : Bool) (ps : List Point) (blank : Option Blank) (piece : Option Piece) (rest : List Brace → Bool → List Point → List Lexed) → IsSuited piece
    → ((o : List Brace) (a : Bool) (qs : List Point) → AllSuited (rest o a qs)) → AllSuited (then_tokens to braces after ps (front_of blank piece) rest)
step_suited to braces after ps (Some blank) piece rest h k = k _ _ _
step_suited to braces after ps None (Some piece) rest h k = (h.is, k _ _ _)
step_suited to braces after ps None None rest h k = last_suited to after ps

within_suited : (fuel to : ℕ) (braces : List Brace) (after : Bool) (ps : List Point) → AllSuited (tokens_within fuel to braces after ps)
within_suited zero to braces after ps = tt
within_suited (suc fuel) to braces after ps =
    step_suited to braces after ps (blank_at (map code_of ps)) (token_at (in_substitution braces) (map code_of ps)) (λ o a qs. tokens_within fuel to o a qs)
    (token_suited (in_substitution braces) (map code_of ps)) (λ o a qs. within_suited fuel to o a qs)

pub tokens_suited : (ps : List Point) (from to : ℕ) → AllSuited (tokens ps from to)
tokens_suited ps from to = within_suited (suc (length (without_first_line from (part from to ps)))) to [] false (without_first_line from (part from to ps))

-- ---- a text by the kind of its token

-- one of these lexemes has this kind and this text
abbrev pub IsAmong : Kind → List ℕ → List Lexeme → Type 0
IsAmong k text [] = ⊥
IsAmong k text (l ∷ ls) = ((l.kind ≡ k) × (l.text ≡ text)) ⊎ IsAmong k text ls

-- it has a text
pub record HasValue (text : List ℕ) (ls : List Lexeme) : Type 0 where
  pub kind : Kind
  pub texted : has_text kind ≡ true
  pub among : IsAmong kind text ls

texted_by : (b : Bool) (v : Value) (text : List ℕ) → Suits b v → v ≡ Text text → b ≡ true
texted_by true v text h e = refl
texted_by false (Text units) text h e = absurd h
texted_by false (Number n) text h e = absurd (cc)
texted_by false Nothing text h e = absurd (cc)

among_at : (before : List Lexed) (t : Lexed) (after : List Lexed) (text : List ℕ) → t.value ≡ Text text → IsAmong t.kind text (map lexeme_of (before ++ t ∷ after))
among_at [] t after text e = inl (refl, ap text_in e)
among_at (b ∷ before) t after text e = inr (among_at before t after text e)

middle : (before : List Lexed) (t : Lexed) (after : List Lexed) → AllSuited (before ++ t ∷ after) → Suits (has_text t.kind) t.value
middle [] t after h = h.0
middle (b ∷ before) t after h = middle before t after h.1

-- the value of a token is the text of its lexeme
pub value_among : (ts : List Lexed) (text : List ℕ) → AllSuited ts → IsValueAmong ts text → HasValue text (map lexeme_of ts)
value_among ts text h v = record {
  kind = v.1.kind;
  texted = texted_by (has_text v.1.kind) v.1.value text (middle v.0 v.1 v.2 (subst AllSuited v.3 h)) v.4;
  among = subst (λ (us : List Lexed). IsAmong v.1.kind text (map lexeme_of us)) (sym v.3) (among_at v.0 v.1 v.2 text v.4);
}

value_by : (v : Value) (text : List ℕ) → Suits true v → text_in v ≡ text → v ≡ Text text
value_by (Text units) text h e = ap Text e
value_by (Number n) text h e = absurd h
value_by Nothing text h e = absurd h

-- and the text of such a lexeme is the value of a token
pub among_value : (k : Kind) (text : List ℕ) (ts : List Lexed) → has_text k ≡ true → AllSuited ts → IsAmong k text (map lexeme_of ts) → IsValueAmong ts text
among_value k text [] e h a = absurd a
among_value k text (t ∷ ts) e h (inl a) = ([], t, ts, refl, value_by t.value text (subst (λ (b : Bool). Suits b t.value) (ap has_text a.0 ∙ e) h.0) a.1)
among_value k text (t ∷ ts) e h (inr a) = let r = among_value k text ts e h.1 a in (t ∷ r.0, r.1, r.2, ap (λ (us : List Lexed). t ∷ us) r.3, r.4)

-- ---- lexemes beside others

pub among_left : (k : Kind) (text : List ℕ) (xs ys : List Lexeme) → IsAmong k text xs → IsAmong k text (xs ++ ys)
among_left k text [] ys a = absurd a
among_left k text (x ∷ xs) ys (inl a) = inl a
among_left k text (x ∷ xs) ys (inr a) = inr (among_left k text xs ys a)

pub among_right : (k : Kind) (text : List ℕ) (xs ys : List Lexeme) → IsAmong k text ys → IsAmong k text (xs ++ ys)
among_right k text [] ys a = a
among_right k text (x ∷ xs) ys a = inr (among_right k text xs ys a)

pub among_either : (k : Kind) (text : List ℕ) (xs ys : List Lexeme) → IsAmong k text (xs ++ ys) → IsAmong k text xs ⊎ IsAmong k text ys
among_either k text [] ys a = inr a
among_either k text (x ∷ xs) ys (inl a) = inl (inl a)
among_either k text (x ∷ xs) ys (inr a) = elim (among_either k text xs ys a) [ inl b ↦ inl (inr b) | inr b ↦ inr b ]
