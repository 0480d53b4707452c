-- Which kinds the tokens at the front of a text have, and which values with them.
use Rattle.std.proofs.Common.{◌≡◌, ℕ, List, [], ◌∷◌, Bool, true, false, cond, refl, subst}
use Rattle.std.specs.Prelude.{Option, Some, None, ◌==◌, ◌||◌, ◌&&◌, drop, option_map, take}
use Rattle.std.specs.Char.{is_digit}
use Rattle.script_grammar.specs.declared.token.Kind.{Kind}
use Rattle.script_grammar.specs.declared.token.Kind.TheVariants as kind
use Rattle.unit_text.specs.Units.{text_units}
use Rattle.script_scanner.specs.declared.parts.Ending.TheVariants.{Quote, Template}
use Rattle.script_scanner.specs.declared.numbers.Numeral.{Numeral}
use Rattle.script_scanner.specs.Marks.{Mark, mark_at}
use Rattle.script_scanner.specs.Names.{is_name_start, name_length}
use Rattle.script_scanner.specs.Numbers.{numeral_at, is_spoiled_by}
use Rattle.script_scanner.specs.Parts.{Body, body_of}
use Rattle.script_scanner.specs.Stands.{is_last}
use Rattle.script_scanner.specs.Words.{word_at, word_index}
use Rattle.script_scanner.specs.Tokens.{Value, Text, Number, Nothing, Piece, name_kind, name_piece, number_piece, valued_piece, string_piece, template_piece, mark_piece, token_at}

abbrev pub IsText : Value → Type 0
IsText (Text units) = Unit {0}
IsText (Number n) = ⊥
IsText Nothing = ⊥

abbrev pub IsNumber : Value → Type 0
IsNumber (Text units) = ⊥
IsNumber (Number n) = Unit {0}
IsNumber Nothing = ⊥

abbrev pub IsNothing : Value → Type 0
IsNothing (Text units) = ⊥
IsNothing (Number n) = ⊥
IsNothing Nothing = Unit {0}

-- a token of this kind that takes code points has such a value
abbrev pub Suits : Kind → Value → Type 0
Suits kind.Name v = IsText v
Suits kind.Number v = IsNumber v
Suits kind.Str v = IsText v
Suits kind.TemplateWhole v = IsText v
Suits kind.TemplateHead v = IsText v
Suits kind.TemplateMiddle v = IsText v
Suits kind.TemplateTail v = IsText v
Suits (kind.Word i) v = IsText v
Suits (kind.Mark i) v = IsNothing v
Suits kind.Bad v = ⊥
Suits kind.End v = ⊥

abbrev pub PieceSuits : Option Piece → Type 0
PieceSuits None = Unit {0}
PieceSuits (Some p) = Suits p.kind p.value

either_suits : (b : Bool) (o p : Option Piece) → PieceSuits o → PieceSuits p → PieceSuits (cond b o p)
either_suits true o p h k = h
either_suits false o p h k = k

name_suits : (o : Option ℕ) (units : List ℕ) → Suits (name_kind o) (Text units)
name_suits None units = tt
name_suits (Some i) units = tt

valued_suits : (o : Option ℕ) (n : ℕ) → PieceSuits (valued_piece o n)
valued_suits None n = tt
valued_suits (Some value) n = tt

number_suits : (n : Numeral) (codes : List ℕ) → PieceSuits (number_piece n codes)
number_suits n codes = either_suits (is_spoiled_by n.is_decimal (drop n.length codes)) None (valued_piece n.value n.length) tt (valued_suits n.value n.length)

string_suits : (o : Option Body) → PieceSuits (string_piece o)
string_suits None = tt
string_suits (Some body) = tt

either_kind : (b : Bool) (k j : Kind) (units : List ℕ) → Suits k (Text units) → Suits j (Text units) → Suits (cond b k j) (Text units)
either_kind true k j units h l = h
either_kind false k j units h l = l

template_suits : (k j : Kind) (o : Option Body) → ((units : List ℕ) → Suits k (Text units)) → ((units : List ℕ) → Suits j (Text units)) → PieceSuits (template_piece k j o)
template_suits k j None h l = tt
template_suits k j (Some body) h l = either_kind (body.closing == 1) k j body.units (h body.units) (l body.units)

mark_suits : (o : Option Mark) → PieceSuits (mark_piece o)
mark_suits None = tt
mark_suits (Some m) = tt

pub token_suits : (in_template : Bool) (codes : List ℕ) → PieceSuits (token_at in_template codes)
unfolding token_at
token_suits in_template [] = tt
token_suits in_template (c ∷ codes) =
    either_suits (is_name_start c) (Some (name_piece (c ∷ codes))) _ (name_suits (option_map word_index (word_at (text_units (take (name_length (c ∷ codes)) (c ∷ codes))))) (text_units (take (name_length (c ∷ codes)) (c ∷ codes))))
    (either_suits (is_digit c 10) (number_piece (numeral_at (c ∷ codes)) (c ∷ codes)) _ (number_suits (numeral_at (c ∷ codes)) (c ∷ codes))
    (either_suits ((c == 0x22) || (c == 0x27)) (string_piece (body_of (Quote c) codes)) _ (string_suits (body_of (Quote c) codes))
    (either_suits (c == 0x60) (template_piece kind.TemplateWhole kind.TemplateHead (body_of Template codes)) _ (template_suits kind.TemplateWhole kind.TemplateHead (body_of Template codes) (λ units. tt) (λ units. tt))
    (either_suits ((c == 0x7D) && in_template) (template_piece kind.TemplateTail kind.TemplateMiddle (body_of Template codes)) (mark_piece (mark_at (c ∷ codes)))
    (template_suits kind.TemplateTail kind.TemplateMiddle (body_of Template codes) (λ units. tt) (λ units. tt)) (mark_suits (mark_at (c ∷ codes)))))))

no_last : (k : Kind) (v : Value) → Suits k v → is_last k ≡ false
no_last kind.Name v h = refl
no_last kind.Number v h = refl
no_last kind.Str v h = refl
no_last kind.TemplateWhole v h = refl
no_last kind.TemplateHead v h = refl
no_last kind.TemplateMiddle v h = refl
no_last kind.TemplateTail v h = refl
no_last (kind.Word i) v h = refl
no_last (kind.Mark i) v h = refl
no_last kind.Bad v h = absurd h
no_last kind.End v h = absurd h

-- no token that takes code points is the last
pub piece_no_last : (in_template : Bool) (codes : List ℕ) (p : Piece) → token_at in_template codes ≡ Some p → is_last p.kind ≡ false
piece_no_last in_template codes p is = no_last p.kind p.value (subst PieceSuits is (token_suits in_template codes))
