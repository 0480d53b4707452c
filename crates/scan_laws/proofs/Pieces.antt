-- The token at the front of a text: its own text has no more units than the whole.
use Rattle.std.proofs.Common.{ℕ, ◌+◌, ◌≤◌, ◌≡◌, List, [], ◌∷◌, length, Bool, Option, Some, None, arith}
use Rattle.std.specs.Prelude.{◌&&◌, ◌||◌, ◌==◌}
use Rattle.std.specs.Char.{is_digit}
use Rattle.script_grammar.specs.declared.token.Kind.{Kind}
use Rattle.script_grammar.specs.declared.token.Kind.TheVariants as kind
use Rattle.unit_text.specs.Units.{code_units, text_units}
use Rattle.script_scanner.specs.declared.numbers.Numeral.{Numeral}
use Rattle.script_scanner.specs.declared.parts.Ending.TheVariants.{Quote, Template}
use Rattle.script_scanner.specs.Marks.{Mark, mark_at}
use Rattle.script_scanner.specs.Names.{is_name_start, name_length}
use Rattle.script_scanner.specs.Numbers.{numeral_at}
use Rattle.script_scanner.specs.Parts.{Body, body_of}
use Rattle.script_scanner.specs.Tokens.{Value, Text, Number, Nothing, Piece, name_piece, number_piece, valued_piece, string_piece, template_piece, mark_piece, token_at}
use Rattle.scan_laws.proofs.Units.{either, units_add, front_short}
use Rattle.scan_laws.proofs.Bodies.{BodyShort, body_short}

-- a value that is a text has n units at most
abbrev pub ValueShort : ℕ → Value → Type 0
ValueShort bound (Text units) = length units ≤ bound
ValueShort bound (Number value) = Unit {0}
ValueShort bound Nothing = Unit {0}

abbrev piece_short : ℕ → Option Piece → Type 0
piece_short bound None = Unit {0}
piece_short bound (Some piece) = ValueShort bound piece.value

pub record PieceShort (bound : ℕ) (o : Option Piece) : Type 0 where
  pub is : piece_short bound o

none_short : (bound : ℕ) → PieceShort bound None
none_short bound = record { is = tt }

name_short : (codes : List ℕ) → PieceShort (length (text_units codes)) (Some (name_piece codes))
name_short codes = record { is = front_short (name_length codes) codes }

valued_short : (bound : ℕ) (o : Option ℕ) (n : ℕ) → PieceShort bound (valued_piece o n)
valued_short bound None n = none_short bound
valued_short bound (Some value) n = record { is = tt }

number_short : (bound : ℕ) (n : Numeral) (codes : List ℕ) → PieceShort bound (number_piece n codes)
number_short bound n codes = either (PieceShort bound) _ None _ (none_short bound) (valued_short bound n.value n.length)

string_short : (room bound : ℕ) (o : Option Body) → room ≤ bound → BodyShort room o → PieceShort bound (string_piece o)
string_short room bound None le h = none_short bound
string_short room bound (Some body) le h = record { is = omega (arith, le, h) }

template_short : (room bound : ℕ) (whole head : Kind) (o : Option Body) → room ≤ bound → BodyShort room o → PieceShort bound (template_piece whole head o)
template_short room bound whole head None le h = none_short bound
template_short room bound whole head (Some body) le h = record { is = omega (arith, le, h) }

mark_short : (bound : ℕ) (o : Option Mark) → PieceShort bound (mark_piece o)
mark_short bound None = none_short bound
mark_short bound (Some m) = record { is = tt }

pub token_short : (in_template : Bool) (codes : List ℕ) → PieceShort (length (text_units codes)) (token_at in_template codes)
unfolding token_at
token_short in_template [] = none_short _
token_short in_template (c ∷ codes) =
    let all : ℕ = length (text_units (c ∷ codes)) in
    let room : ℕ = length (text_units codes) in
    let e : length (text_units (c ∷ codes)) ≡ length (code_units c) + length (text_units codes) = units_add c codes in
    let less : length (text_units codes) ≤ length (text_units (c ∷ codes)) = omega (arith, e) in
    either (PieceShort all) (is_name_start c) (Some (name_piece (c ∷ codes))) _ (name_short (c ∷ codes))
    (either (PieceShort all) (is_digit c 10) _ _ (number_short all (numeral_at (c ∷ codes)) (c ∷ codes))
    (either (PieceShort all) ((c == 0x22) || (c == 0x27)) _ _ (string_short room all (body_of (Quote c) codes) less (body_short (Quote c) codes))
    (either (PieceShort all) (c == 0x60) _ _ (template_short room all kind.TemplateWhole kind.TemplateHead (body_of Template codes) less (body_short Template codes))
    (either (PieceShort all) ((c == 0x7D) && in_template) _ _ (template_short room all kind.TemplateTail kind.TemplateMiddle (body_of Template codes) less (body_short Template codes))
    (mark_short all (mark_at (c ∷ codes)))))))
