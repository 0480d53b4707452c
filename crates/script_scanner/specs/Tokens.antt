-- The tokens of a text. ECMA-262, 12th edition, clause 12: from the left, the longest token at each place.
use Rattle.std.specs.Prelude.{ℕ, zero, suc, ◌+◌, Bool, false, ◌||◌, ◌&&◌, ◌==◌, nat_le, nat_lt, List, [], ◌∷◌, map, filter, take, drop}
use Rattle.std.specs.Prelude.{length, Option, Some, None, option_map, if◌then◌else◌}
use Rattle.std.specs.Char.{is_digit}
use Rattle.script_grammar.specs.declared.token.Kind.{Kind}
use Rattle.script_grammar.specs.declared.token.Kind.TheVariants as kind
use Rattle.unit_text.specs.declared.Point.{Point}
use Rattle.unit_text.specs.Points.{code_of}
use Rattle.unit_text.specs.Units.{text_units}
use Rattle.script_scanner.specs.declared.braces.Brace.{Brace}
use Rattle.script_scanner.specs.declared.braces.Brace.TheVariants.{Block, Substitution}
use Rattle.script_scanner.specs.declared.blanks.Blank.{Blank}
use Rattle.script_scanner.specs.declared.numbers.Numeral.{Numeral}
use Rattle.script_scanner.specs.declared.parts.Ending.TheVariants.{Quote, Template}
use Rattle.script_scanner.specs.Blanks.{blank_at, first_line_length}
use Rattle.script_scanner.specs.Braces.{close_brace, open_brace, in_substitution}
use Rattle.script_scanner.specs.Marks.{Mark, mark_at}
use Rattle.script_scanner.specs.Names.{is_name_start, name_length}
use Rattle.script_scanner.specs.Numbers.{numeral_at, is_spoiled_by}
use Rattle.script_scanner.specs.Parts.{Body, body_of}
use Rattle.script_scanner.specs.Words.{word_at, word_index}

-- What a token has beside its kind: a text of 16-bit units, a number, or nothing.
pub data Value : Type 0 where
  Text : List ℕ → Value
  Number : ℕ → Value
  Nothing : Value

-- A token at the front of a text: how many code points it takes.
pub record Piece : Type 0 where
  pub kind : Kind
  pub value : Value
  pub length : ℕ

-- A name, or a word where it is one.
abbrev pub name_kind : Option ℕ → Kind
name_kind None = kind.Name
name_kind (Some i) = kind.Word i

abbrev pub name_piece : List ℕ → Piece
name_piece codes = let text = text_units (take (name_length codes) codes) in
    record { kind = name_kind (option_map word_index (word_at text)); value = Text text; length = name_length codes }

-- A number, if its value is at most 2^53 - 1 and nothing spoils it.
abbrev pub valued_piece : Option ℕ → ℕ → Option Piece
valued_piece None n = None
valued_piece (Some value) n = Some (record { kind = kind.Number; value = Number value; length = n })

abbrev pub number_piece : Numeral → List ℕ → Option Piece
number_piece numeral codes = if is_spoiled_by numeral.is_decimal (drop numeral.length codes) then None else valued_piece numeral.value numeral.length

-- A string, after its quote.
abbrev pub string_piece : Option Body → Option Piece
string_piece None = None
string_piece (Some body) = Some (record { kind = kind.Str; value = Text body.units; length = 1 + body.inner + body.closing })

-- A part of a template, after the backquote or `}` that begins it: of the one kind where a backquote ends it, of the
-- other where a `${` does.
abbrev pub template_piece : Kind → Kind → Option Body → Option Piece
template_piece whole head None = None
template_piece whole head (Some body) = Some (record {
  kind = if body.closing == 1 then whole else head;
  value = Text body.units;
  length = 1 + body.inner + body.closing;
})

abbrev pub mark_piece : Option Mark → Option Piece
mark_piece None = None
mark_piece (Some m) = Some (record { kind = kind.Mark m.index; value = Nothing; length = length m.text })

-- The longest token at the front of a text that is no blank; None where there is none. Whether the innermost open brace is
-- that of a `${` tells what a `}` is.
unfoldable pub token_at : Bool → List ℕ → Option Piece
token_at in_template [] = None
token_at in_template (c ∷ codes) = if is_name_start c then Some (name_piece (c ∷ codes))
    else (if is_digit c 10 then number_piece (numeral_at (c ∷ codes)) (c ∷ codes)
    else (if (c == 0x22) || (c == 0x27) then string_piece (body_of (Quote c) codes)
    else (if c == 0x60 then template_piece kind.TemplateWhole kind.TemplateHead (body_of Template codes)
    else (if (c == 0x7D) && in_template then template_piece kind.TemplateTail kind.TemplateMiddle (body_of Template codes)
    else mark_piece (mark_at (c ∷ codes))))))

-- The open braces after a token: the mark `{` and the end `${` open one, the mark `}`, a TemplateMiddle and a
-- TemplateTail close the innermost.
abbrev pub braces_after : List Brace → Kind → List Brace
braces_after braces (kind.Mark i) = if i == 0 then open_brace braces Block else (if i == 1 then close_brace braces else braces)
braces_after braces kind.TemplateHead = open_brace braces Substitution
braces_after braces kind.TemplateMiddle = open_brace (close_brace braces) Substitution
braces_after braces kind.TemplateTail = close_brace braces
braces_after braces _ = braces

-- A token: its kind and value, the offsets of its first byte and after its last, and whether a line end stands before it.
pub record Lexed : Type 0 where
  pub kind : Kind
  pub value : Value
  pub start : ℕ
  pub end : ℕ
  pub after_line : Bool

-- The offset at which points begin, of a part of a text that ends at `to`.
abbrev pub place : ℕ → List Point → ℕ
place to [] = to
place to (p ∷ points) = p.start

-- The last token, which takes no code point: End at the end of the text, else Bad.
abbrev pub last_token : ℕ → Bool → List Point → Lexed
last_token to after_line [] = record { kind = kind.End; value = Nothing; start = to; end = to; after_line = after_line }
last_token to after_line (p ∷ points) = record { kind = kind.Bad; value = Nothing; start = p.start; end = p.start; after_line = after_line }

-- What stands at the front of points: a blank, a token, or neither.
pub data Front : Type 0 where
  IsBlank : Blank → Front
  IsToken : Piece → Front
  IsNeither : Front

abbrev pub front_of : Option Blank → Option Piece → Front
front_of (Some blank) piece = IsBlank blank
front_of None (Some piece) = IsToken piece
front_of None None = IsNeither

abbrev pub front_at : List Brace → List Point → Front
front_at braces points = front_of (blank_at (map code_of points)) (token_at (in_substitution braces) (map code_of points))

-- The tokens of points, in n steps at most: blanks are skipped, and the longest token is taken.
abbrev pub then_tokens : ℕ → List Brace → Bool → List Point → Front → (List Brace → Bool → List Point → List Lexed) → List Lexed
then_tokens to braces after_line points (IsBlank blank) rest = rest braces (after_line || blank.breaks) (drop blank.length points)
then_tokens to braces after_line points (IsToken piece) rest =
    record { kind = piece.kind; value = piece.value; start = place to points; end = place to (drop piece.length points); after_line = after_line }
    ∷ rest (braces_after braces piece.kind) false (drop piece.length points)
then_tokens to braces after_line points IsNeither rest = last_token to after_line points ∷ []

abbrev pub tokens_within : ℕ → ℕ → List Brace → Bool → List Point → List Lexed
tokens_within zero to braces after_line points = []
tokens_within (suc fuel) to braces after_line points =
    then_tokens to braces after_line points (front_at braces points) (λ o a ps. tokens_within fuel to o a ps)

-- The points that begin from one offset on and before another.
abbrev pub part : ℕ → ℕ → List Point → List Point
part from to points = filter (λ p. nat_le from p.start && nat_lt p.start to) points

-- The points without a first line that begins with `#!`, where they begin at offset 0.
abbrev pub without_first_line : ℕ → List Point → List Point
without_first_line from points = if from == 0 then drop (first_line_length (map code_of points)) points else points

-- The tokens of the part of a text between two offsets, beginning with no open brace. Each step takes a code point.
abbrev pub tokens : List Point → ℕ → ℕ → List Lexed
tokens points from to = let text = without_first_line from (part from to points) in tokens_within (suc (length text)) to [] false text
