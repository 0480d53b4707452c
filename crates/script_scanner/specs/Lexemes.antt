-- The tokens of a text as the grammar of scripts sees them: each with its text, its number and its role (ECMA-262, 12th
-- edition, clause 12).
use Rattle.std.specs.Prelude.{ℕ, List, [], map, length}
use Rattle.unit_text.specs.Points.{points}
use Rattle.script_grammar.specs.Lexeme.{Lexeme, role_of}
use Rattle.script_scanner.specs.Tokens.{Value, Text, Number, Nothing, Lexed, tokens}

-- the text that a value is, else nothing; the number that it is, else 0
abbrev pub text_in : Value → List ℕ
text_in (Text units) = units
text_in (Number n) = []
text_in Nothing = []

abbrev pub number_in : Value → ℕ
number_in (Text units) = 0
number_in (Number n) = n
number_in Nothing = 0

-- a token of the lexical grammar as one of the grammar of scripts
abbrev pub lexeme_of : Lexed → Lexeme
lexeme_of t = record {
  kind = t.kind;
  text = text_in t.value;
  number = number_in t.value;
  role = role_of t.kind (text_in t.value);
  start = t.start;
  end = t.end;
  after_line = t.after_line;
}

-- the tokens of a file of these bytes, the last of them End or Bad
unfoldable pub lexemes : List ℕ → List Lexeme
lexemes file = map lexeme_of (tokens (points file) 0 (length file))
