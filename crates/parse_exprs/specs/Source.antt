-- The lexemes that the tokens of a source are.
use Rattle.std.specs.Prelude.{ℕ, suc, ◌<◌, ◌^◌, ◌≡◌, List, [], ◌++◌, length, map, drop, Bool, true, false, slice_index_or}
use Rattle.script_grammar.specs.declared.token.Token.{Token}
use Rattle.script_grammar.specs.declared.token.Kind.{Kind}
use Rattle.script_grammar.specs.declared.token.Kind.TheVariants as kind
use Rattle.script_grammar.specs.Interpretation.{Interpretation}
use Rattle.script_grammar.specs.Lexeme.{Lexeme, lexeme_of}
use Rattle.script_grammar.specs.Matching.{kinds_of, IsMatching}
use Rattle.parse_exprs.specs.declared.source.Source.{Source}

-- the kinds of tokens whose value is an atom
abbrev pub has_atom : Kind → Bool
has_atom kind.Number = false
has_atom (kind.Mark _) = false
has_atom kind.Bad = false
has_atom kind.End = false
has_atom _ = true

abbrev pub HasAtom : Token → Type 0
HasAtom t = has_atom t.kind ≡ true → t.value < 2 ^ 32

-- the kinds of tokens that end a list of tokens
abbrev pub ends_all : Kind → Bool
ends_all kind.Bad = true
ends_all kind.End = true
ends_all _ = false

-- Tokens as a scanner gives them: they are fewer than 2^32, atoms are below 2^32, and the last token, and no other, is End or
-- Bad.
pub record IsScanned (ts : List Token) : Type 0 where
  pub few : length ts < 2 ^ 32
  pub atoms : (k : ℕ) (d : Token) → k < length ts → HasAtom (slice_index_or ts k d)
  pub inner : (k : ℕ) (d : Token) → suc k < length ts → ends_all (slice_index_or ts k d).kind ≡ false
  pub last : (k : ℕ) (d : Token) → suc k ≡ length ts → ends_all (slice_index_or ts k d).kind ≡ true

-- The tokens are those of a text up to the stop of its brackets, as a scanner gives them: they are fewer than 2^32, atoms are
-- below 2^32, and only the last token of the text is End or Bad.
pub record IsSource (s : Source) : Type 0 where
  pub few : length s.tokens.now < 2 ^ 32
  pub atoms : (k : ℕ) (d : Token) → k < length s.tokens.now → HasAtom (slice_index_or s.tokens.now k d)
  -- the tokens of the text after the stop
  pub behind : List Token
  pub matching : IsMatching (kinds_of (s.tokens.now ++ behind)) s.brackets.now
  pub stop : suc s.brackets.now.stop ≡ length s.tokens.now
  pub inner : (k : ℕ) (d : Token) → k < s.brackets.now.stop → ends_all (slice_index_or s.tokens.now k d).kind ≡ false
  pub last : (d : Token) → behind ≡ [] → ends_all (slice_index_or s.tokens.now s.brackets.now.stop d).kind ≡ true

-- the lexemes that the tokens are
abbrev pub lexemes : Source → Interpretation → List Lexeme
lexemes s i = map (lexeme_of s.get s.set i.texts) s.tokens.now

-- the lexemes from a token on
unfoldable pub front : Source → Interpretation → ℕ → List Lexeme
front s i at = drop at (lexemes s i)
