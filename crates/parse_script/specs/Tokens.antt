-- The tokens of a file as the grammar of scripts sees them.
use Rattle.std.specs.Prelude.{ℕ, true, ◌≡◌, ◌≤◌, List, map, length, ◌<◌, ◌^◌, IsUtf8}
use Rattle.std.specs.List.{AllByRecursion}
use Rattle.script_grammar.specs.declared.token.Token.{Token}
use Rattle.script_grammar.specs.Lexeme.{Lexeme, lexeme_of}
use Rattle.script_grammar.specs.Matching.{IsMatching, kinds_of}
use Rattle.parser_atoms.specs.Places.{AreWithoutEquals}
use Rattle.script_scanner.specs.Lexemes.{lexemes}
use Rattle.script_scanner.specs.Stands.{HasOneLast}
use Rattle.bytecode_buf.specs.InRange.{TextsSmall}
use Rattle.grammar_start_laws.specs.Own.{TokensRise}
use Rattle.script_grammar.specs.NameTokens.{NamesAreFull}
use Rattle.parse_exprs.specs.Source.{has_atom, IsScanned}
use Rattle.track_atoms.specs.Known.{HasWords, known_atoms}
use Rattle.parse_script.specs.declared.file_tokens.FileTokens.{FileTokens}

abbrev pub tokens_in : FileTokens → List Lexeme
tokens_in file = map (lexeme_of file.known.get file.known.set file.texts.items) file.tokens.items

-- the atom that the token has, if it is of a kind that has one, is the index of one of n texts
abbrev pub AtomWithin : ℕ → Token → Type 0
AtomWithin count t = has_atom t.kind ≡ true → t.value < count

-- What is known of the tokens of a file: as many as a parser takes, the last of them End or Bad and no other, from rising
-- offsets on, without empty names; the brackets are those of them that match; the texts are fewer than 2^31, each of fewer than
-- 2^32 units, and have no equals, each atom of a token is the index of one of them, and the known words are the first of them.
pub record IsSound (file : FileTokens) : Type 0 where
  pub scanned : IsScanned file.tokens.items
  pub last : HasOneLast file.tokens.items
  pub matched : IsMatching (kinds_of file.tokens.items) file.brackets
  pub rise : TokensRise 0 (tokens_in file)
  pub names : NamesAreFull (tokens_in file)
  pub apart : AreWithoutEquals file.texts.items
  pub few : length file.texts.items < 2 ^ 31
  pub small : TextsSmall file.texts.items
  pub atoms : AllByRecursion (AtomWithin (length file.texts.items)) file.tokens.items
  pub words : HasWords file.texts.items file.known
  pub fixed : file.known ≡ known_atoms

-- The bytes are UTF-8 and as many as this, which is within the limit of a file, and these are their tokens.
pub record AreTokensOf (file : FileTokens) (size : ℕ) (bytes : List ℕ) : Type 0 where
  pub utf8 : IsUtf8 bytes
  pub tokens : tokens_in file ≡ lexemes bytes
  pub long : size ≡ length bytes
  pub short : length bytes ≤ 16777215
