-- A name or a string at the front of a text, whose own text has an atom already.
use Rattle.std.specs.Prelude.{◌≡◌, ℕ, ◌<◌, Bool, false, List, [], ◌∷◌, ◌++◌, drop, slice_get, Some}
use Rattle.script_grammar.specs.declared.token.Token.{Token}
use Rattle.unit_text.specs.declared.Point.{Point}
use Rattle.script_scanner.specs.declared.braces.Brace.{Brace}
use Rattle.script_scanner.specs.declared.known.KnownToken.{KnownToken}
use Rattle.script_scanner.specs.declared.scanning.Scanner.{Scanner}
use Rattle.script_scanner.specs.Tokens.{Piece, Text, token_at, place, braces_after}

-- The token of this text.
abbrev pub known_piece : KnownToken → List ℕ → Piece
known_piece known text = record { kind = known.kind; value = Text text; length = known.length }

-- It is the longest token at the front, it opens and closes no brace, and its text stands among the texts at this atom.
pub record IsKnown (texts : List (List ℕ)) (codes : List ℕ) (known : KnownToken) : Type 0 where
  pub text : List ℕ
  pub token : (in_template : Bool) → token_at in_template codes ≡ Some (known_piece known text)
  pub bare : (braces : List Brace) → braces_after braces known.kind ≡ braces
  pub positive : 0 < known.length
  pub stands : slice_get texts known.atom ≡ Some text

-- It is the last token now, with its atom and its places, and the braces are as before.
pub record TakesKnown (to : ℕ) (rest : List Point) (known : KnownToken) (before now : Scanner) : Type 0 where
  pub token : Token
  pub appended : now.tokens.items ≡ before.tokens.items ++ token ∷ []
  pub kind : token.kind ≡ known.kind
  pub value : token.value ≡ known.atom
  pub start : token.start ≡ place to rest
  pub end : token.end ≡ place to (drop known.length rest)
  pub after_line : token.after_line ≡ before.after_line
  pub braces : now.braces.items ≡ before.braces.items
  pub line_before : now.after_line ≡ false
