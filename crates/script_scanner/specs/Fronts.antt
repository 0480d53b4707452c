-- What one or two code points tell of what stands at the front of a text.
use Rattle.std.specs.Prelude.{◌≡◌, ◌≢◌, ℕ, ⊤, Bool, true, false, List, [], ◌∷◌, Some, None}
use Rattle.script_grammar.specs.declared.token.Kind.TheVariants as kind
use Rattle.script_scanner.specs.declared.fronts.Front.{Front}
use Rattle.script_scanner.specs.declared.fronts.Front.TheVariants.{LineFeed, Name, Quote, Mark, Close, Other}
use Rattle.script_scanner.specs.declared.parts.Ending.TheVariants as ending
use Rattle.script_scanner.specs.declared.pieces.FoundToken.{FoundToken}
use Rattle.script_scanner.specs.declared.pieces.Content.TheVariants as content
use Rattle.script_scanner.specs.Blanks.{blank_at}
use Rattle.script_scanner.specs.Names.{is_name_start}
use Rattle.script_scanner.specs.Parts.{body_of}
use Rattle.script_scanner.specs.Tokens.{Piece, Nothing, string_piece, token_at}

-- The text begins with a code point that a name may begin with.
abbrev pub BeginsName : List ℕ → Type 0
BeginsName [] = ⊥
BeginsName (c ∷ codes) = is_name_start c ≡ true

-- The text begins with a quote, and the token there is a string that ends at this one, if it is any.
abbrev pub IsQuoted : ℕ → List ℕ → Type 0
IsQuoted quote [] = ⊥
IsQuoted quote (c ∷ codes) = (in_template : Bool) → token_at in_template (c ∷ codes) ≡ string_piece (body_of (ending.Quote quote) codes)

-- No mark of several code points has this one after its first, and neither has a comment, and it is no decimal digit.
pub record EndsMark (c : ℕ) : Type 0 where
  pub bang : c ≢ 0x21
  pub ampersand : c ≢ 0x26
  pub star : c ≢ 0x2A
  pub plus : c ≢ 0x2B
  pub minus : c ≢ 0x2D
  pub dot : c ≢ 0x2E
  pub slash : c ≢ 0x2F
  pub less : c ≢ 0x3C
  pub equals : c ≢ 0x3D
  pub greater : c ≢ 0x3E
  pub question : c ≢ 0x3F
  pub bar : c ≢ 0x7C

-- The text begins with such a code point.
abbrev pub BeginsEnded : List ℕ → Type 0
BeginsEnded [] = ⊥
BeginsEnded (c ∷ codes) = EndsMark c

-- The mark of an index as a token of one code point.
abbrev pub lone_mark : ℕ → Piece
lone_mark i = record { kind = kind.Mark i; value = Nothing; length = 1 }

-- The same as the code has it.
abbrev pub found_mark : ℕ → FoundToken
found_mark i = record { kind = kind.Mark i; content = content.Nothing; length = 1 }

-- What is told of a text's front is so.
abbrev pub StandsAt : List ℕ → Front → Type 0
StandsAt codes LineFeed = blank_at codes ≡ Some (record { length = 1; breaks = true })
StandsAt codes Name = (blank_at codes ≡ None) × BeginsName codes
StandsAt codes (Quote quote) = (blank_at codes ≡ None) × IsQuoted quote codes
StandsAt codes (Mark i) = (blank_at codes ≡ None) × ((in_template : Bool) → token_at in_template codes ≡ Some (lone_mark i))
StandsAt codes Close = (blank_at codes ≡ None) × (token_at false codes ≡ Some (lone_mark 1))
StandsAt codes Other = ⊤
