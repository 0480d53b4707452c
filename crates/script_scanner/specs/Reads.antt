-- What the scanner has read, with the units in its buffer.
use Rattle.std.specs.Prelude.{◌≡◌, ℕ, List, ⊤, Option, Some, None}
use Rattle.script_scanner.specs.declared.parts.Extent.{Extent}
use Rattle.script_scanner.specs.declared.pieces.FoundToken.{FoundToken}
use Rattle.script_scanner.specs.declared.pieces.Content.{Content}
use Rattle.script_scanner.specs.declared.pieces.Content.TheVariants as content
use Rattle.script_scanner.specs.Parts.{Body}
use Rattle.script_scanner.specs.Tokens.{Piece, Value, Text, Number, Nothing}

-- The body of a string or a template part was read, with its units in the buffer, or there is none.
abbrev pub ReadsBody : Option Body → Option Extent → List ℕ → Type 0
ReadsBody None None units = ⊤
ReadsBody None (Some extent) units = ⊥
ReadsBody (Some body) None units = ⊥
ReadsBody (Some body) (Some extent) units = (units ≡ body.units) × (extent.inner ≡ body.inner) × (extent.closing ≡ body.closing)

-- What a token has is in the buffer, or beside its kind.
abbrev pub HoldsValue : Value → Content → List ℕ → Type 0
HoldsValue (Text text) content.Units units = units ≡ text
HoldsValue (Text text) (content.Number n) units = ⊥
HoldsValue (Text text) content.Nothing units = ⊥
HoldsValue (Number value) content.Units units = ⊥
HoldsValue (Number value) (content.Number n) units = n ≡ value
HoldsValue (Number value) content.Nothing units = ⊥
HoldsValue Nothing content.Units units = ⊥
HoldsValue Nothing (content.Number n) units = ⊥
HoldsValue Nothing content.Nothing units = ⊤

-- The token was found, or there is none.
abbrev pub FindsPiece : Option Piece → Option FoundToken → List ℕ → Type 0
FindsPiece None None units = ⊤
FindsPiece None (Some found) units = ⊥
FindsPiece (Some piece) None units = ⊥
FindsPiece (Some piece) (Some found) units = (found.kind ≡ piece.kind) × (found.length ≡ piece.length) × HoldsValue piece.value found.content units
