-- Texts that are printed, and the pieces of their listings. This project's own choice.
use Rattle.std.specs.Prelude.{◌≡◌, ℕ, ◌≤◌, List, [], ◌∷◌, ◌++◌, length, flat_map, Option, Some, None, Result, Ok, Err, Vec, slice_get}
use Rattle.std.specs.declared.alloc.Global.{Global}
use Rattle.script_image.specs.declared.pieces.Piece.{Piece}
use Rattle.script_image.specs.declared.pieces.Place.{Place}
use Rattle.script_image.specs.Pieces.{IsPiece, IsTextOf, from_place, from_script}
use Rattle.session_outside.specs.declared.sink.SinkRefusal.{SinkRefusal}
use Rattle.session_outside.specs.Sink.{Gains, GainsFront}
use Rattle.session_output.specs.declared.text.ListedScript.{ListedScript}

-- the listing behind the bytes of a text, if there is one
abbrev pub listed_text : Option ListedScript → List ℕ
listed_text None = []
listed_text (Some script) = from_script script.listing script.stencil 0

-- what is listed of a script from a place on
abbrev pub left_of : ListedScript → Place → List ℕ
left_of script at = from_place script.listing script.stencil at

-- each of these is a piece of the script's listing
abbrev pub AllArePieces : ListedScript → List Piece → Type 0
AllArePieces script [] = Unit {0}
AllArePieces script (piece ∷ pieces) = IsPiece script.listing script.stencil piece.from piece.to × AllArePieces script pieces

-- the first n of these can be made
pub record CanBePrinted (script : ListedScript) (pieces : List Piece) (count : ℕ) : Type 0 where
  pub there : count ≤ length pieces
  pub each : AllArePieces script pieces

-- the text is that of the piece of this number
abbrev pub IsTextAt : ListedScript → List Piece → ℕ → List ℕ → Type 0
IsTextAt script pieces number text = (piece : Piece) → slice_get pieces number ≡ Some piece → IsTextOf script.listing script.stencil piece text

-- a text for each piece
abbrev pub AreTextsOf : ListedScript → List Piece → List (Vec ℕ Global) → Type 0
AreTextsOf script [] [] = Unit {0}
AreTextsOf script [] (text ∷ texts) = ⊥
AreTextsOf script (piece ∷ pieces) [] = ⊥
AreTextsOf script (piece ∷ pieces) (text ∷ texts) = IsTextOf script.listing script.stencil piece text.items × AreTextsOf script pieces texts

-- what a sink has taken after it was to take what is listed between two places: just that, or, after a refusal, a front of what is
-- listed from the first one on
abbrev pub GainsBetween : {T : Type 0} → ListedScript → Place → Place → Option (List ℕ) → Option (List ℕ) → Result T SinkRefusal → Type 0
GainsBetween script from to before now (Ok _) = (text : List ℕ) × (text ++ left_of script to ≡ left_of script from) × Gains before now text
GainsBetween script from to before now (Err _) = GainsFront before now (left_of script from)

-- all bytes of some texts
abbrev pub texts_in : List (Vec ℕ Global) → List ℕ
texts_in texts = flat_map (λ (text : Vec ℕ Global). text.items) texts
