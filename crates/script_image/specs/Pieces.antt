-- The listing of a merged stencil in pieces, one after another. This project's own choice.
use Rattle.std.specs.Prelude.{◌≡◌, ℕ, zero, suc, ◌+◌, ◌-◌, ◌<◌, ◌≤◌, List, [], ◌∷◌, ◌++◌, length, map, drop, flat_map, min, Option, Some}
use Rattle.std.specs.Prelude.{None, slice_get}
use Rattle.stencil_data.specs.declared.stencils.Entry.{Entry}
use Rattle.stencil_data.specs.declared.stencils.Entry.TheVariants as entry
use Rattle.stencil_data.specs.MergedView.{MergedView}
use Rattle.stencil_data.specs.StandsFor.{named_record}
use Rattle.stencil_data.specs.Views.{FunctionView}
use Rattle.stencil_data.specs.Named.{NamedFunction}
use Rattle.bytecode_buf.specs.Command.{Listed, listed_from}
use Rattle.bytecode_buf.specs.Layout.{Numbered, decoded, instructions_within}
use Rattle.bytecode_buf.specs.Width.{width_of}
use Rattle.script_image.specs.CodeLines.{listing, note_line}
use Rattle.script_image.specs.Listed.{listed_entry, listed_stencil}
use Rattle.script_image.specs.ScriptLines.{function_line, scripts_from, text_of, top_line}
use Rattle.script_image.specs.declared.pieces.Piece.{Piece}
use Rattle.script_image.specs.declared.pieces.Place.{Place}
use Rattle.script_image.specs.declared.pieces.Place.TheVariants as place
use Rattle.script_image.specs.declared.script_lines.Listing.{Listing}
use Rattle.script_image.specs.declared.script_lines.Listing.TheVariants as of
use Rattle.script_image.specs.Listings.{lines_of}

-- how many scripts there are, the file's own part among them
abbrev pub script_count : MergedView → ℕ
script_count merged = min (length merged.records) (length merged.entries) + 1

-- the lines of all scripts from that of this number on; script 0 is the file's own part
abbrev pub from_script : Listing → MergedView → ℕ → List ℕ
from_script listing merged zero = text_of (lines_of listing) (listed_stencil merged)
from_script listing merged (suc number) =
    scripts_from (lines_of listing) (suc number) (map (named_record merged.texts) (drop number merged.records))
    (map (listed_entry merged.texts) (drop number merged.entries))

-- ---- inside the code of one script

abbrev pub compiled_of : Option Entry → Option FunctionView
compiled_of None = None
compiled_of (Some entry.Lazy) = None
compiled_of (Some (entry.Compiled part)) = Some part

-- the compiled script of this number
abbrev pub part_at : MergedView → ℕ → Option FunctionView
part_at merged zero = Some merged.top
part_at merged (suc number) = compiled_of (slice_get merged.entries number)

-- the line over what is listed of it
abbrev pub header_line : ℕ → NamedFunction (List Listed) → List ℕ
header_line zero part = top_line part.extent
header_line (suc number) part = function_line (suc number) part

-- the instructions of a code from an offset on, after n of them
abbrev pub left_from : List ℕ → ℕ → ℕ → List Numbered
left_from code at turn = instructions_within (length code - turn) (drop at code)

-- the offset behind an instruction that is read, if one is
abbrev pub behind : Option Numbered → ℕ → (ℕ → ℕ) → ℕ
behind None at goes_on = at
behind (Some i) at goes_on = goes_on (at + width_of i.op)

-- the offset behind n instructions, or behind all that are read
abbrev pub walked : List ℕ → ℕ → ℕ → ℕ
walked code at zero = at
walked code at (suc n) = behind (decoded (drop at code)) at (λ next. walked code next n)

-- what is listed of a script's code from an offset on, after n instructions of it
abbrev pub left_in : List (List ℕ) → Option FunctionView → ℕ → ℕ → List ℕ
left_in texts None at turn = []
left_in texts (Some part) at turn = listing (listed_from texts at (left_from part.code at turn)) ++ flat_map note_line part.notes

-- ---- places and pieces

-- what is listed from a place on
abbrev pub from_place : Listing → MergedView → Place → List ℕ
from_place listing merged (place.Before number) = from_script listing merged number
from_place listing merged (place.Within number at turn) = left_in merged.texts (part_at merged number) at turn
    ++ from_script listing merged (suc number)

-- a compiled script whose code has at least n bytes
abbrev pub HasCode : Option FunctionView → ℕ → Type 0
HasCode None turn = ⊥
HasCode (Some part) turn = turn ≤ length part.code

-- the offsets are those before and behind some of its instructions
abbrev pub Walks : Option FunctionView → (at turn at' turn' : ℕ) → Type 0
Walks None at turn at' turn' = ⊥
Walks (Some part) at turn at' turn' = (turn ≤ turn') × (turn' ≤ length part.code) × (at' ≡ walked part.code at (turn' - turn))

-- There is a piece from the one place to the other: it has whole scripts, or some lines of one script's code.
abbrev pub IsPiece : Listing → MergedView → Place → Place → Type 0
IsPiece listing merged (place.Before number) (place.Before number') = (number ≤ number') × (number' ≤ script_count merged)
IsPiece listing merged (place.Before number) (place.Within number' at turn) = (listing ≡ of.Code) × (number ≡ number') × (at ≡ 0)
    × (turn ≡ 0) × (number < script_count merged) × HasCode (part_at merged number) 0
IsPiece listing merged (place.Within number at turn) (place.Before number') = (listing ≡ of.Code) × (suc number ≡ number')
    × HasCode (part_at merged number) turn
IsPiece listing merged (place.Within number at turn) (place.Within number' at' turn') = (listing ≡ of.Code) × (number ≡ number')
    × Walks (part_at merged number) at turn at' turn'

-- these pieces lead from the one place to the other
abbrev pub Lead : Listing → MergedView → Place → List Piece → Place → Type 0
Lead listing merged from [] to = from ≡ to
Lead listing merged from (piece ∷ pieces) to = (from ≡ piece.from) × IsPiece listing merged piece.from piece.to
    × Lead listing merged piece.to pieces to

-- they are all of the listing
abbrev pub ArePieces : Listing → MergedView → List Piece → Type 0
ArePieces listing merged pieces = Lead listing merged (place.Before 0) pieces (place.Before (script_count merged))

-- the text is that of this piece: what is listed from its end on is left
abbrev pub IsTextOf : Listing → MergedView → Piece → List ℕ → Type 0
IsTextOf listing merged piece text = text ++ from_place listing merged piece.to ≡ from_place listing merged piece.from
