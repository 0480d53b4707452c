-- The image of what a stencil is listed as, by pieces: bytes, and texts where the items of the stencil name their numbers.
-- This project's own choice, as images are.
use Rattle.std.specs.Prelude.{ℕ, ◌+◌, ◌-◌, ◌%◌, ◌^◌, List, [], ◌∷◌, ◌++◌, length, map, flat_map, Option, Some, None}
use Rattle.stencil_data.specs.declared.chains.LinkName.{LinkName}
use Rattle.stencil_data.specs.declared.functions.Extent.{Extent}
use Rattle.stencil_data.specs.declared.stencils.TryNote.{TryNote}
use Rattle.stencil_data.specs.Named.{NamedScope, NamedFunction, NamedClosed, NamedRecord, NamedMerged}
use Rattle.stencil_data.specs.StandsFor.{text_at}
use Rattle.bytecode_buf.specs.declared.opcode.Op.{Op}
use Rattle.bytecode_buf.specs.Bytes.{le_bytes}
use Rattle.bytecode_buf.specs.Command.{Listed, Operand}
use Rattle.bytecode_buf.specs.Command as command
use Rattle.bytecode_buf.specs.Layout.{laid}
use Rattle.bytecode_buf.specs.Table.{number_of}
use Rattle.bytecode_buf.specs.Width.{width_of}
use Rattle.stencil_xdr_specs.specs.Image.{Item, Bytes, Atom, firsts, place_in, text_bytes, magic, extent, whole, maybe, function_kind}
use Rattle.stencil_xdr_specs.specs.Image.{scope_kind, bind_kind, slot_items, note_items}

-- bytes, or a text that is named
pub data Piece : Type 0 where
  Plain : List ℕ → Piece
  Text : List ℕ → Piece

-- the piece of an item, by these texts
abbrev pub piece : List (List ℕ) → Item → Piece
piece texts (Bytes bs) = Plain bs
piece texts (Atom a) = Text (text_at texts a)

-- items that name no text
abbrev pub plain : List Item → List Piece
plain is = map (piece []) is

-- ---- parts

abbrev pub list_pieces : {A : Type 0} → (A → List Piece) → List A → List Piece
list_pieces part xs = Plain (le_bytes 4 (length xs)) ∷ flat_map part xs

abbrev pub name_pieces : Option (List ℕ) → List Piece
name_pieces None = Plain (le_bytes 1 0) ∷ []
name_pieces (Some text) = Plain (le_bytes 1 1) ∷ Text text ∷ []

abbrev pub number_pieces : ℕ → List Piece
number_pieces n = plain (whole n)

abbrev pub extent_pieces : Extent → List Piece
extent_pieces e = plain (extent e)

abbrev pub note_pieces : TryNote → List Piece
note_pieces n = plain (note_items n)

-- ---- scopes

abbrev pub link_pieces : LinkName → List Piece
link_pieces l = Text l.text ∷ Plain (le_bytes 1 (bind_kind l.kind)) ∷ plain (slot_items l.slot)

abbrev pub scope_pieces : NamedScope → List Piece
scope_pieces s =
    Plain (le_bytes 1 (scope_kind s.kind)) ∷ plain (maybe whole s.parent) ++ list_pieces link_pieces s.bindings ++ number_pieces s.env_slots

-- ---- code

-- the numbers that are laid out for an operand at an offset: a jump's is its distance, modulo 2^64
abbrev pub first_number : ℕ → Operand → ℕ
first_number at command.Nothing = 0
first_number at (command.Number n) = n
first_number at (command.Text text) = 0
first_number at (command.Aliased hops slot) = hops
first_number at (command.Distance distance) = distance
first_number at (command.Target target) = (target + (2 ^ 64 - at % 2 ^ 64)) % 2 ^ 64

abbrev pub second_number : Operand → ℕ
second_number (command.Aliased hops slot) = slot
second_number _ = 0

abbrev pub command_pieces : ℕ → Op → Operand → List Piece
command_pieces at op (command.Text text) = Plain (le_bytes 1 (number_of op)) ∷ Text text ∷ []
command_pieces at op operand = Plain (laid (record { op = op; a = first_number at operand; b = second_number operand })) ∷ []

abbrev pub listed_pieces : Listed → List Piece
listed_pieces l = command_pieces l.at l.command.op l.command.operand

-- the length of the code in bytes
abbrev pub code_size : List Listed → ℕ
code_size [] = 0
code_size (l ∷ ls) = width_of l.command.op + code_size ls

abbrev pub code_pieces : List Listed → List Piece
code_pieces ls = Plain (le_bytes 8 (code_size ls)) ∷ flat_map listed_pieces ls

-- ---- functions

abbrev pub function_pieces : NamedFunction (List Listed) → List Piece
function_pieces f =
    extent_pieces f.extent ++ Plain (le_bytes 1 (function_kind f.kind)) ∷ name_pieces f.name ++ number_pieces f.params
    ++ list_pieces scope_pieces f.scopes ++ code_pieces f.code ++ list_pieces note_pieces f.notes ++ list_pieces extent_pieces f.inner

abbrev pub closed_pieces : NamedClosed → List Piece
closed_pieces c = Plain (le_bytes 4 c.scope) ∷ Text c.text ∷ []

abbrev pub record_pieces : NamedRecord → List Piece
record_pieces r =
    extent_pieces r.extent ++ Plain (le_bytes 1 (function_kind r.kind)) ∷ name_pieces r.name ++ list_pieces number_pieces r.inner
    ++ list_pieces closed_pieces r.closed

abbrev pub entry_pieces : Option (NamedFunction (List Listed)) → List Piece
entry_pieces None = Plain (le_bytes 1 0) ∷ []
entry_pieces (Some f) = Plain (le_bytes 1 1) ∷ function_pieces f

abbrev pub pieces : NamedMerged (List Listed) → List Piece
pieces n = function_pieces n.top ++ list_pieces record_pieces n.records ++ flat_map entry_pieces n.entries

-- ---- an image of pieces

abbrev pub texts_of : List Piece → List (List ℕ)
texts_of [] = []
texts_of (Plain bs ∷ ps) = texts_of ps
texts_of (Text text ∷ ps) = text ∷ texts_of ps

abbrev pub piece_bytes : List (List ℕ) → Piece → List ℕ
piece_bytes numbered (Plain bs) = bs
piece_bytes numbered (Text text) = le_bytes 4 (place_in numbered text)

-- where the texts are in this order
abbrev pub written_by : List (List ℕ) → List Piece → List ℕ
written_by numbered ps = magic ++ le_bytes 4 (length numbered) ++ flat_map text_bytes numbered ++ flat_map (piece_bytes numbered) ps

abbrev pub written : List Piece → List ℕ
written ps = written_by (firsts (texts_of ps)) ps

abbrev pub image_of : NamedMerged (List Listed) → List ℕ
image_of n = written (pieces n)
