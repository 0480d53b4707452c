-- Items that stand together, and bytes where each text is written by its number.
use Rattle.std.specs.Prelude.{ℕ, ◌-◌, nat_lt, if◌then◌else◌, List, [], ◌∷◌, ◌++◌, length, flat_map, Option, Some, None, unwrap_or, slice_get, All}
use Rattle.stencil_data.specs.declared.functions.Extent.{Extent}
use Rattle.stencil_data.specs.declared.functions.FuncKind.{FuncKind}
use Rattle.stencil_data.specs.declared.scopes.BindKind.{BindKind}
use Rattle.stencil_data.specs.declared.scopes.ScopeKind.{ScopeKind}
use Rattle.stencil_data.specs.MergedView.{MergedView}
use Rattle.bytecode_buf.specs.Bytes.{le_bytes}
use Rattle.bytecode_buf.specs.Layout.{Numbered, instructions}
use Rattle.bytecode_buf.specs.Width.{shape_of}
use Rattle.stencil_xdr_specs.specs.Image.{Item, Bytes, Atom, number, list, maybe, atom, extent, function_kind, scope_kind, bind_kind}
use Rattle.stencil_xdr_specs.specs.Image.{instruction_items, magic, text_bytes}
use Rattle.stencil_xdr_specs.specs.Widths.{RecordFits}
use Rattle.stencil_xdr_write.specs.Whole.{stencil_items, FunctionHolds, EntryHolds}

-- ---- items

-- the kind of a slot, and its place
abbrev pub place_items : ℕ → ℕ → List Item
place_items kind place = number 1 kind ∷ number 4 place ∷ []

abbrev pub unit_items : ℕ → List Item
unit_items unit = number 2 unit ∷ []

abbrev pub text_items : List ℕ → List Item
text_items text = list unit_items text

abbrev pub function_kind_items : FuncKind → List Item
function_kind_items kind = number 1 (function_kind kind) ∷ []

abbrev pub scope_kind_items : ScopeKind → List Item
scope_kind_items kind = number 1 (scope_kind kind) ∷ []

abbrev pub bind_kind_items : BindKind → List Item
bind_kind_items kind = number 1 (bind_kind kind) ∷ []

-- what a function and its record begin with
abbrev pub head_items : Extent → FuncKind → Option ℕ → List Item
head_items e kind name = extent e ++ number 1 (function_kind kind) ∷ maybe atom name

abbrev pub numbered_items : Numbered → List Item
numbered_items i = instruction_items (shape_of i.op) i

-- the items of an instruction, where one was read
abbrev pub read_items : Option Numbered → List Item
read_items None = []
read_items (Some i) = numbered_items i

-- the items of a code after its length
abbrev pub instructions_items : List ℕ → List Item
instructions_items code = flat_map numbered_items (instructions code)

-- nothing has to fit
abbrev pub Always : {A : Type 0} → A → Type 0
Always x = Unit {0}

-- the numbers of all but the texts fit, and codes are bytes
pub record PartsFit (m : MergedView) : Type 0 where
  pub top : FunctionHolds m.top
  pub records : All RecordFits m.records
  pub entries : All EntryHolds m.entries

-- ---- bytes

-- the number that stands for an atom, 0 where there is none
abbrev pub number_or : Option (Option ℕ) → ℕ
number_or None = 0
number_or (Some number) = unwrap_or number 0

-- the place of an atom's number where n texts have their places: after them all for an atom that is no text's
abbrev pub place_of : ℕ → ℕ → ℕ
place_of count a = if nat_lt a count then a else count

abbrev pub number_at : List (Option ℕ) → ℕ → ℕ
number_at table a = number_or (slice_get table (place_of (length table - 1) a))

-- the bytes of an item where atoms are written by these numbers
abbrev pub numbered_bytes : List (Option ℕ) → Item → List ℕ
numbered_bytes table (Bytes bs) = bs
numbered_bytes table (Atom a) = le_bytes 4 (number_at table a)

-- the bytes of a stencil where the texts stand in this order, and atoms are written by these numbers
abbrev pub bytes_with : List (List ℕ) → List (Option ℕ) → MergedView → List ℕ
bytes_with texts table m = magic ++ le_bytes 4 (length texts) ++ flat_map text_bytes texts ++ flat_map (numbered_bytes table) (stencil_items m)
