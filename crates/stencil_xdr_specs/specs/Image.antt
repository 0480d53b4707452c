-- The image of a merged stencil: its bytes, this project's own choice. Numbers are little-endian, a list is its count in four
-- bytes and its items, a kind is the place of its variant in its enum.
--
-- The bytes after the texts are given as items, of which some name a text. The texts are numbered in the order in which
-- items name them first; equal texts are one, and a text that no item names is left out. So the bytes depend on what a
-- stencil stands for alone, and not on how its texts were numbered.
use Rattle.std.specs.Prelude.{◌≡◌, ℕ, ◌+◌, not, if◌then◌else◌, List, [], ◌∷◌, ◌++◌, length, filter, flat_map, Option, Some, None, bytes_eq}
use Rattle.stencil_data.specs.declared.functions.Extent.{Extent}
use Rattle.stencil_data.specs.declared.functions.FuncKind.{FuncKind}
use Rattle.stencil_data.specs.declared.functions.FuncKind.TheVariants as func
use Rattle.stencil_data.specs.declared.records.ClosedName.{ClosedName}
use Rattle.stencil_data.specs.declared.scopes.Binding.{Binding}
use Rattle.stencil_data.specs.declared.scopes.BindKind.{BindKind}
use Rattle.stencil_data.specs.declared.scopes.BindKind.TheVariants as bind
use Rattle.stencil_data.specs.declared.scopes.ScopeKind.{ScopeKind}
use Rattle.stencil_data.specs.declared.scopes.ScopeKind.TheVariants as scope
use Rattle.stencil_data.specs.declared.scopes.Slot.{Slot}
use Rattle.stencil_data.specs.declared.scopes.Slot.TheVariants as slot
use Rattle.stencil_data.specs.declared.stencils.Entry.{Entry}
use Rattle.stencil_data.specs.declared.stencils.Entry.TheVariants as entry
use Rattle.stencil_data.specs.declared.stencils.TryNote.{TryNote}
use Rattle.stencil_data.specs.MergedView.{MergedView}
use Rattle.stencil_data.specs.StandsFor.{text_at}
use Rattle.stencil_data.specs.Views.{ScopeView, RecordView, FunctionView}
use Rattle.bytecode_buf.specs.declared.opcode.Shape.{Shape}
use Rattle.bytecode_buf.specs.declared.opcode.Shape.TheVariants as shape
use Rattle.bytecode_buf.specs.Bytes.{le_bytes}
use Rattle.bytecode_buf.specs.InRange.{InRange}
use Rattle.bytecode_buf.specs.Layout.{Numbered, instructions, laid}
use Rattle.bytecode_buf.specs.Table.{number_of}
use Rattle.bytecode_buf.specs.Width.{shape_of}
use Rattle.stencil_xdr_specs.specs.Widths.{NumbersFit}

-- bytes, or the number of a text in four bytes
pub data Item : Type 0 where
  Bytes : List ℕ → Item
  Atom : ℕ → Item

-- ---- parts

abbrev pub number : ℕ → ℕ → Item
number width n = Bytes (le_bytes width n)

abbrev pub list : {A : Type 0} → (A → List Item) → List A → List Item
list item xs = number 4 (length xs) ∷ flat_map item xs

-- a byte that says whether there is one
abbrev pub maybe : {A : Type 0} → (A → List Item) → Option A → List Item
maybe item None = number 1 0 ∷ []
maybe item (Some x) = number 1 1 ∷ item x

abbrev pub whole : ℕ → List Item
whole n = number 4 n ∷ []

abbrev pub atom : ℕ → List Item
atom a = Atom a ∷ []

abbrev pub extent : Extent → List Item
extent e = number 4 e.start ∷ number 4 e.end ∷ []

-- ---- kinds

abbrev pub function_kind : FuncKind → ℕ
function_kind func.Declared = 0
function_kind func.Expression = 1
function_kind func.Arrow = 2
function_kind func.Method = 3
function_kind func.Getter = 4
function_kind func.Setter = 5

abbrev pub scope_kind : ScopeKind → ℕ
scope_kind scope.Global = 0
scope_kind scope.Function = 1
scope_kind scope.FunctionLexical = 2
scope_kind scope.Lexical = 3
scope_kind scope.SimpleCatch = 4
scope_kind scope.StrictNamedLambda = 5
scope_kind scope.FunctionBodyVar = 6

abbrev pub bind_kind : BindKind → ℕ
bind_kind bind.Param = 0
bind_kind bind.Var = 1
bind_kind bind.Let = 2
bind_kind bind.Const = 3
bind_kind bind.Function = 4
bind_kind bind.Catch = 5
bind_kind bind.Callee = 6
bind_kind bind.Arguments = 7
bind_kind bind.This = 8

abbrev pub slot_items : Slot → List Item
slot_items slot.Global = number 1 0 ∷ []
slot_items (slot.Arg i) = number 1 1 ∷ number 4 i ∷ []
slot_items (slot.Frame i) = number 1 2 ∷ number 4 i ∷ []
slot_items (slot.Env i) = number 1 3 ∷ number 4 i ∷ []
slot_items slot.Callee = number 1 4 ∷ []

-- ---- scopes, code and functions

abbrev pub binding_items : Binding → List Item
binding_items b = Atom b.atom ∷ number 1 (bind_kind b.kind) ∷ slot_items b.slot

abbrev pub scope_items : ScopeView → List Item
scope_items s = number 1 (scope_kind s.kind) ∷ maybe whole s.parent ++ list binding_items s.bindings ++ whole s.env_slots

-- an instruction whose operand is the number of a text names it
abbrev pub instruction_items : Shape → Numbered → List Item
instruction_items shape.Atom i = number 1 (number_of i.op) ∷ Atom i.a ∷ []
instruction_items _ i = Bytes (laid i) ∷ []

abbrev pub code_items : List ℕ → List Item
code_items code = number 8 (length code) ∷ flat_map (λ (i : Numbered). instruction_items (shape_of i.op) i) (instructions code)

abbrev pub note_items : TryNote → List Item
note_items n = number 8 n.start ∷ number 8 n.end ∷ number 4 n.depth ∷ []

abbrev pub function_items : FunctionView → List Item
function_items f =
    extent f.extent ++ number 1 (function_kind f.kind) ∷ maybe atom f.name ++ whole f.params ++ list scope_items f.scopes
    ++ code_items f.code ++ list note_items f.notes ++ list extent f.inner

abbrev pub closed_items : ClosedName → List Item
closed_items c = number 4 c.scope ∷ Atom c.atom ∷ []

abbrev pub record_items : RecordView → List Item
record_items r = extent r.extent ++ number 1 (function_kind r.kind) ∷ maybe atom r.name ++ list whole r.inner ++ list closed_items r.closed

abbrev pub entry_items : Entry → List Item
entry_items entry.Lazy = number 1 0 ∷ []
entry_items (entry.Compiled f) = number 1 1 ∷ function_items f

-- all that stands after the texts: the top, the records, and the entries without their count
abbrev pub items : MergedView → List Item
items m = function_items m.top ++ list record_items m.records ++ flat_map entry_items m.entries

-- ---- the numbers of texts

-- the texts that items name, in their order
abbrev pub named : List (List ℕ) → List Item → List (List ℕ)
named texts [] = []
named texts (Bytes bs ∷ is) = named texts is
named texts (Atom a ∷ is) = text_at texts a ∷ named texts is

-- each text at its first place alone
abbrev pub firsts : List (List ℕ) → List (List ℕ)
firsts [] = []
firsts (text ∷ texts) = text ∷ filter (λ t. not (bytes_eq t text)) (firsts texts)

-- the place of a text in a list
abbrev pub place_in : List (List ℕ) → List ℕ → ℕ
place_in [] text = 0
place_in (t ∷ ts) text = if bytes_eq t text then 0 else place_in ts text + 1

-- ---- bytes

abbrev pub item_bytes : List (List ℕ) → List (List ℕ) → Item → List ℕ
item_bytes texts numbered (Bytes bs) = bs
item_bytes texts numbered (Atom a) = le_bytes 4 (place_in numbered (text_at texts a))

abbrev pub text_bytes : List ℕ → List ℕ
text_bytes text = le_bytes 4 (length text) ++ flat_map (le_bytes 2) text

-- `STN1`
abbrev pub magic : List ℕ
magic = 83 ∷ 84 ∷ 78 ∷ 49 ∷ []

-- where the texts are in this order
abbrev pub bytes_by : List (List ℕ) → MergedView → List ℕ
bytes_by numbered m = magic ++ le_bytes 4 (length numbered) ++ flat_map text_bytes numbered ++ flat_map (item_bytes m.texts numbered) (items m)

abbrev pub image : MergedView → List ℕ
image m = bytes_by (firsts (named m.texts (items m))) m

-- bytes are the image of a stencil in range, whose numbers fit
pub record IsImageOf (m : MergedView) (bytes : List ℕ) : Type 0 where
  pub range : InRange m
  pub widths : NumbersFit m
  pub is : bytes ≡ image m
