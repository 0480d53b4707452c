-- What a script is as a value of JSON. The names of members are this project's own choice; a member is put in at the place that the order
-- of the bytes of the names gives it.
use Rattle.std.specs.Prelude.{◌≡◌, ◌++◌, ℕ, ◌+◌, Bool, true, false, List, [], ◌∷◌, length, map, slice_get}
use Rattle.std.specs.Prelude.{Option, Some, None, option_map, unwrap_or, if◌then◌else◌, codes}
use Rattle.std.specs.Prelude.{encode_utf8_all}
use Rattle.std.specs.Char.Utf16.{has_unpaired_surrogate, utf16_lossy_chars}
use Rattle.std.specs.Fmt.{decimal}
use Rattle.serde_json.specs.Data.{Data, Members, null, boolean, string, array, object, no_members, put}
use Rattle.serde_json.specs.Read.{read}
use Rattle.serde_json.specs.View.{items_of}
use Rattle.serde_json.specs.Written.{compact_text}
use Rattle.stencil_data.specs.declared.chains.LinkName.{LinkName}
use Rattle.stencil_data.specs.declared.functions.Extent.{Extent}
use Rattle.stencil_data.specs.declared.functions.FuncKind.{FuncKind}
use Rattle.stencil_data.specs.declared.functions.FuncKind.TheVariants as kind
use Rattle.stencil_data.specs.declared.scopes.Slot.{Slot}
use Rattle.stencil_data.specs.declared.scopes.Slot.TheVariants as slot
use Rattle.stencil_data.specs.declared.stencils.TryNote.{TryNote}
use Rattle.stencil_data.specs.Named.{NamedScope, NamedFunction, NamedClosed, NamedRecord, NamedMerged}
use Rattle.stencil_data.specs.StandsFor.{named_closed, text_at}
use Rattle.bytecode_buf.specs.declared.opcode.Op.{Op}
use Rattle.bytecode_buf.specs.declared.opcode.Op.TheVariants as op
use Rattle.bytecode_buf.specs.Command.{Operand, Nothing, Number, Text, Aliased, Distance, Target, Listed}
use Rattle.script_image.specs.OpNames.{name_of}
use Rattle.script_image.specs.ScopeLines.{binding_name, scope_name}
use Rattle.script_image.specs.declared.script_lines.Listing.{Listing}
use Rattle.script_image.specs.declared.script_lines.Listing.TheVariants as of
use Rattle.holzikra_json.specs.Lines.{whole, whole_or_null, file_members}
use Rattle.holzikra_names.specs.declared.source.Spot.{Spot}
use Rattle.holzikra_objects.specs.declared.notes.BindingNote.{BindingNote}
use Rattle.holzikra_objects.specs.declared.notes.InstructionNote.{InstructionNote}
use Rattle.holzikra_objects.specs.declared.notes.ScriptNotes.{ScriptNotes}
use Rattle.holzikra_objects.specs.declared.notes.Users.{Users}

abbrev pub list : List Data → Data
list ds = array (items_of ds)

abbrev pub wholes : List ℕ → Data
wholes ns = list (map whole ns)

-- an object with one member
abbrev pub only : List ℕ → Data → Data
only key d = object (put key d no_members)

-- a text of 16-bit units: a string, or its units where one of them is a surrogate without its other half
abbrev pub text_data : List ℕ → Data
text_data units = if has_unpaired_surrogate units then only (codes "units") (wholes units) else string (encode_utf8_all (utf16_lossy_chars units))

-- a value, or null
abbrev pub or_null : Option Data → Data
or_null d = unwrap_or d null

abbrev pub name_data : Option (List ℕ) → Data
name_data name = or_null (option_map text_data name)

-- ---- notes: what is said beside the stencil. Each is a further member, of a name that no other member has.

-- the line and the column of a place, where the source text is at hand
abbrev pub spot_members : Option Spot → Members → Members
spot_members None ms = ms
spot_members (Some s) ms = put (codes "line") (whole s.line) (put (codes "column") (whole s.column) ms)

abbrev pub start_of : Option ScriptNotes → Option Spot
start_of None = None
start_of (Some n) = n.start

abbrev pub end_of : Option ScriptNotes → Option Spot
end_of None = None
end_of (Some n) = n.end

abbrev pub users_of : Option ScriptNotes → List Users
users_of None = []
users_of (Some n) = n.users.items

abbrev pub instructions_of : Option ScriptNotes → List InstructionNote
instructions_of None = []
instructions_of (Some n) = n.instructions.items

-- the function around, the bytes of the code, and how deep its stack gets
abbrev pub script_members : Option ScriptNotes → Members → Members
script_members None ms = ms
script_members (Some n) ms =
    put (codes "depth") (whole_or_null n.depth)
    (put (codes "bytes") (whole_or_null n.bytes) (put (codes "around") (whole_or_null n.around) ms))

-- the functions that use a name
abbrev pub users_members : Option Users → Members → Members
users_members None ms = ms
users_members (Some u) ms = put (codes "used_by") (wholes u.numbers.items) ms

-- the binding that hops and a slot mean
abbrev pub meant_data : List (List ℕ) → BindingNote → Data
meant_data texts b =
    object (put (codes "scope") (whole b.scope)
    (put (codes "name") (text_data (text_at texts b.atom)) (put (codes "function") (whole b.function) no_members)))

abbrev pub meant_members : List (List ℕ) → Option BindingNote → Members → Members
meant_members texts None ms = ms
meant_members texts (Some b) ms = put (codes "binding") (meant_data texts b) ms

-- only that no path leads to an instruction is said
abbrev pub reached_members : Bool → Members → Members
reached_members true ms = ms
reached_members false ms = put (codes "reached") (boolean false) ms

abbrev pub note_members : List (List ℕ) → Option InstructionNote → Members → Members
note_members texts None ms = ms
note_members texts (Some n) ms = reached_members n.reached (meant_members texts n.binding ms)

-- a place of the source text
abbrev pub place_data : Option Spot → ℕ → Data
place_data spot offset = object (put (codes "offset") (whole offset) (spot_members spot no_members))

-- ---- instructions

-- the line of a place, where the source text is at hand
abbrev pub line_members : Option Spot → Members → Members
line_members None ms = ms
line_members (Some s) ms = put (codes "line") (whole s.line) ms

-- the number of a function, and the line in which it starts; the 64 bits of a Number value, which JSON's readers do not all keep, as digits; any
-- other number
abbrev pub number_members : List ScriptNotes → Op → ℕ → Members → Members
number_members all op.Lambda n ms = line_members (start_of (slice_get all n)) (put (codes "function") (whole n) ms)
number_members all op.Double n ms = put (codes "bits") (string (decimal n)) ms
number_members all _ n ms = put (codes "number") (whole n) ms

abbrev pub put_text : List ℕ → Members → Members
put_text text ms = put (codes "text") (text_data text) ms

abbrev pub put_aliased : (hops slot : ℕ) → Members → Members
put_aliased hops slot ms = put (codes "slot") (whole slot) (put (codes "hops") (whole hops) ms)

abbrev pub operand_members : List ScriptNotes → Op → Operand → Members → Members
operand_members all op Nothing ms = ms
operand_members all op (Number n) ms = number_members all op n ms
operand_members all op (Text text) ms = put_text text ms
operand_members all op (Aliased hops slot) ms = put_aliased hops slot ms
operand_members all op (Distance distance) ms = put (codes "distance") (whole distance) ms
operand_members all op (Target offset) ms = put (codes "to") (whole offset) ms

-- with what is said of the instruction at its offset, and of the function that it makes
abbrev pub instruction_data : List ScriptNotes → List (List ℕ) → List InstructionNote → Listed → Data
instruction_data all texts notes l =
    object (operand_members all l.command.op l.command.operand (note_members texts (slice_get notes l.at)
    (put (codes "op") (string (name_of l.command.op)) (put (codes "at") (whole l.at) no_members))))

abbrev pub try_data : TryNote → Data
try_data t = object (put (codes "start") (whole t.start) (put (codes "end") (whole t.end) (put (codes "depth") (whole t.depth) no_members)))

-- ---- scopes

abbrev pub slot_data : Slot → Data
slot_data slot.Global = string (codes "global")
slot_data (slot.Arg i) = only (codes "arg") (whole i)
slot_data (slot.Frame i) = only (codes "frame") (whole i)
slot_data (slot.Env i) = only (codes "env") (whole i)
slot_data slot.Callee = string (codes "callee")

abbrev pub binding_data : LinkName → Data
binding_data b =
    object (put (codes "place") (slot_data b.slot) (put (codes "name") (text_data b.text) (put (codes "declared") (string (binding_name b.kind)) no_members)))

-- the number of the scope around, or null
abbrev pub parent_data : Option ℕ → Data
parent_data parent = or_null (option_map whole parent)

abbrev pub scope_data : ℕ → NamedScope → Data
scope_data number s =
    object (put (codes "bindings") (list (map binding_data s.bindings)) (put (codes "parent") (parent_data s.parent)
    (put (codes "number") (whole number) (put (codes "kind") (string (scope_name s.kind)) (put (codes "env") (whole s.env_slots) no_members)))))

abbrev pub scopes_data : ℕ → List NamedScope → List Data
scopes_data number [] = []
scopes_data number (s ∷ ss) = scope_data number s ∷ scopes_data (number + 1) ss

-- ---- scripts

abbrev pub kind_name : FuncKind → List ℕ
kind_name kind.Declared = codes "declared"
kind_name kind.Expression = codes "expression"
kind_name kind.Arrow = codes "arrow"
kind_name kind.Method = codes "method"
kind_name kind.Getter = codes "getter"
kind_name kind.Setter = codes "setter"

-- what is shown of a script: its code or its scopes, with the texts of its atoms, and what is said of itself and of each function
pub record Shown : Type 0 where
  pub listing : Listing
  pub texts : List (List ℕ)
  pub notes : List ScriptNotes

abbrev pub shown : Listing → List (List ℕ) → List ScriptNotes → Shown
shown listing texts notes = record { listing = listing; texts = texts; notes = notes }

-- what the script and each function have
abbrev pub head_members : List ScriptNotes → ℕ → List ℕ → Option (List ℕ) → Extent → Members
head_members notes number kind name extent =
    put (codes "end") (place_data (end_of (slice_get notes number)) extent.end)
    (put (codes "start") (place_data (start_of (slice_get notes number)) extent.start) (put (codes "name") (name_data name)
    (put (codes "kind") (string kind) (put (codes "number") (whole number) (script_members (slice_get notes number) no_members)))))

-- what stands in a function or in the script: the functions directly in it, and its names that functions close over
abbrev pub closed_data : Option Users → NamedClosed → Data
closed_data users c = object (put (codes "name") (text_data c.text) (put (codes "scope") (whole c.scope) (users_members users no_members)))

abbrev pub all_closed_data : List Users → ℕ → List NamedClosed → List Data
all_closed_data users k [] = []
all_closed_data users k (c ∷ cs) = closed_data (slice_get users k) c ∷ all_closed_data users (k + 1) cs

abbrev pub inside_members : List Users → (inner : List ℕ) → List NamedClosed → Members → Members
inside_members users inner closed ms = put (codes "closed") (list (all_closed_data users 0 closed)) (put (codes "inner") (wholes inner) ms)

-- of a function by its record, of the script itself by what is said of it
abbrev pub record_members : List Users → NamedRecord → Members → Members
record_members users r ms = inside_members users r.inner r.closed ms

abbrev pub top_members : List (List ℕ) → Option ScriptNotes → Members → Members
top_members texts None ms = ms
top_members texts (Some n) ms = inside_members n.users.items n.inner.items (map (named_closed texts) n.closed.items) ms

-- what is compiled: the code, or the scopes
abbrev pub code_members : List ScriptNotes → List (List ℕ) → List InstructionNote → NamedFunction (List Listed) → Members → Members
code_members all texts notes f ms =
    put (codes "tries") (list (map try_data f.notes)) (put (codes "code") (list (map (instruction_data all texts notes) f.code)) ms)

abbrev pub scope_members : NamedFunction (List Listed) → Members → Members
scope_members f ms = put (codes "scopes") (list (scopes_data 0 f.scopes)) ms

abbrev pub part_members : Listing → List ScriptNotes → List (List ℕ) → List InstructionNote → NamedFunction (List Listed) → Members → Members
part_members of.Code all texts notes f ms = code_members all texts notes f ms
part_members of.Scopes all texts notes f ms = scope_members f ms

abbrev pub compiled_members : Shown → ℕ → NamedFunction (List Listed) → Members → Members
compiled_members s number f ms =
    part_members s.listing s.notes s.texts (instructions_of (slice_get s.notes number)) f (put (codes "params") (whole f.params) ms)

abbrev pub top_data : Shown → NamedFunction (List Listed) → Data
top_data s f =
    object (compiled_members s 0 f (top_members s.texts (slice_get s.notes 0) (head_members s.notes 0 (codes "script") f.name f.extent)))

abbrev pub lazy_members : List ScriptNotes → ℕ → NamedRecord → Members
lazy_members notes number r =
    record_members (users_of (slice_get notes number)) r (head_members notes number (kind_name r.kind) r.name r.extent)

abbrev pub function_data : Shown → ℕ → NamedRecord → Option (NamedFunction (List Listed)) → Data
function_data s number r None = object (lazy_members s.notes number r)
function_data s number r (Some f) = object (compiled_members s number f (lazy_members s.notes number r))

abbrev pub functions_data : Shown → ℕ → List NamedRecord → List (Option (NamedFunction (List Listed))) → List Data
functions_data s number [] es = []
functions_data s number (r ∷ rs) [] = []
functions_data s number (r ∷ rs) (e ∷ es) = function_data s number r e ∷ functions_data s (number + 1) rs es

abbrev pub scripts_data : Shown → NamedMerged (List Listed) → List Data
scripts_data s merged = top_data s merged.top ∷ functions_data s 1 merged.records merged.entries

-- a file of this name and so many bytes
abbrev pub script_data : Shown → List ℕ → ℕ → NamedMerged (List Listed) → Data
script_data s name bytes merged =
    object (put (codes "scripts") (list (scripts_data s merged)) (put (codes "functions") (whole (length merged.records))
    (put (codes "bytes") (whole bytes) (file_members name (codes "script")))))

-- the line is the text of the value, and what is read of that text is the value
pub record IsLineOf (value : Data) (line : List ℕ) : Type 0 where
  pub is : line ≡ compact_text value ++ codes "\n"
  pub reads_back : read (compact_text value) ≡ Some value
