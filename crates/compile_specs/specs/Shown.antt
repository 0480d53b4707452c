-- What is shown of a script where only some of its functions are wanted: those, and the functions around them, compiled;
-- of every other function a record. This project's own choice.
use Rattle.std.specs.Prelude.{◌≡◌, ℕ, ◌+◌, Bool, true, false, ◌&&◌, if◌then◌else◌, nat_eq, nat_lt, nat_le, List, [], ◌∷◌, map, filter, length, Option}
use Rattle.std.specs.Prelude.{Some, None, slice_index_or}
use Rattle.std.specs.List.{list_any}
use Rattle.script_grammar.specs.Tree.{Stmts}
use Rattle.stencil_data.specs.declared.functions.Extent.{Extent}
use Rattle.stencil_data.specs.Named.{NamedFunction, NamedClosed, NamedRecord, NamedInitial, NamedMerged}
use Rattle.bytecode_buf.specs.declared.opcode.Op.{Op}
use Rattle.bytecode_buf.specs.declared.opcode.Op.TheVariants as op
use Rattle.bytecode_buf.specs.Command.{Operand, Number, Command}
use Rattle.parse_track.specs.ClosedNames.{Bound}
use Rattle.parse_track.specs.Notes.{closed_names}
use Rattle.compile_specs.specs.Eager.{IsEager}

-- which functions are wanted
pub data Wanted : Type 0 where
  All : Wanted
  Numbers : List ℕ → Wanted

abbrev pub wants : Wanted → ℕ → Bool
wants All number = true
wants (Numbers numbers) number = list_any (λ n. nat_eq n number) numbers

-- the number of the function whose parameters start here, among functions that start at these offsets: they are numbered
-- from 1 in the order of these
abbrev pub number_of : List ℕ → ℕ → ℕ
number_of starts start = 1 + length (filter (λ s. nat_lt s start) starts)

-- a function of this extent is that of the other, or is in it
abbrev pub is_within : Extent → Extent → Bool
is_within outer inner = nat_le outer.start inner.start && nat_le inner.end outer.end

-- of these functions of a script, whether the one of this extent is shown compiled: it is wanted, or one in it is
abbrev pub is_shown : Wanted → List Extent → Extent → Bool
is_shown wanted all extent = list_any (λ (e : Extent). is_within extent e && wants wanted (number_of (map (λ (a : Extent). a.start) all) e.start)) all

abbrev pub is_start : Option ℕ → ℕ → Bool
is_start None start = false
is_start (Some s) start = nat_eq s start

-- the closed names that are bound by the function that starts here
abbrev pub closed_of : List (Bound (List ℕ)) → ℕ → List NamedClosed
closed_of bound start =
    map (λ (b : Bound (List ℕ)). record { scope = b.scope; text = b.name }) (filter (λ (b : Bound (List ℕ)). is_start b.func start) bound)

abbrev pub numbers_of : List ℕ → List Extent → List ℕ
numbers_of starts extents = map (λ (e : Extent). number_of starts e.start) extents

-- the record of a function among those that start at these offsets, where these names are closed over
abbrev pub record_of : List ℕ → List (Bound (List ℕ)) → NamedFunction (List Command) → NamedRecord
record_of starts bound f = record {
  extent = f.extent;
  kind = f.kind;
  name = f.name;
  inner = numbers_of starts f.inner;
  closed = closed_of bound f.extent.start;
}

-- A function that is made inside another one is named in its code by its place among those; in a whole script it is named
-- by its number.
abbrev pub renumbered : List ℕ → Op → Operand → Operand
renumbered numbers op.Lambda (Number place) = Number (slice_index_or numbers place 0)
renumbered numbers op operand = operand

abbrev pub with_numbers : List ℕ → NamedFunction (List Command) → NamedFunction (List Command)
with_numbers starts f =
    record f { code = map (λ (c : Command). record { op = c.op; operand = renumbered (numbers_of starts f.inner) c.op c.operand }) f.code }

abbrev pub entry : Wanted → List Extent → List ℕ → NamedFunction (List Command) → Option (NamedFunction (List Command))
entry wanted all starts f = if is_shown wanted all f.extent then Some (with_numbers starts f) else None

abbrev pub extents_of : List (NamedFunction (List Command)) → List Extent
extents_of functions = map (λ (f : NamedFunction (List Command)). f.extent) functions

abbrev pub starts_of : List (NamedFunction (List Command)) → List ℕ
starts_of functions = map (λ (f : NamedFunction (List Command)). f.extent.start) functions

-- what is shown of a script with this top and these functions, where these names are closed over
abbrev pub shown : Wanted → List (Bound (List ℕ)) → NamedFunction (List Command) → List (NamedFunction (List Command)) → NamedMerged (List Command)
shown wanted bound top functions = record {
  top = with_numbers (starts_of functions) top;
  records = map (record_of (starts_of functions) bound) functions;
  entries = map (entry wanted (extents_of functions) (starts_of functions)) functions;
}

-- what is shown of the script of a tree, whose text ends here
abbrev pub IsShown : Wanted → Stmts → ℕ → NamedMerged (List Command) → Type 0
IsShown wanted items end merged =
    (top : NamedFunction (List Command)) × (functions : List (NamedFunction (List Command))) × IsEager items end top functions
    × (merged ≡ shown wanted (closed_names items) top functions)

-- what a script is before any of its functions is compiled: its top, whose code names a function by its place, and the
-- record of every function
abbrev pub initial : List (Bound (List ℕ)) → NamedFunction (List Command) → List (NamedFunction (List Command)) → NamedInitial (List Command)
initial bound top functions = record { top = top; records = map (record_of (starts_of functions) bound) functions }

abbrev pub IsInitial : Stmts → ℕ → NamedInitial (List Command) → Type 0
IsInitial items end parts =
    (top : NamedFunction (List Command)) × (functions : List (NamedFunction (List Command))) × IsEager items end top functions
    × (parts ≡ initial (closed_names items) top functions)
