-- The value of a script has no float, and nests so little that a reader takes it.
use Rattle.std.proofs.Common.{◌≡◌, ◌++◌, ℕ, suc, ◌+◌, ◌≤◌, Bool, true, false, ◌||◌, List, [], ◌∷◌, length, map, Option, Some, None, Ordering, Less, Equal, Greater, refl, ap, ap₂, subst, ◌∙◌, arith}
use Rattle.std.specs.Prelude.{if◌then◌else◌, codes, encode_utf8_all, slice_get}
use Rattle.std.specs.Char.Utf16.{has_unpaired_surrogate, utf16_lossy_chars}
use Rattle.std.specs.Cmp.Lexicographic.{slice_cmp}
use Rattle.std.specs.Fmt.{decimal}
use Rattle.std.specs.List.{AllByRecursion}
use Rattle.std.specs.Ordering.{nat_cmp, match_ordering}
use Rattle.serde_json.specs.Data.{Data, null, boolean, string, object, Members, no_members, member, put, depth, items_depth, members_depth}
use Rattle.serde_json.specs.View.{items_of}
use Rattle.serde_json.specs.Written.{has_float, items_have_float, members_have_float}
use Rattle.stencil_data.specs.declared.chains.LinkName.{LinkName}
use Rattle.stencil_data.specs.declared.functions.Extent.{Extent}
use Rattle.stencil_data.specs.declared.scopes.Slot.{Slot}
use Rattle.stencil_data.specs.declared.scopes.Slot.TheVariants as slot
use Rattle.stencil_data.specs.declared.stencils.TryNote.{TryNote}
use Rattle.stencil_data.specs.Named.{NamedScope, NamedFunction, NamedClosed, NamedRecord, NamedMerged}
use Rattle.bytecode_buf.specs.declared.opcode.Op.{Op}
use Rattle.bytecode_buf.specs.declared.opcode.Op.TheVariants as op
use Rattle.bytecode_buf.specs.Command.{Operand, Nothing, Number, Text, Aliased, Distance, Target, Listed}
use Rattle.script_image.specs.OpNames.{name_of}
use Rattle.script_image.specs.ScopeLines.{binding_name, scope_name}
use Rattle.script_image.specs.declared.script_lines.Listing.{Listing}
use Rattle.script_image.specs.declared.script_lines.Listing.TheVariants as of
use Rattle.serde_json.specs.Read.{read}
use Rattle.script_image.specs.Listed.{ShowsListed, listed_stencil}
use Rattle.script_image.proofs.Stands.{stencil_is}
use Rattle.stencil_data.specs.MergedView.{MergedView}
use Rattle.stencil_data.specs.StandsFor.{MergedStandsFor, named_closed, text_at}
use Rattle.holzikra_json.specs.Lines.{IsLine, whole, whole_or_null, file_members}
use Rattle.holzikra_names.specs.declared.source.Spot.{Spot}
use Rattle.holzikra_objects.specs.declared.notes.BindingNote.{BindingNote}
use Rattle.holzikra_objects.specs.declared.notes.InstructionNote.{InstructionNote}
use Rattle.holzikra_objects.specs.declared.notes.ScriptNotes.{ScriptNotes}
use Rattle.holzikra_objects.specs.declared.notes.Users.{Users}
use Rattle.holzikra_objects.specs.Objects as objects
use Rattle.holzikra_objects.specs.Objects.{Shown}

-- the value has no float and nests no deeper than n
pub record IsFine (n : ℕ) (d : Data) : Type 0 where
  pub exact : has_float d ≡ false
  pub flat : depth d ≤ n

pub record AreFine (n : ℕ) (ms : Members) : Type 0 where
  pub exact : members_have_float ms ≡ false
  pub flat : members_depth ms ≤ n

-- ---- members

left_false : (a b : Bool) → (a || b) ≡ false → a ≡ false
left_false false b h = refl
left_false true b h = h

right_false : (a b : Bool) → (a || b) ≡ false → b ≡ false
right_false false b h = h
right_false true false h = refl
right_false true true h = h

both_false : (a b : Bool) → a ≡ false → b ≡ false → (a || b) ≡ false
both_false a b ha hb = ap₂ (λ (x y : Bool). x || y) ha hb

one_more : (n : ℕ) (k : List ℕ) (d : Data) (ms : Members) → IsFine n d → AreFine n ms → AreFine n (member k d ms)
one_more n k d ms fine fines = record {
  exact = both_false (has_float d) (members_have_float ms) fine.exact fines.exact;
  flat = let a = fine.flat in let b = fines.flat in omega arith;
}

first_of : (n : ℕ) (l : List ℕ) (e : Data) (ms : Members) → AreFine n (member l e ms) → IsFine n e
first_of n l e ms fines = record { exact = left_false (has_float e) (members_have_float ms) fines.exact; flat = let a = fines.flat in omega arith }

rest_of : (n : ℕ) (l : List ℕ) (e : Data) (ms : Members) → AreFine n (member l e ms) → AreFine n ms
rest_of n l e ms fines = record { exact = right_false (has_float e) (members_have_float ms) fines.exact; flat = let a = fines.flat in omega arith }

put_at : (o : Ordering) (n : ℕ) (k l : List ℕ) (d e : Data) (ms : Members) → IsFine n d → AreFine n (member l e ms) → AreFine n (put k d ms)
    → AreFine n (match_ordering o (member k d (member l e ms)) (member l d ms) (member l e (put k d ms)))
put_at Less n k l d e ms fine fines later = one_more n k d (member l e ms) fine fines
put_at Equal n k l d e ms fine fines later = one_more n l d ms fine (rest_of n l e ms fines)
put_at Greater n k l d e ms fine fines later = one_more n l e (put k d ms) (first_of n l e ms fines) later

no_more : (n : ℕ) → AreFine n no_members
no_more n = record { exact = refl; flat = omega arith }

fine_put : (n : ℕ) (k : List ℕ) (d : Data) (ms : Members) → IsFine n d → AreFine n ms → AreFine n (put k d ms)
fine_put n k d no_members fine fines = one_more n k d no_members fine fines
fine_put n k d (member l e ms) fine fines = put_at (slice_cmp nat_cmp k l) n k l d e ms fine fines (fine_put n k d ms fine (rest_of n l e ms fines))

fine_object : (n : ℕ) (ms : Members) → AreFine n ms → IsFine (suc n) (object ms)
fine_object n ms fines = record { exact = fines.exact; flat = let a = fines.flat in omega arith }

-- members that are fine, one put in after the other
record Chain (n : ℕ) : Type 0 where
  members : Members
  fine : AreFine n members

abbrev none : (n : ℕ) → Chain n
none n = record { members = no_members; fine = no_more n }

abbrev from : (n : ℕ) (ms : Members) → AreFine n ms → Chain n
from n ms fines = record { members = ms; fine = fines }

abbrev more : (n : ℕ) (k : List ℕ) (d : Data) → IsFine n d → Chain n → Chain n
more n k d fine c = record { members = put k d c.members; fine = fine_put n k d c.members fine c.fine }

object_of : (n : ℕ) (c : Chain n) → IsFine (suc n) (object c.members)
object_of n c = fine_object n c.members c.fine

higher : (m n : ℕ) (d : Data) → m ≤ n → IsFine m d → IsFine n d
higher m n d less fine = record { exact = fine.exact; flat = let a = fine.flat in omega (arith, less) }

-- ---- plain values and lists

fine_whole : (n k : ℕ) → IsFine n (whole k)
fine_whole n k = record { exact = refl; flat = omega arith }

fine_string : (n : ℕ) (s : List ℕ) → IsFine n (string s)
fine_string n s = record { exact = refl; flat = omega arith }

fine_null : (n : ℕ) → IsFine n null
fine_null n = record { exact = refl; flat = omega arith }

exact_items : (n : ℕ) (ds : List Data) → AllByRecursion (IsFine n) ds → items_have_float (items_of ds) ≡ false
exact_items n [] fines = refl
exact_items n (d ∷ ds) fines = both_false (has_float d) (items_have_float (items_of ds)) fines.0.exact (exact_items n ds fines.1)

flat_items : (n : ℕ) (ds : List Data) → AllByRecursion (IsFine n) ds → items_depth (items_of ds) ≤ n
flat_items n [] fines = omega arith
flat_items n (d ∷ ds) fines = let a = fines.0.flat in let b : items_depth (items_of ds) ≤ n = flat_items n ds fines.1 in omega arith

fine_list : (n : ℕ) (ds : List Data) → AllByRecursion (IsFine n) ds → IsFine (suc n) (objects.list ds)
fine_list n ds fines = record { exact = exact_items n ds fines; flat = let a : items_depth (items_of ds) ≤ n = flat_items n ds fines in omega arith }

fine_each : {A : Type 0} (n : ℕ) (f : A → Data) → ((a : A) → IsFine n (f a)) → (xs : List A) → AllByRecursion (IsFine n) (map f xs)
fine_each n f each [] = tt
fine_each n f each (x ∷ xs) = (each x, fine_each n f each xs)

fine_map : {A : Type 0} (n : ℕ) (f : A → Data) → ((a : A) → IsFine n (f a)) → (xs : List A) → IsFine (suc n) (objects.list (map f xs))
fine_map n f each xs = fine_list n (map f xs) (fine_each n f each xs)

fine_wholes : (n : ℕ) (ns : List ℕ) → IsFine (suc n) (objects.wholes ns)
fine_wholes n ns = fine_map n whole (fine_whole n) ns

fine_only : (n : ℕ) (k : List ℕ) (d : Data) → IsFine n d → IsFine (suc n) (objects.only k d)
fine_only n k d fine = object_of n (more n k d fine (none n))

-- ---- texts and places

fine_text_by : (b : Bool) (units text : List ℕ) → IsFine 2 (if b then objects.only (codes "units") (objects.wholes units) else string text)
fine_text_by true units text = fine_only 1 (codes "units") (objects.wholes units) (fine_wholes 0 units)
fine_text_by false units text = fine_string 2 text

fine_text : (units : List ℕ) → IsFine 2 (objects.text_data units)
fine_text units = fine_text_by (has_unpaired_surrogate units) units (encode_utf8_all (utf16_lossy_chars units))

fine_name : (name : Option (List ℕ)) → IsFine 2 (objects.name_data name)
fine_name None = fine_null 2
fine_name (Some units) = fine_text units

fine_spot : (n : ℕ) (spot : Option Spot) (ms : Members) → AreFine n ms → AreFine n (objects.spot_members spot ms)
fine_spot n None ms fines = fines
fine_spot n (Some s) ms fines =
    (more n (codes "line") (whole s.line) (fine_whole n s.line) (more n (codes "column") (whole s.column) (fine_whole n s.column) (from n ms fines))).fine

fine_place : (spot : Option Spot) (offset : ℕ) → IsFine 1 (objects.place_data spot offset)
fine_place spot offset =
    object_of 0 (more 0 (codes "offset") (whole offset) (fine_whole 0 offset) (from 0 (objects.spot_members spot no_members) (fine_spot 0 spot no_members (no_more 0))))

-- ---- what is said of scripts, names and instructions

fine_or_null : (n : ℕ) (k : Option ℕ) → IsFine n (whole_or_null k)
fine_or_null n None = fine_null n
fine_or_null n (Some k) = fine_whole n k

fine_script_note : (note : Option ScriptNotes) (ms : Members) → AreFine 6 ms → AreFine 6 (objects.script_members note ms)
fine_script_note None ms fines = fines
fine_script_note (Some n) ms fines =
    (more 6 (codes "depth") (whole_or_null n.depth) (fine_or_null 6 n.depth) (more 6 (codes "bytes") (whole_or_null n.bytes) (fine_or_null 6 n.bytes)
    (more 6 (codes "around") (whole_or_null n.around) (fine_or_null 6 n.around) (from 6 ms fines)))).fine

fine_users : (users : Option Users) (ms : Members) → AreFine 2 ms → AreFine 2 (objects.users_members users ms)
fine_users None ms fines = fines
fine_users (Some u) ms fines = fine_put 2 (codes "used_by") (objects.wholes u.numbers.items) ms (fine_wholes 1 u.numbers.items) fines

fine_meant : (texts : List (List ℕ)) (b : BindingNote) → IsFine 3 (objects.meant_data texts b)
fine_meant texts b =
    object_of 2 (more 2 (codes "scope") (whole b.scope) (fine_whole 2 b.scope) (more 2 (codes "name") (objects.text_data (text_at texts b.atom)) (fine_text (text_at texts b.atom))
    (more 2 (codes "function") (whole b.function) (fine_whole 2 b.function) (none 2))))

fine_meant_members : (texts : List (List ℕ)) (b : Option BindingNote) (ms : Members) → AreFine 3 ms → AreFine 3 (objects.meant_members texts b ms)
fine_meant_members texts None ms fines = fines
fine_meant_members texts (Some b) ms fines = fine_put 3 (codes "binding") (objects.meant_data texts b) ms (fine_meant texts b) fines

fine_reached : (reached : Bool) (ms : Members) → AreFine 3 ms → AreFine 3 (objects.reached_members reached ms)
fine_reached true ms fines = fines
fine_reached false ms fines = fine_put 3 (codes "reached") (boolean false) ms (record { exact = refl; flat = omega arith }) fines

fine_note : (texts : List (List ℕ)) (note : Option InstructionNote) (ms : Members) → AreFine 3 ms → AreFine 3 (objects.note_members texts note ms)
fine_note texts None ms fines = fines
fine_note texts (Some n) ms fines = fine_reached n.reached (objects.meant_members texts n.binding ms) (fine_meant_members texts n.binding ms fines)

-- ---- instructions and try notes

fine_line : (spot : Option Spot) (ms : Members) → AreFine 3 ms → AreFine 3 (objects.line_members spot ms)
fine_line None ms fines = fines
fine_line (Some s) ms fines = fine_put 3 (codes "line") (whole s.line) ms (fine_whole 3 s.line) fines

fine_number : (all : List ScriptNotes) (op : Op) (n : ℕ) (ms : Members) → AreFine 3 ms → AreFine 3 (objects.number_members all op n ms)
fine_number all op.Lambda n ms fines =
    fine_line (objects.start_of (slice_get all n)) (put (codes "function") (whole n) ms) (fine_put 3 (codes "function") (whole n) ms (fine_whole 3 n) fines)
fine_number all op.Double n ms fines = fine_put 3 (codes "bits") (string (decimal n)) ms (fine_string 3 (decimal n)) fines
fine_number all _ n ms fines = fine_put 3 (codes "number") (whole n) ms (fine_whole 3 n) fines

fine_operand : (all : List ScriptNotes) (op : Op) (operand : Operand) (ms : Members) → AreFine 3 ms → AreFine 3 (objects.operand_members all op operand ms)
fine_operand all op Nothing ms fines = fines
fine_operand all op (Number n) ms fines = fine_number all op n ms fines
fine_operand all op (Text text) ms fines = fine_put 3 (codes "text") (objects.text_data text) ms (higher 2 3 (objects.text_data text) (omega arith) (fine_text text)) fines
fine_operand all op (Aliased hops slot) ms fines = (more 3 (codes "slot") (whole slot) (fine_whole 3 slot) (more 3 (codes "hops") (whole hops) (fine_whole 3 hops) (from 3 ms fines))).fine
fine_operand all op (Distance distance) ms fines = fine_put 3 (codes "distance") (whole distance) ms (fine_whole 3 distance) fines
fine_operand all op (Target offset) ms fines = fine_put 3 (codes "to") (whole offset) ms (fine_whole 3 offset) fines

fine_instruction : (all : List ScriptNotes) (texts : List (List ℕ)) (notes : List InstructionNote) (l : Listed) → IsFine 4 (objects.instruction_data all texts notes l)
fine_instruction all texts notes l =
    let c = more 3 (codes "op") (string (name_of l.command.op)) (fine_string 3 (name_of l.command.op)) (more 3 (codes "at") (whole l.at) (fine_whole 3 l.at) (none 3)) in
    let noted = fine_note texts (slice_get notes l.at) c.members c.fine in
    fine_object 3 (objects.operand_members all l.command.op l.command.operand (objects.note_members texts (slice_get notes l.at) c.members))
    (fine_operand all l.command.op l.command.operand (objects.note_members texts (slice_get notes l.at) c.members) noted)

fine_try : (t : TryNote) → IsFine 1 (objects.try_data t)
fine_try t =
    object_of 0 (more 0 (codes "start") (whole t.start) (fine_whole 0 t.start) (more 0 (codes "end") (whole t.end) (fine_whole 0 t.end)
    (more 0 (codes "depth") (whole t.depth) (fine_whole 0 t.depth) (none 0))))

-- ---- scopes

fine_slot : (s : Slot) → IsFine 1 (objects.slot_data s)
fine_slot slot.Global = fine_string 1 (codes "global")
fine_slot (slot.Arg i) = fine_only 0 (codes "arg") (whole i) (fine_whole 0 i)
fine_slot (slot.Frame i) = fine_only 0 (codes "frame") (whole i) (fine_whole 0 i)
fine_slot (slot.Env i) = fine_only 0 (codes "env") (whole i) (fine_whole 0 i)
fine_slot slot.Callee = fine_string 1 (codes "callee")

fine_binding : (b : LinkName) → IsFine 3 (objects.binding_data b)
fine_binding b =
    object_of 2 (more 2 (codes "place") (objects.slot_data b.slot) (higher 1 2 (objects.slot_data b.slot) (omega arith) (fine_slot b.slot))
    (more 2 (codes "name") (objects.text_data b.text) (fine_text b.text)
    (more 2 (codes "declared") (string (binding_name b.kind)) (fine_string 2 (binding_name b.kind)) (none 2))))

fine_parent : (n : ℕ) (parent : Option ℕ) → IsFine n (objects.parent_data parent)
fine_parent n None = fine_null n
fine_parent n (Some number) = fine_whole n number

fine_scope : (number : ℕ) (s : NamedScope) → IsFine 5 (objects.scope_data number s)
fine_scope number s =
    object_of 4 (more 4 (codes "bindings") (objects.list (map objects.binding_data s.bindings)) (fine_map 3 objects.binding_data fine_binding s.bindings)
    (more 4 (codes "parent") (objects.parent_data s.parent) (fine_parent 4 s.parent)
    (more 4 (codes "number") (whole number) (fine_whole 4 number)
    (more 4 (codes "kind") (string (scope_name s.kind)) (fine_string 4 (scope_name s.kind))
    (more 4 (codes "env") (whole s.env_slots) (fine_whole 4 s.env_slots) (none 4))))))

fine_scopes : (number : ℕ) (ss : List NamedScope) → AllByRecursion (IsFine 5) (objects.scopes_data number ss)
fine_scopes number [] = tt
fine_scopes number (s ∷ ss) = (fine_scope number s, fine_scopes (number + 1) ss)

-- ---- scripts

fine_head : (notes : List ScriptNotes) (number : ℕ) (kind : List ℕ) (name : Option (List ℕ)) (extent : Extent) → AreFine 6 (objects.head_members notes number kind name extent)
fine_head notes number kind name extent =
    let note = slice_get notes number in
    (more 6 (codes "end") (objects.place_data (objects.end_of note) extent.end) (higher 1 6 (objects.place_data (objects.end_of note) extent.end) (omega arith) (fine_place (objects.end_of note) extent.end))
    (more 6 (codes "start") (objects.place_data (objects.start_of note) extent.start) (higher 1 6 (objects.place_data (objects.start_of note) extent.start) (omega arith) (fine_place (objects.start_of note) extent.start))
    (more 6 (codes "name") (objects.name_data name) (higher 2 6 (objects.name_data name) (omega arith) (fine_name name))
    (more 6 (codes "kind") (string kind) (fine_string 6 kind)
    (more 6 (codes "number") (whole number) (fine_whole 6 number) (from 6 (objects.script_members note no_members) (fine_script_note note no_members (no_more 6)))))))).fine

fine_closed : (users : Option Users) (c : NamedClosed) → IsFine 3 (objects.closed_data users c)
fine_closed users c =
    object_of 2 (more 2 (codes "name") (objects.text_data c.text) (fine_text c.text) (more 2 (codes "scope") (whole c.scope) (fine_whole 2 c.scope)
    (from 2 (objects.users_members users no_members) (fine_users users no_members (no_more 2)))))

fine_all_closed : (users : List Users) (k : ℕ) (cs : List NamedClosed) → AllByRecursion (IsFine 3) (objects.all_closed_data users k cs)
fine_all_closed users k [] = tt
fine_all_closed users k (c ∷ cs) = (fine_closed (slice_get users k) c, fine_all_closed users (k + 1) cs)

fine_inside : (users : List Users) (inner : List ℕ) (closed : List NamedClosed) (ms : Members) → AreFine 6 ms → AreFine 6 (objects.inside_members users inner closed ms)
fine_inside users inner closed ms fines =
    let all = objects.list (objects.all_closed_data users 0 closed) in
    (more 6 (codes "closed") all (higher 4 6 all (omega arith) (fine_list 3 (objects.all_closed_data users 0 closed) (fine_all_closed users 0 closed)))
    (more 6 (codes "inner") (objects.wholes inner) (fine_wholes 5 inner) (from 6 ms fines))).fine

fine_record : (users : List Users) (r : NamedRecord) (ms : Members) → AreFine 6 ms → AreFine 6 (objects.record_members users r ms)
fine_record users r ms fines = fine_inside users r.inner r.closed ms fines

fine_top_note : (texts : List (List ℕ)) (note : Option ScriptNotes) (ms : Members) → AreFine 6 ms → AreFine 6 (objects.top_members texts note ms)
fine_top_note texts None ms fines = fines
fine_top_note texts (Some n) ms fines = fine_inside n.users.items n.inner.items (map (named_closed texts) n.closed.items) ms fines

fine_part : (listing : Listing) (scripts : List ScriptNotes) (texts : List (List ℕ)) (notes : List InstructionNote) (f : NamedFunction (List Listed)) (ms : Members) → AreFine 6 ms → AreFine 6 (objects.part_members listing scripts texts notes f ms)
fine_part of.Code scripts texts notes f ms fines =
    let code = objects.list (map (objects.instruction_data scripts texts notes) f.code) in
    (more 6 (codes "tries") (objects.list (map objects.try_data f.notes)) (higher 2 6 (objects.list (map objects.try_data f.notes)) (omega arith) (fine_map 1 objects.try_data fine_try f.notes))
    (more 6 (codes "code") code (higher 5 6 code (omega arith) (fine_map 4 (objects.instruction_data scripts texts notes) (fine_instruction scripts texts notes) f.code)) (from 6 ms fines))).fine
fine_part of.Scopes scripts texts notes f ms fines = fine_put 6 (codes "scopes") (objects.list (objects.scopes_data 0 f.scopes)) ms (fine_list 5 (objects.scopes_data 0 f.scopes) (fine_scopes 0 f.scopes)) fines

fine_compiled : (s : Shown) (number : ℕ) (f : NamedFunction (List Listed)) (ms : Members) → AreFine 6 ms → AreFine 6 (objects.compiled_members s number f ms)
fine_compiled s number f ms fines =
    let c = more 6 (codes "params") (whole f.params) (fine_whole 6 f.params) (from 6 ms fines) in
    fine_part s.listing s.notes s.texts (objects.instructions_of (slice_get s.notes number)) f c.members c.fine

fine_lazy : (notes : List ScriptNotes) (number : ℕ) (r : NamedRecord) → AreFine 6 (objects.lazy_members notes number r)
fine_lazy notes number r =
    fine_record (objects.users_of (slice_get notes number)) r (objects.head_members notes number (objects.kind_name r.kind) r.name r.extent)
    (fine_head notes number (objects.kind_name r.kind) r.name r.extent)

fine_function : (s : Shown) (number : ℕ) (r : NamedRecord) (e : Option (NamedFunction (List Listed))) → IsFine 7 (objects.function_data s number r e)
fine_function s number r None = fine_object 6 (objects.lazy_members s.notes number r) (fine_lazy s.notes number r)
fine_function s number r (Some f) =
    fine_object 6 (objects.compiled_members s number f (objects.lazy_members s.notes number r))
    (fine_compiled s number f (objects.lazy_members s.notes number r) (fine_lazy s.notes number r))

fine_functions : (s : Shown) (number : ℕ) (rs : List NamedRecord) (es : List (Option (NamedFunction (List Listed)))) → AllByRecursion (IsFine 7) (objects.functions_data s number rs es)
fine_functions s number [] es = tt
fine_functions s number (r ∷ rs) [] = tt
fine_functions s number (r ∷ rs) (e ∷ es) = (fine_function s number r e, fine_functions s (number + 1) rs es)

fine_top : (s : Shown) (f : NamedFunction (List Listed)) → IsFine 7 (objects.top_data s f)
fine_top s f =
    let head = objects.head_members s.notes 0 (codes "script") f.name f.extent in
    let all = objects.top_members s.texts (slice_get s.notes 0) head in
    fine_object 6 (objects.compiled_members s 0 f all)
    (fine_compiled s 0 f all (fine_top_note s.texts (slice_get s.notes 0) head (fine_head s.notes 0 (codes "script") f.name f.extent)))

fine_scripts : (s : Shown) (merged : NamedMerged (List Listed)) → AllByRecursion (IsFine 7) (objects.scripts_data s merged)
fine_scripts s merged = (fine_top s merged.top, fine_functions s 1 merged.records merged.entries)

fine_file : (name kind : List ℕ) → AreFine 8 (file_members name kind)
fine_file name kind =
    (more 8 (codes "kind") (string kind) (fine_string 8 kind) (more 8 (codes "format") (string (codes "holzikra-1")) (fine_string 8 (codes "holzikra-1"))
    (more 8 (codes "file") (string name) (fine_string 8 name) (none 8)))).fine

fine_script : (s : Shown) (name : List ℕ) (bytes : ℕ) (merged : NamedMerged (List Listed)) → IsFine 9 (objects.script_data s name bytes merged)
fine_script s name bytes merged =
    object_of 8 (more 8 (codes "scripts") (objects.list (objects.scripts_data s merged)) (fine_list 7 (objects.scripts_data s merged) (fine_scripts s merged))
    (more 8 (codes "functions") (whole (length merged.records)) (fine_whole 8 (length merged.records))
    (more 8 (codes "bytes") (whole bytes) (fine_whole 8 bytes) (from 8 (file_members name (codes "script")) (fine_file name (codes "script"))))))

-- ---- lines

exact_line : (d : Data) (line : List ℕ) → IsFine 9 d → IsLine d line → objects.IsLineOf d line
exact_line d line fine is =
    let same = is.compact fine.exact in
    record {
      is = is.ends ∙ ap (λ (text : List ℕ). text ++ codes "\n") same;
      reads_back = subst (λ (text : List ℕ). read text ≡ Some d) same (is.reads_back (let a = fine.flat in omega arith));
    }

-- the line of a stencil is that of what it stands for
pub script_line_is : (s : Shown) (name : List ℕ) (bytes : ℕ) (merged : MergedView) (d : Data) (line : List ℕ) → d ≡ objects.script_data s name bytes (listed_stencil merged) → IsLine d line
    → (named : NamedMerged (List Listed)) → MergedStandsFor ShowsListed merged named → objects.IsLineOf (objects.script_data s name bytes named) line
script_line_is s name bytes merged d line d_is is named stands =
    let value_is : d ≡ objects.script_data s name bytes named = d_is ∙ ap (objects.script_data s name bytes) (stencil_is merged named stands) in
    exact_line (objects.script_data s name bytes named) line (fine_script s name bytes named) (subst (λ (v : Data). IsLine v line) value_is is)
