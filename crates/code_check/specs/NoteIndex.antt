-- The try notes by the offsets that they are around. This project's own choice.
use Rattle.std.specs.Prelude.{◌≡◌, ℕ, zero, suc, ◌+◌, ◌*◌, ◌/◌, ◌<◌, ◌≤◌, Bool, true, false, ◌⊎◌, List, [], ◌∷◌, ◌++◌, length, set}
use Rattle.std.specs.Prelude.{slice_get, slice_index_or, Option, Some, None, All, Contains}
use Rattle.stencil_data.specs.declared.stencils.TryNote.{TryNote}
use Rattle.code_check.specs.declared.note_index.Entry.{Entry}

-- ---- the nodes

-- half of a number, n times
abbrev pub halved : ℕ → ℕ → ℕ
halved zero number = number
halved (suc times) number = halved times number / 2

-- the node is the leaf of the offset, or above it
pub record IsAbove (size at node : ℕ) : Type 0 where
  pub positive : 0 < node
  pub times : ℕ
  pub is : node ≡ halved times (at + size)

pub record IsAround (note : TryNote) (at : ℕ) : Type 0 where
  pub starts : note.start ≤ at
  pub ends : at < note.end

-- ---- the rows

-- for each node the place of the first entry of its row, and the entries
pub record Index : Type 0 where
  pub heads : List (Option ℕ)
  pub entries : List Entry

abbrev pub head_of : Index → ℕ → Option ℕ
head_of index node = slice_index_or index.heads node None

abbrev pub entry_at : List Entry → Option ℕ → Option Entry
entry_at entries None = None
entry_at entries (Some place) = slice_get entries place

abbrev pub first_entry : Index → ℕ → Option Entry
first_entry index node = entry_at index.entries (head_of index node)

abbrev pub IsBefore : Option ℕ → ℕ → Type 0
IsBefore None place = Unit {0}
IsBefore (Some earlier) place = earlier < place

-- each entry leads to an earlier one
abbrev pub AreLinked : List Entry → Type 0
AreLinked entries = (place : ℕ) (entry : Entry) → slice_get entries place ≡ Some entry → IsBefore entry.next place

-- from this place on these notes stand in a row
abbrev pub IsRow : List TryNote → List Entry → Option ℕ → List TryNote → Type 0
IsRow notes entries place [] = place ≡ None
IsRow notes entries place (note ∷ row) = (entry : Entry) × (entry_at entries place ≡ Some entry) × (slice_get notes entry.note ≡ Some note)
    × IsRow notes entries entry.next row

-- no note is deeper than one after it
abbrev pub IsRising : List TryNote → Type 0
IsRising [] = Unit {0}
IsRising (note ∷ row) = All (λ other. note.depth ≤ other.depth) row × IsRising row

-- a note stands at a node that is above the offset
pub record StandsAbove (size at : ℕ) (rows : ℕ → List TryNote) (note : TryNote) : Type 0 where
  pub node : ℕ
  pub above : IsAbove size at node
  pub there : Contains (rows node) note

-- The notes of the list `listed` stand in the rows of the nodes, each only where it is around all offsets below the node.
-- Those of the list `covered` that are not done stand above each offset that they are around.
pub record Indexes (notes listed covered : List TryNote) (size : ℕ) (IsDone : TryNote → Type 0) (index : Index)
    (rows : ℕ → List TryNote) : Type 0 where
  pub size_is : length index.heads ≡ 2 * size
  pub linked : AreLinked index.entries
  pub row : (node : ℕ) → IsRow notes index.entries (head_of index node) (rows node)
  pub rises : (node : ℕ) → IsRising (rows node)
  pub listed_in : (node : ℕ) (note : TryNote) → Contains (rows node) note → Contains listed note
  pub around : (node : ℕ) (note : TryNote) → Contains (rows node) note → (at : ℕ) → at < size → IsAbove size at node → IsAround note at
  pub each : (note : TryNote) → Contains covered note → (at : ℕ) → at < size → IsAround note at → IsDone note ⊎ StandsAbove size at rows note

-- the notes of a list that are not done stand in the index
abbrev pub IsIndexedOf : List TryNote → List TryNote → ℕ → (TryNote → Type 0) → Index → Type 0
IsIndexedOf notes some size IsDone index = (rows : ℕ → List TryNote) × Indexes notes some some size IsDone index rows

abbrev pub IsIndexed : List TryNote → ℕ → (TryNote → Type 0) → Index → Type 0
IsIndexed notes size IsDone index = IsIndexedOf notes notes size IsDone index

-- ---- a note is put in

abbrev pub with_entry : ℕ → ℕ → Index → Index
with_entry node number index = record {
  heads = set index.heads node (Some (length index.entries));
  entries = index.entries ++ (record { note = number; next = head_of index node }) ∷ [];
}

abbrev pub with_entry_if : Bool → ℕ → ℕ → Index → Index
with_entry_if true node number index = with_entry node number index
with_entry_if false node number index = index

-- no note of the list is less deep
abbrev pub IsLeastDeep : TryNote → List TryNote → Type 0
IsLeastDeep note notes = (other : TryNote) → Contains notes other → note.depth ≤ other.depth

-- an offset has a node above it from low to below high
pub record IsBelowRange (size low high at : ℕ) : Type 0 where
  pub node : ℕ
  pub from : low ≤ node
  pub to : node < high
  pub above : IsAbove size at node

-- a note has still to stand at the nodes from low to below high, and then it stands above all offsets that it is around
pub record IsSpreading (notes rest : List TryNote) (number : ℕ) (note : TryNote) (size low high : ℕ) (index : Index)
    (rows : ℕ → List TryNote) : Type 0 where
  pub is : slice_get notes number ≡ Some note
  pub least : IsLeastDeep note rest
  pub positive : 0 < low
  pub fits : high ≤ 2 * size
  pub indexes : Indexes notes (note ∷ rest) rest size (λ other. ⊥) index rows
  pub around : (at : ℕ) → at < size → IsBelowRange size low high at → IsAround note at
  pub stands : (at : ℕ) → at < size → IsAround note at → StandsAbove size at rows note ⊎ IsBelowRange size low high at

-- after the note was spread it is in the index with the rest
abbrev pub Spreads : ℕ → ℕ → ℕ → Index → Index → Type 0
Spreads number low high old new = (notes rest : List TryNote) (note : TryNote) (size : ℕ) (rows : ℕ → List TryNote)
    → IsSpreading notes rest number note size low high old rows → IsIndexedOf notes (note ∷ rest) size (λ other. ⊥) new

abbrev pub Inserts : ℕ → TryNote → Index → Index → Type 0
Inserts number note old new = (notes rest : List TryNote) (size : ℕ) → slice_get notes number ≡ Some note → IsLeastDeep note rest
    → IsIndexedOf notes rest size (λ other. ⊥) old → IsIndexedOf notes (note ∷ rest) size (λ other. ⊥) new

-- ---- a note is taken off

abbrev pub with_head : ℕ → Option ℕ → Index → Index
with_head node place index = record { heads = set index.heads node place; entries = index.entries }

-- the first note of a node's row was taken off, which is no deeper than this
pub record Takes (notes : List TryNote) (node depth : ℕ) (old new : Index) (note : TryNote) : Type 0 where
  pub entry : Entry
  pub first : first_entry old node ≡ Some entry
  pub is : slice_get notes entry.note ≡ Some note
  pub low : note.depth ≤ depth
  pub taken : new ≡ with_head node entry.next old

-- the first note of a node's row, if there is one, is deeper
pub record HoldsBack (notes : List TryNote) (node depth : ℕ) (old new : Index) : Type 0 where
  pub same : new ≡ old
  pub deeper : (entry : Entry) (note : TryNote) → first_entry old node ≡ Some entry → slice_get notes entry.note ≡ Some note → depth < note.depth
