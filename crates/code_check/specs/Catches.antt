-- A throw at a state, node by node. This project's own choice.
use Rattle.std.specs.Prelude.{◌≡◌, ℕ, ◌<◌, Bool, List, length, Contains}
use Rattle.stencil_data.specs.declared.stencils.TryNote.{TryNote}
use Rattle.bytecode_buf.specs.Machine.{State, caught}
use Rattle.code_check.specs.NoteIndex.{Index, Indexes, IsAbove, IsIndexed}
use Rattle.code_check.specs.Survey.{Found, Follows, Goes, Has, IsAt}

-- the state at which a throw lands by a note
abbrev pub landing : TryNote → State
landing note = record { at = note.end; depth = note.depth }

abbrev pub HasLanding : Found → TryNote → Type 0
HasLanding found note = Has found (landing note)

-- the sizes stay, and the entries
pub record HasShape (old new : Found) (before after : Index) : Type 0 where
  pub size : length new.depths ≡ length old.depths
  pub heads : length after.heads ≡ length before.heads
  pub entries : after.entries ≡ before.entries

-- a state of the code was found below a node, and the notes whose landings were not found stand in the index
pub record StandsAt (code : List ℕ) (notes : List TryNote) (starts : List Bool) (node : ℕ) (s : State) (found : Found) (index : Index)
    (rows : ℕ → List TryNote) : Type 0 where
  pub is_at : IsAt code notes starts found s
  pub above : IsAbove (length code) s.at node
  pub indexes : Indexes notes notes notes (length code) (HasLanding found) index rows

-- more was found, the landings of all notes among it that were taken off
pub record GoesAlong (code : List ℕ) (notes : List TryNote) (old new : Found) (rows : ℕ → List TryNote) (index : Index)
    (left : ℕ → List TryNote) : Type 0 where
  pub goes : Goes code notes old new
  pub indexes : Indexes notes notes notes (length code) (HasLanding new) index left
  pub fewer : (node : ℕ) (note : TryNote) → Contains (left node) note → Contains (rows node) note

-- all notes of a node that are no deeper than this were taken off
pub record CatchesAt (code : List ℕ) (notes : List TryNote) (node depth : ℕ) (old new : Found) (rows : ℕ → List TryNote)
    (index : Index) : Type 0 where
  pub left : ℕ → List TryNote
  pub along : GoesAlong code notes old new rows index left
  pub deeper : (note : TryNote) → Contains (left node) note → depth < note.depth

-- all states to which a throw at a state may go were found
pub record Catches (code : List ℕ) (notes : List TryNote) (s : State) (old new : Found) (index : Index) : Type 0 where
  pub follows : Follows code notes old new (caught notes s)
  pub indexed : IsIndexed notes (length code) (HasLanding new) index
