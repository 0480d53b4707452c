-- What is known of code while it is verified. This project's own choice.
use Rattle.std.specs.Prelude.{◌≡◌, ◌≢◌, ℕ, ◌+◌, ◌*◌, ◌≤◌, Bool, true, false, is_some, is_none, IsSome, ◌⊎◌, List, [], ◌∷◌, ◌++◌, length}
use Rattle.std.specs.Prelude.{set, slice_index_or, count_by, Option, Some, None, All, Contains}
use Rattle.stencil_data.specs.declared.stencils.TryNote.{TryNote}
use Rattle.bytecode_buf.specs.Machine.{State, first_state, Reaches, HasDepthTable, instruction_at, is_stuck, steps}
use Rattle.code_check.specs.declared.step.Landing.{Landing}
use Rattle.code_check.specs.declared.survey.Stop.{Stop}
use Rattle.code_check.specs.declared.survey.Stop.TheVariants as stop
use Rattle.code_check.specs.Steps.{landed}

-- whether an instruction starts there, for each offset of the code
pub record AreStarts (code : List ℕ) (starts : List Bool) : Type 0 where
  pub size : length starts ≡ length code
  pub are : (at : ℕ) → slice_index_or starts at false ≡ is_some (instruction_at code at)

-- What was found: the depths at offsets, and the offsets whose instructions have still to be looked at.
pub record Found : Type 0 where
  pub depths : List (Option ℕ)
  pub pending : List ℕ

abbrev pub depth_at : List (Option ℕ) → ℕ → Option ℕ
depth_at depths at = slice_index_or depths at None

-- how many offsets have no depth
abbrev pub unset : List (Option ℕ) → ℕ
unset depths = count_by is_none depths

abbrev pub Has : Found → State → Type 0
Has found s = depth_at found.depths s.at ≡ Some s.depth

-- what was found with a state that is new
abbrev pub with_state : State → Found → Found
with_state s found = record { depths = set found.depths s.at (Some s.depth); pending = found.pending ++ s.at ∷ [] }

-- a state is found: an instruction starts there, and either the state was known or its offset had no depth
abbrev pub Arrives : List Bool → State → Found → Found → Type 0
Arrives starts s old new =
    (slice_index_or starts s.at false ≡ true) × ((Has old s × (new ≡ old)) ⊎ ((depth_at old.depths s.at ≡ None) × (new ≡ with_state s old)))

-- a state cannot be found: no instruction starts there, or its offset has another depth
abbrev pub Clashes : List Bool → State → Found → Type 0
Clashes starts s found =
    (slice_index_or starts s.at false ≡ false) ⊎ ((d : ℕ) × (depth_at found.depths s.at ≡ Some d) × (d ≢ s.depth))

-- the search stops because of this, or for want of memory
abbrev pub StopsFor : Stop → Type 0 → Type 0
StopsFor stop.Unsound Why = Why
StopsFor stop.NoMemory Why = Unit {0}

-- what was found is true of the code
pub record IsTrueOf (code : List ℕ) (notes : List TryNote) (found : Found) : Type 0 where
  pub size : length found.depths ≡ length code
  pub reached : (s : State) → Has found s → Reaches code notes s
  pub starts : (s : State) → Has found s → IsSome (instruction_at code s.at)
  pub pending : (at : ℕ) → Contains found.pending at → IsSome (depth_at found.depths at)
  -- each offset that was given a depth may have raised it by 2
  pub bound : (s : State) → Has found s → s.depth + 2 * unset found.depths + 2 ≤ 2 * length code

-- more was found
pub record Goes (code : List ℕ) (notes : List TryNote) (old new : Found) : Type 0 where
  pub true_of : IsTrueOf code notes new
  pub has : (s : State) → Has old s → Has new s
  pub waits : (s : State) → Has new s → Has old s ⊎ Contains new.pending s.at
  pub kept : (at : ℕ) → Contains old.pending at → Contains new.pending at
  pub work : length new.pending + unset new.depths ≡ length old.pending + unset old.depths

-- a state is not stuck, and all that its steps lead to was found
pub record IsLookedAt (code : List ℕ) (notes : List TryNote) (found : Found) (s : State) : Type 0 where
  pub free : is_stuck code s ≡ false
  pub closed : All (Has found) (steps code notes s)

abbrev pub HasNoTable : List ℕ → List TryNote → Type 0
HasNoTable code notes = HasDepthTable code notes → ⊥

-- a state of the code was found
pub record IsAt (code : List ℕ) (notes : List TryNote) (starts : List Bool) (found : Found) (s : State) : Type 0 where
  pub are_starts : AreStarts code starts
  pub true_of : IsTrueOf code notes found
  pub has : Has found s

-- more was found, these states among it
pub record Follows (code : List ℕ) (notes : List TryNote) (old new : Found) (states : List State) : Type 0 where
  pub goes : Goes code notes old new
  pub has : All (Has new) states

-- a landing is found, if there is one
abbrev pub Lands : List Bool → ℕ → ℕ → Option Landing → Found → Found → Type 0
Lands starts depth taken None old new = new ≡ old
Lands starts depth taken (Some l) old new = Arrives starts (landed depth taken l) old new

abbrev pub Blocked : List Bool → ℕ → ℕ → Option Landing → Found → Type 0
Blocked starts depth taken None found = ⊥
Blocked starts depth taken (Some l) found = Clashes starts (landed depth taken l) found

-- the first state was found, and each state that was found waits or is looked at
pub record IsSearched (code : List ℕ) (notes : List TryNote) (found : Found) : Type 0 where
  pub true_of : IsTrueOf code notes found
  pub first : Has found first_state
  pub looked : (s : State) → Has found s → Contains found.pending s.at ⊎ IsLookedAt code notes found s
