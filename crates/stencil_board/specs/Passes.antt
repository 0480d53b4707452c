-- What a pass knows of the cells of a board, and what it has of the functions. This project's own choice.
use Rattle.std.specs.Prelude.{◌≡◌, ◌≢◌, ℕ, zero, suc, ◌+◌, ◌-◌, ◌≤◌, Bool, true, false, ◌&&◌, if◌then◌else◌, is_none, nat_eq, List, length, Option, Some}
use Rattle.std.specs.Prelude.{None, slice_index_or, slice_set}
use Rattle.lazy_compile.specs.declared.Delazified.{Delazified}
use Rattle.compile_initial.specs.declared.InitialStencil.{InitialStencil}
use Rattle.compile_initial.specs.Initial.{IsInitialOf}
use Rattle.lazy_function.specs.Numbered.{IsNumberIn, around_in}
use Rattle.stencil_board.specs.Files.{File, file_at}
use Rattle.stencil_board.specs.Views.{ResultView, BoardView, PassView}

-- ---- boards

-- the board is one of a script, with a cell for each function
pub record IsMadeOf (file : ℕ) (bytes : List ℕ) (initial : InitialStencil) (board : BoardView) : Type 0 where
  pub file_is : board.file ≡ file
  pub bytes_are : board.bytes ≡ bytes
  pub initial_is : board.initial ≡ initial
  pub cells : length board.cells ≡ length initial.parts.records

-- The board is one of a script, whose file is among these, at the board's place.
pub record IsBoard (files : List File) (board : BoardView) : Type 0 where
  pub picked : file_at files board.file ≡ record { bytes = board.bytes; texts = board.initial.parts.texts }
  pub initial : IsInitialOf board.bytes board.initial
  pub cells : length board.cells ≡ length board.initial.parts.records

abbrev pub IsNumberOf : BoardView → ℕ → Type 0
IsNumberOf board number = (1 ≤ number) × (number ≤ length board.cells)

-- ---- what a pass knows

-- whether the result is that of this function
abbrev pub is_of : (file number : ℕ) → ResultView → Bool
is_of file number r = nat_eq r.file file && nat_eq r.number number

-- what it knows of the cell of this function; what it keeps itself beside it
abbrev pub known_of : PassView → ℕ → Option ResultView
known_of pass number = slice_index_or pass.known (number - 1) None

abbrev pub kept_of : PassView → ℕ → Option ResultView
kept_of pass number = slice_index_or pass.own (number - 1) None

-- it knows that the cell of this function keeps the result of another one
pub record HasAnother (pass : PassView) (number : ℕ) : Type 0 where
  pub other : ResultView
  pub known : known_of pass number ≡ Some other
  pub apart : is_of pass.file number other ≡ false

-- what it keeps itself stands beside the result of another function
pub record KeepsOwnBesideOthers (pass : PassView) : Type 0 where
  pub another : (number : ℕ) (r : ResultView) → 1 ≤ number → kept_of pass number ≡ Some r → HasAnother pass number

-- the pass is one of the board
pub record BelongsTo (pass : PassView) (board : BoardView) : Type 0 where
  pub file : pass.file ≡ board.file
  pub cells : pass.cells ≡ board.cells
  pub known : length pass.known ≡ length board.cells
  pub own : length pass.own ≡ length board.cells
  pub beside : KeepsOwnBesideOthers pass

-- the pass has a place for this function
abbrev pub HasNumber : PassView → ℕ → Type 0
HasNumber pass number = (1 ≤ number) × (number ≤ length pass.own)

-- the pass once it knows this of the cell of this function; once it keeps this beside it
abbrev pub with_known : PassView → ℕ → Option ResultView → PassView
with_known pass number r = record pass { known = slice_set pass.known (number - 1) r }

abbrev pub with_own : PassView → ℕ → Option ResultView → PassView
with_own pass number r = record pass { own = slice_set pass.own (number - 1) r }

-- what was known is known now
abbrev pub Stands : Option ResultView → Option ResultView → Type 0
Stands old new = (r : ResultView) → old ≡ Some r → new ≡ Some r

-- what two passes know of the cell at a place is the same
abbrev pub AgreeAt : PassView → PassView → ℕ → Type 0
AgreeAt one two place = (r s : ResultView) → slice_index_or one.known place None ≡ Some r → slice_index_or two.known place None ≡ Some s → r ≡ s

-- what two passes know of a cell is the same, whichever function it is of
abbrev pub AgreesWith : PassView → PassView → Type 0
AgreesWith one two = (number : ℕ) (r s : ResultView) → known_of one number ≡ Some r → known_of two number ≡ Some s → r ≡ s

-- ---- what a pass has at hand

abbrev pub fitting : (file number : ℕ) → Option ResultView → Option Delazified
fitting file number None = None
fitting file number (Some r) = if is_of file number r then Some r.made else None

abbrev pub first_of : Option Delazified → Option Delazified → Option Delazified
first_of None other = other
first_of (Some made) other = Some made

-- what it keeps itself for this function
abbrev pub own_of : PassView → ℕ → Option Delazified
own_of pass number = fitting pass.file number (kept_of pass number)

-- what it has for this function: what it keeps itself, else the value of the cell, if that is of this function
abbrev pub at_hand : PassView → ℕ → Option Delazified
at_hand pass number = first_of (own_of pass number) (fitting pass.file number (known_of pass number))

-- it knows nothing and has nothing
abbrev pub KnowsNothing : PassView → Type 0
KnowsNothing pass = (number : ℕ) → (known_of pass number ≡ None) × (at_hand pass number ≡ None)

-- what the pass had and knew it has and knows still
pub record Keeps (old new : PassView) : Type 0 where
  pub hands : (number : ℕ) (made : Delazified) → 1 ≤ number → at_hand old number ≡ Some made → at_hand new number ≡ Some made
  pub known : (number : ℕ) → Stands (known_of old number) (known_of new number)

-- ---- how much a pass lacks

-- of the numbers from 1 to n, how many are such
abbrev pub count_to : (n : ℕ) → (ℕ → Bool) → ℕ
count_to zero p = 0
count_to (suc n) p = count_to n p + (if p (suc n) then 1 else 0)

-- for how many of these functions it has nothing
abbrev pub lacking : (ℕ → Bool) → PassView → ℕ
lacking shown pass = count_to (length pass.cells) (λ number. shown number && is_none (at_hand pass number))

-- what is around a function among these is among these, or the script itself
abbrev pub IsUpward : InitialStencil → (ℕ → Bool) → Type 0
IsUpward initial shown =
    (number : ℕ) → IsNumberIn initial number → shown number ≡ true → (around_in initial number).number ≢ 0
    → shown (around_in initial number).number ≡ true

-- The room serves for all of these functions for which the pass has nothing, this one among them.
pub record Suffices (initial : InitialStencil) (shown : ℕ → Bool) (number : ℕ) (pass : PassView) (spare : ℕ) : Type 0 where
  pub upward : IsUpward initial shown
  pub shows : shown number ≡ true
  pub room : lacking shown pass ≤ spare
