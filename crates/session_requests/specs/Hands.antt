-- When a worker fits the files whose functions are asked for. This project's own choice.
use Rattle.std.specs.Prelude.{◌≡◌, ℕ, ◌+◌, ◌≤◌, false, List, [], ◌∷◌, Option, Some, None}
use Rattle.compile_shown.specs.Shown.{flagged}
use Rattle.stencil_board.specs.Passes.{BelongsTo, lacking}
use Rattle.session_requests.specs.Views.{WorkView, SeatView, HandView}

-- The seat is at the file's board. As many functions as are shown can be counted there, and, unless memory was wanting once, the
-- room serves for all of these that are not known.
pub record FitsWork (work : WorkView) (seat : SeatView) : Type 0 where
  pub belongs : BelongsTo seat.pass work.board
  pub lent : seat.count + seat.room ≡ work.count
  pub room : seat.spent ≡ false → lacking (flagged work.shown) seat.pass ≤ seat.room

-- the same of a file, which is a script or is not
abbrev pub FitsFile : Option WorkView → Option SeatView → Type 0
FitsFile None None = Unit {0}
FitsFile None (Some seat) = ⊥
FitsFile (Some work) None = ⊥
FitsFile (Some work) (Some seat) = FitsWork work seat

-- a seat for each file
abbrev pub FitAll : List (Option WorkView) → List (Option SeatView) → Type 0
FitAll [] [] = Unit {0}
FitAll [] (seat ∷ seats) = ⊥
FitAll (work ∷ works) [] = ⊥
FitAll (work ∷ works) (seat ∷ seats) = FitsFile work seat × FitAll works seats

abbrev pub Fits : List (Option WorkView) → HandView → Type 0
Fits works hand = FitAll works hand.seats

-- ---- how many functions were compiled

abbrev pub count_of : Option SeatView → ℕ
count_of None = 0
count_of (Some seat) = seat.count

abbrev pub count_total : List (Option SeatView) → ℕ
count_total [] = 0
count_total (seat ∷ seats) = count_of seat + count_total seats

-- by all workers
abbrev pub compiled_total : List HandView → ℕ
compiled_total [] = 0
compiled_total (hand ∷ hands) = count_total hand.seats + compiled_total hands
