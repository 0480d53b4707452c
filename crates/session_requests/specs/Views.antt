-- What clauses see of a file whose functions can be asked for, and of a worker.
use Rattle.std.specs.Prelude.{ℕ, Bool, List, Option}
use Rattle.stencil_board.specs.Views.{BoardView, PassView}

-- a file that is a script: its board, of each function whether it is shown, and how many are
pub record WorkView : Type 0 where
  pub board : BoardView
  pub shown : List Bool
  pub count : ℕ

-- a worker at a file: what it knows of its functions, how many it compiled, how many more it may compile, and whether memory was
-- wanting once
pub record SeatView : Type 0 where
  pub pass : PassView
  pub count : ℕ
  pub room : ℕ
  pub spent : Bool

-- a worker: its seats, one for each file, and the tasks that it ran
pub record HandView : Type 0 where
  pub seats : List (Option SeatView)
  pub ran : List ℕ
