-- What a visit of a function finds. This project's own choice.
use Rattle.std.specs.Prelude.{◌≡◌, ℕ, ◌^◌, ◌≤◌, List, length}
use Rattle.compile_initial.specs.Initial.{IsInitialOf}
use Rattle.relazy_board.specs.BoardView.{BoardView}
use Rattle.session_churn.specs.declared.visits.Visit.{Visit}
use Rattle.session_churn.specs.Counts.{FunctionHas}

-- The board is over a script of n functions, which are not too many.
pub record CanBeVisited (board : BoardView) (functions : ℕ) : Type 0 where
  pub initial : IsInitialOf board.bytes board.initial
  pub all : functions ≡ length board.initial.parts.records
  pub few : functions ≤ 2 ^ 19

abbrev pub size_of : Visit → ℕ
size_of visit = visit.instructions

-- no more functions were compiled for a visit than a script that can be visited has
abbrev pub IsFew : Visit → Type 0
IsFew visit = visit.compiled ≤ 2 ^ 19

-- the visit of the function of this number: its instructions, and how many functions were compiled for it
pub record IsVisitOf (bytes : List ℕ) (number : ℕ) (visit : Visit) : Type 0 where
  pub instructions : FunctionHas bytes number visit.instructions
  pub few : IsFew visit
