-- What clauses see of a board and of a pass.
use Rattle.std.specs.Prelude.{ℕ, List, Option}
use Rattle.compile_initial.specs.declared.InitialStencil.{InitialStencil}
use Rattle.lazy_compile.specs.declared.Delazified.{Delazified}

-- a result, with the place of its file among the files and the number of its function
pub record ResultView : Type 0 where
  pub file : ℕ
  pub number : ℕ
  pub made : Delazified

-- a board: its file, and the names of its cells, one for each function, in order of number
pub record BoardView : Type 0 where
  pub file : ℕ
  pub bytes : List ℕ
  pub initial : InitialStencil
  pub cells : List ℕ

-- a pass: the cells that it is of, what it knows of the value of each, and what it keeps beside each
pub record PassView : Type 0 where
  pub file : ℕ
  pub cells : List ℕ
  pub known : List (Option ResultView)
  pub own : List (Option ResultView)
