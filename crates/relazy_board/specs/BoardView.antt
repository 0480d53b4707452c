-- A board in clauses: its script's bytes, and the script before any of its functions is compiled. This project's own choice.
use Rattle.std.specs.Prelude.{ℕ, List}
use Rattle.compile_initial.specs.declared.InitialStencil.{InitialStencil}

pub record BoardView : Type 0 where
  pub bytes : List ℕ
  pub initial : InitialStencil
