-- What clauses see of the table and of a desk. This project's own choice.
use Rattle.std.specs.Prelude.{ℕ, List}
use Rattle.atomic_table.specs.Seated.{TableId}
use Rattle.atom_table.specs.ListView.{ListView}

-- a table: which one it is, and the texts that it is over
pub record TableName : Type 0 where
  pub id : TableId
  pub list : ListView

-- a desk: the table that it belongs to, and the words that it has seen there, each with its place
pub record DeskView : Type 0 where
  pub table : TableName
  pub seen : List (ℕ × ℕ)
