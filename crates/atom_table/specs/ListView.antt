-- What clauses see of a list of texts. This project's own choice.
use Rattle.std.specs.Prelude.{ℕ, List}
use Rattle.std.specs.declared.hash.RandomState.{RandomState}

-- texts, numbered from 0, and the keys by which they are hashed
pub record ListView : Type 0 where
  pub keys : RandomState
  pub texts : List (List ℕ)
