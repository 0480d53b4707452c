-- How many functions a script has, at all depths.
use Rattle.std.specs.Prelude.{ℕ, ◌+◌, List, [], ◌∷◌}
use Rattle.script_grammar.specs.Tree.{Stmts}
use Rattle.scope_analysis.specs.Functions.{Inner, inner_function, inner_script}

-- those of a list and all that are in them
pub data Counts : List Inner → ℕ → Type 0 where
  no_functions : Counts [] 0
  more_functions : (f : Inner) (rest : List Inner) (inside after : ℕ) → Counts (inner_function f.kind f.name f.func) inside → Counts rest after
      → Counts (f ∷ rest) (1 + inside + after)

abbrev pub HasFunctions : Stmts → ℕ → Type 0
HasFunctions items count = Counts (inner_script items) count
