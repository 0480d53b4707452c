-- Of the names that the functions of a script close over, those that one function binds, or the script itself, each with
-- the number of its scope. This project's own choice.
use Rattle.std.specs.Prelude.{ℕ, Bool, true, false, nat_eq, List, map, filter, Option, Some, None, not}
use Rattle.script_grammar.specs.Tree.{Function, function}
use Rattle.stencil_data.specs.declared.records.ClosedName.{ClosedName}
use Rattle.stencil_data.specs.Named.{NamedClosed}
use Rattle.parse_track.specs.declared.region.ClosedAt.{ClosedAt}
use Rattle.parse_track.specs.ClosedNames.{Bound}
use Rattle.scope_analysis.specs.DeclaredNames.{Text}

abbrev pub is_top : Option ℕ → Bool
is_top None = true
is_top (Some start) = false

abbrev pub is_start : Option ℕ → ℕ → Bool
is_start None start = false
is_start (Some s) start = nat_eq s start

-- a binding, without its function
abbrev pub placed_name : Bound Text → NamedClosed
placed_name b = record { scope = b.scope; text = b.name }

-- those that the script binds
abbrev pub closed_at_top : List (Bound Text) → List NamedClosed
closed_at_top bound = map placed_name (filter (λ (b : Bound Text). is_top b.func) bound)

-- those that the function binds whose parameters start here
abbrev pub closed_of : List (Bound Text) → ℕ → List NamedClosed
closed_of bound start = map placed_name (filter (λ (b : Bound Text). is_start b.func start) bound)

-- those outside the global scope, which has number 0
abbrev pub behind_global : List NamedClosed → List NamedClosed
behind_global closed = filter (λ (c : NamedClosed). not (nat_eq c.scope 0)) closed

-- where the parameters of a function start
abbrev pub function_start : Function → ℕ
function_start (function _ start _ _ _ _ _ _) = start

-- The same of bindings as the code keeps them.
abbrev pub closed_name : ClosedAt → ClosedName
closed_name at = record { scope = at.scope; atom = at.atom }

abbrev pub top_names : List ClosedAt → List ClosedName
top_names ats = map closed_name (filter (λ (at : ClosedAt). is_top at.func) ats)

abbrev pub names_of_function : List ClosedAt → ℕ → List ClosedName
names_of_function ats start = map closed_name (filter (λ (at : ClosedAt). is_start at.func start) ats)
