-- The names that inner functions close over, by the function that binds them. This project's own choice.
use Rattle.std.specs.Prelude.{◌≡◌, ℕ, List, [], ◌∷◌, ◌++◌, map, filter, cond, Option, Some, None}
use Rattle.std.specs.BTreeMap.{is_at}
use Rattle.std.specs.Map.{lookup}
use Rattle.std.specs.Ordering.{nat_cmp}
use Rattle.std.specs.declared.vec.Vec.{Vec}
use Rattle.std.specs.declared.alloc.Global.{Global}
use Rattle.stencil_data.specs.declared.records.ClosedName.{ClosedName}
use Rattle.parse_track.specs.declared.region.ClosedAt.{ClosedAt}
use Rattle.compile_specs.specs.Shown.{is_start}
use Rattle.scope_closed_laws.specs.Handed.{is_top}

-- a closed name, without its function
abbrev pub name_of : ClosedAt → ClosedName
name_of at = record { scope = at.scope; atom = at.atom }

-- those that the script binds, in their order
abbrev pub names_at_top : List ClosedAt → List ClosedName
names_at_top closed = map name_of (filter (λ (at : ClosedAt). is_top at.func) closed)

-- those that the function binds whose parameters start here
abbrev pub names_at : List ClosedAt → ℕ → List ClosedName
names_at closed start = map name_of (filter (λ (at : ClosedAt). is_start at.func start) closed)

-- what is seen of names by the function that binds them: those of the script, and of functions by the offsets where they start
pub record NamesView : Type 0 where
  pub top : List ClosedName
  pub functions : List (ℕ × Vec ClosedName Global)

-- the names that a map has of a function: none where it has no list
abbrev pub names_or : Option (Vec ClosedName Global) → List ClosedName
names_or None = []
names_or (Some names) = names.items

-- the names of the function that starts here
abbrev pub names_in : NamesView → ℕ → List ClosedName
names_in names start = names_or (lookup (is_at (nat_cmp start)) names.functions)

-- the names of these, by their functions
pub record AreSorted (closed : List ClosedAt) (names : NamesView) : Type 0 where
  pub top : names.top ≡ names_at_top closed
  pub inside : (start : ℕ) → names_in names start ≡ names_at closed start

-- one more name, after those of its function
pub record Takes (at : ClosedAt) (old new : NamesView) : Type 0 where
  pub top : new.top ≡ old.top ++ cond (is_top at.func) (name_of at ∷ []) []
  pub inside : (start : ℕ) → names_in new start ≡ names_in old start ++ cond (is_start at.func start) (name_of at ∷ []) []
