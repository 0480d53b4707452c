-- The scopes of a region and their bindings, as the code keeps them.
use Rattle.std.specs.Prelude.{ℕ, ◌≡◌, ◌+◌, Option, List, [], ◌∷◌, ◌++◌, map, nat_eq, length}
use Rattle.script_grammar.specs.declared.tree.Ident.{Ident}
use Rattle.parse_track.specs.declared.region.ClosedAt.{ClosedAt}
use Rattle.parse_track.specs.declared.names.Asked.TheVariants as asked
use Rattle.parse_track.specs.Asked.{asks}
use Rattle.parse_track.specs.Told.{Name, Told}
use Rattle.parse_track.specs.RegionNames.{vars, directly}
use Rattle.parse_track.specs.Log.{name_of}
use Rattle.parse_track.specs.ClosedNames.{Bound, bound_by, distinct, names_of, function_scopes, scope_if_any, has_body}

-- a binding, as the code keeps it
abbrev pub bound_of : ClosedAt → Bound ℕ
bound_of at = record { func = at.func; scope = at.scope; name = at.atom }

abbrev pub bounds_of : List ClosedAt → List (Bound ℕ)
bounds_of ats = map bound_of ats

-- what these names are, wherever they stand
abbrev pub names_in : List Ident → List ℕ
names_in names = names_of (map name_of names)

-- the bindings of these scopes of a function come after those before, where the first scope has this number; and the number of
-- the next scope
pub record Opens (func : Option ℕ) (scope : ℕ) (before now : List ClosedAt) (next : ℕ) (scopes : List (List ℕ)) : Type 0 where
  pub binds : bounds_of now ≡ bounds_of before ++ bound_by func scope scopes
  pub next_is : next ≡ scope + length scopes

-- the scope of some names, where there are any
abbrev pub scope_of : List (Name ℕ) → List (List ℕ)
scope_of names = scope_if_any (distinct nat_eq (names_of names))

-- the scopes of a function in which this is implicit
abbrev pub function_scopes_of : List ℕ → Told ℕ → List (List ℕ)
function_scopes_of implicit told = function_scopes nat_eq implicit (has_body told) told

-- the scope of a script
abbrev pub script_scopes_of : Told ℕ → List (List ℕ)
script_scopes_of told = distinct nat_eq (names_of (vars told) ++ names_of (directly (asks asked.Lexical) told)) ∷ []

-- the scopes of a body that is a region of its own
abbrev pub body_scopes_of : Told ℕ → List (List ℕ)
body_scopes_of told = scope_of (vars told) ++ scope_of (directly (asks asked.Lexical) told)
