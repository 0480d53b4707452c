-- What a visit of the code leaves after, in the words of the walk.
use Rattle.std.specs.Prelude.{ℕ, ◌≡◌, ◌+◌, ◌++◌, Bool, false, Option, None, List, length, map, slice_get, nat_eq}
use Rattle.parse_track.specs.declared.closed.RegionContext.{RegionContext}
use Rattle.parse_track.specs.declared.closed.FoundClosed.{FoundClosed}
use Rattle.parse_track.specs.declared.track.RegionRow.{RegionRow}
use Rattle.parse_track.specs.Told.{Region, Told, KnownNames}
use Rattle.parse_track.specs.Log as log
use Rattle.parse_track.specs.Rows.{row_of, told_at}
use Rattle.parse_track.specs.ClosedNames.{Bound, at_of, bindings, scope_count}
use Rattle.parse_track.specs.Scopes.{bounds_of}
use Rattle.parse_track.specs.AtomTables.{entry}
use Rattle.parse_track.specs.Walk.{Tops, walk}

-- the bindings so far, the places that were hit, to what each name is bound, and the number of the next scope
pub record Stand : Type 0 where
  pub bound : List (Bound ℕ)
  pub hits : List ℕ
  pub tops : Tops
  pub scope : ℕ

pub record Visits (known : KnownNames ℕ) (named : Bool) (func : Option ℕ) (depth : ℕ) (before now : Stand) (t : Told ℕ) : Type 0 where
  pub binds : now.bound ≡ before.bound ++ bindings nat_eq known named func before.scope t
  pub hits : now.hits ≡ before.hits ++ walk known named before.tops (length before.bound) depth t
  pub same : (y : ℕ) → now.tops y ≡ before.tops y
  pub next : now.scope ≡ before.scope + scope_count nat_eq known named t

abbrev pub stand_of : FoundClosed → ℕ → Stand
stand_of found scope = record { bound = bounds_of found.bound.items; hits = found.hits.items; tops = entry found.env.entries.items; scope = scope }

abbrev pub IsVisited : KnownNames ℕ → RegionContext → ℕ → FoundClosed → FoundClosed → ℕ → Told ℕ → Type 0
IsVisited known around scope before now next t = Visits known around.named around.func around.depth (stand_of before scope) (stand_of now next) t

-- the same where no function is around
abbrev pub IsVisitedOutside : KnownNames ℕ → ℕ → FoundClosed → FoundClosed → ℕ → Told ℕ → Type 0
IsVisitedOutside known scope before now next t = Visits known false None 0 (stand_of before scope) (stand_of now next) t

-- where the function begins that begins at a region of this kind
abbrev pub begun_at : ℕ → List RegionRow → Region ℕ → ℕ → ℕ
begun_at room rows k region = at_of k (log.at_of (slice_get (map row_of rows) region)) (told_at room rows region)
