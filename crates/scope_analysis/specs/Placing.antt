-- How far the bindings of one scope have been placed.
use Rattle.std.specs.Prelude.{◌≡◌, ℕ, ◌+◌, ◌^◌, ◌<◌, List, ◌++◌, count_by}
use Rattle.stencil_data.specs.declared.chains.LinkName.{LinkName}
use Rattle.stencil_data.specs.declared.records.ClosedName.{ClosedName}
use Rattle.stencil_data.specs.declared.scopes.ScopeKind.TheVariants as scope
use Rattle.stencil_data.specs.Fits.{NamesFit}
use Rattle.stencil_data.specs.Named.{NamedScope}
use Rattle.stencil_data.specs.Slots.{Unplaced, slots_from, takes_frame}
use Rattle.scope_analysis.specs.DeclaredNames.{Text, Declaration}
use Rattle.scope_analysis.specs.Scopes.{unplaced, placed}
use Rattle.scope_analysis.specs.Closed.{closed_bindings, closed_from, named_left}

-- bindings of a scope other than the global one, by the next environment, argument and frame slots
abbrev pub placed_at : ℕ → ℕ → ℕ → List Text → List Declaration → List LinkName
placed_at env arg frame inner ds = placed ds (slots_from scope.Lexical env arg frame (unplaced inner ds))

abbrev pub envs_of : List Text → List Declaration → ℕ
envs_of inner ds = count_by (λ (binding : Unplaced). binding.closed) (unplaced inner ds)

abbrev pub frames_of : ℕ → ℕ → ℕ → List Text → List Declaration → ℕ
frames_of env arg frame inner ds = count_by takes_frame (slots_from scope.Lexical env arg frame (unplaced inner ds))

-- the names of this scope stand next among the closed ones that are left, and their slots fit
pub record Ready (texts : List (List ℕ)) (closed : List ClosedName) (number : ℕ) (inner : List Text) (later : List NamedScope)
    (env arg frame place : ℕ) (ds : List Declaration) : Type 0 where
  pub fits : NamesFit (placed_at env arg frame inner ds)
  pub left : named_left texts closed place ≡ closed_bindings number (placed_at env arg frame inner ds) ++ closed_from (number + 1) later
  pub env_fits : env < 2 ^ 32
  pub frame_fits : frame < 2 ^ 32

-- some bindings are placed, and these names are left
pub record Going (texts : List (List ℕ)) (closed : List ClosedName) (number : ℕ) (inner : List Text) (later : List NamedScope) (first : ℕ)
    (all : List Declaration) (bs : List LinkName) (env arg frame place : ℕ) (ds : List Declaration) : Type 0 where
  pub ready : Ready texts closed number inner later env arg frame place ds
  pub bindings : bs ++ placed_at env arg frame inner ds ≡ placed_at 0 0 first inner all
  pub envs : env + envs_of inner ds ≡ envs_of inner all
  pub frames : frame + frames_of env arg frame inner ds ≡ first + frames_of 0 0 first inner all
