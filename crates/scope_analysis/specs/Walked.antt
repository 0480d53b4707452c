-- That the scopes of a part of a tree were added to those of its function.
use Rattle.std.specs.Prelude.{◌≡◌, ℕ, ◌+◌, ◌^◌, ◌<◌, List, [], ◌∷◌, ◌++◌, map, length}
use Rattle.stencil_data.specs.declared.records.ClosedName.{ClosedName}
use Rattle.stencil_data.specs.declared.scopes.ScopeKind.{ScopeKind}
use Rattle.stencil_data.specs.Fits.{NamesFit}
use Rattle.stencil_data.specs.Named.{NamedScope}
use Rattle.stencil_data.specs.StandsFor.{named_closed, named_scope}
use Rattle.stencil_data.specs.Views.{ScopeView}
use Rattle.scope_analysis.specs.declared.scoping.ScopePosition.{ScopePosition}
use Rattle.scope_analysis.specs.DeclaredNames.{Text, Declaration}
use Rattle.scope_analysis.specs.Scopes.{Within, scope_and, scope_around, scope_count}
use Rattle.scope_analysis.specs.Closed.{closed_from, closed_over, named_left}

-- the slots of all bindings fit
abbrev pub ScopesFit : List NamedScope → Type 0
ScopesFit [] = Unit {0}
ScopesFit (s ∷ ss) = NamesFit s.bindings × ScopesFit ss

abbrev pub within : ScopePosition → ℕ → Within
within around next = record { parent = around.parent; next = next; frame = around.frame }

-- these scopes were added, and of the closed names those of the later scopes are left
pub record Added (texts : List (List ℕ)) (closed : List ClosedName) (old new : List ScopeView) (to : ℕ) (part later : List NamedScope) : Type 0 where
  pub scopes : map (named_scope texts) new ≡ map (named_scope texts) old ++ part
  pub left : named_left texts closed to ≡ closed_from (length new) later

-- the same, where these scopes fit and their closed names are the next that are left, whatever scopes are after them
pub record Adds (texts : List (List ℕ)) (closed : List ClosedName) (old : List ScopeView) (from : ℕ) (new : List ScopeView) (to : ℕ)
    (part : List NamedScope) : Type 0 where
  pub adds : (later : List NamedScope) → ScopesFit part → length old + length part < 2 ^ 32
      → named_left texts closed from ≡ closed_from (length old) (part ++ later) → Added texts closed old new to part later

-- Where these scopes stand, n of them were added.
pub record Scoped (texts : List (List ℕ)) (closed : List ClosedName) (around : ScopePosition) (old : List ScopeView) (from : ℕ)
    (new : List ScopeView) (to : ℕ) (count : ℕ) (part : Within → List NamedScope) : Type 0 where
  pub counted : length new ≡ length old + count
  pub added : Adds texts closed old from new to (part (within around (length old)))

-- with what is added inside, this scope and that is added
pub record Opens (texts : List (List ℕ)) (closed : List ClosedName) (old : List ScopeView) (from : ℕ) (new : List ScopeView) (to : ℕ)
    (kind : ScopeKind) (ds : List Declaration) (around inside : ScopePosition) : Type 0 where
  pub opened : length new ≡ length old + 1
  pub opens : (inner : List Text) (content : Within → List NamedScope) (final : List ScopeView) (last : ℕ)
      → Adds texts closed new to final last (content (within inside (length new)))
      → Adds texts closed old from final last (scope_and kind ds inner content (within around (length old)))

-- the same, where the scope is left out if nothing is declared
pub record OpensAny (texts : List (List ℕ)) (closed : List ClosedName) (old : List ScopeView) (from : ℕ) (new : List ScopeView) (to : ℕ)
    (kind : ScopeKind) (ds : List Declaration) (around inside : ScopePosition) : Type 0 where
  pub opened : length new ≡ length old + scope_count ds
  pub opens : (inner : List Text) (content : Within → List NamedScope) (final : List ScopeView) (last : ℕ)
      → Adds texts closed new to final last (content (within inside (length new)))
      → Adds texts closed old from final last (scope_around kind ds inner content (within around (length old)))

-- these are the closed names of these scopes, which are fewer than 2^32, and whose slots fit
pub record CloseOver (texts : List (List ℕ)) (closed : List ClosedName) (scopes : List NamedScope) : Type 0 where
  pub few : length scopes < 2 ^ 32
  pub fit : ScopesFit scopes
  pub names : map (named_closed texts) closed ≡ closed_over scopes

-- the scopes are these, by their texts, where these are their closed names
abbrev pub AreScopes : List (List ℕ) → List ClosedName → List ScopeView → List NamedScope → Type 0
AreScopes texts closed scopes defined = CloseOver texts closed defined → map (named_scope texts) scopes ≡ defined
