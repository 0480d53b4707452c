-- Where a walk stands, in the words of the definitions.
use Rattle.std.specs.Prelude.{ℕ, Bool, true, false, List, ◌∷◌, map}
use Rattle.stencil_data.specs.LinkView.{LinkView}
use Rattle.stencil_data.specs.Named.{NamedScope}
use Rattle.stencil_data.specs.StandsFor.{named_scope}
use Rattle.emit_stmts.specs.Frames.{scope_at, chain_link}
use Rattle.scope_inner.specs.declared.places.InnerContext.{InnerContext}

-- the scopes of the function, and the chain of those around
pub record Spot : Type 0 where
  pub scopes : List NamedScope
  pub chain : List LinkView

abbrev pub spot_of : InnerContext → Spot
spot_of p = record { scopes = map (named_scope p.texts.now) p.scopes.now; chain = p.chain.now }

abbrev pub scope_in : Spot → ℕ → NamedScope
scope_in p number = scope_at p.scopes number

-- under this chain
abbrev pub inside_spot : List LinkView → Spot → Spot
inside_spot chain p = record { scopes = p.scopes; chain = chain }

-- the chain inside the scope with this number, where there is one
abbrev pub entered : Spot → ℕ → Bool → List LinkView
entered p number false = p.chain
entered p number true = chain_link (scope_in p number) ∷ p.chain

abbrev pub entered_count : Bool → ℕ
entered_count false = 0
entered_count true = 1
