-- That the functions directly in a part of a tree were found, with the chain at each.
use Rattle.std.specs.Prelude.{◌≡◌, ℕ, ◌+◌, ◌≤◌, List, ◌++◌, map, length}
use Rattle.script_grammar.specs.Interpretation.{Interpretation}
use Rattle.stencil_data.specs.LinkView.{LinkView}
use Rattle.stencil_data.specs.Named.{NamedScope}
use Rattle.scope_analysis.specs.Functions.{Inner}
use Rattle.emit_stmts.specs.Frames.{scope_at, chain_link}
use Rattle.scope_inner.specs.declared.sites.FunctionSite.{FunctionSite}
use Rattle.scope_inner.specs.Sites.{sited, sited_in}
use Rattle.scope_inner.specs.Spots.{Spot}

-- the chain inside the scopes with these numbers
abbrev pub chain_around : List NamedScope → List LinkView → List ℕ → List LinkView
chain_around scopes outer around = map (λ (number : ℕ). chain_link (scope_at scopes number)) around ++ outer

-- ---- in expressions, which enter no scope

-- these functions were found, where the chain is that of the scopes around
pub record Finds (i : Interpretation) (old new : List FunctionSite) (chain : List LinkView) (inner : List ℕ → List Inner) : Type 0 where
  pub found : (scopes : List NamedScope) (outer : List LinkView) (around : List ℕ) → chain ≡ chain_around scopes outer around
      → map (sited i) new ≡ map (sited i) old ++ map (sited_in scopes outer) (inner around)

-- whatever the atoms and the bodies that were passed over stand for
pub record FindsBy (old new : List FunctionSite) (chain : List LinkView) (inner : Interpretation → List ℕ → List Inner) : Type 0 where
  pub finds : (i : Interpretation) → Finds i old new chain (inner i)

-- ---- in statements, whose first scope has this number

-- these functions were found, and the next scope is after n scopes, where there are as many
pub record FindsAt (i : Interpretation) (p : Spot) (old new : List FunctionSite) (number next : ℕ) (count : ℕ)
    (inner : ℕ → List ℕ → List Inner) : Type 0 where
  pub counted : number + count ≤ length p.scopes → next ≡ number + count
  pub found : (outer : List LinkView) (around : List ℕ) → number + count ≤ length p.scopes → p.chain ≡ chain_around p.scopes outer around
      → map (sited i) new ≡ map (sited i) old ++ map (sited_in p.scopes outer) (inner number around)

pub record FindsIn (p : Spot) (old new : List FunctionSite) (number next : ℕ) (count : Interpretation → ℕ)
    (inner : Interpretation → ℕ → List ℕ → List Inner) : Type 0 where
  pub finds : (i : Interpretation) → FindsAt i p old new number next (count i) (inner i)
