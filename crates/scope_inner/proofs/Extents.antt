-- The extents of functions that were found, and the chains at them.
use Rattle.std.proofs.Common.{◌≡◌, List, [], ◌∷◌, map, refl, sym, ◌∙◌, ap, ap₂}
use Rattle.script_grammar.specs.Interpretation.{Interpretation}
use Rattle.script_grammar.proofs.PartEquations.{func_of-fields}
use Rattle.stencil_data.specs.declared.functions.Extent.{Extent}
use Rattle.stencil_data.specs.LinkView.{LinkView}
use Rattle.stencil_data.specs.Named.{NamedScope}
use Rattle.scope_analysis.specs.Functions.{Inner}
use Rattle.emit_stmts.specs.Functions.{chain_at, extent_of, extents_of}
use Rattle.scope_inner.specs.declared.sites.FunctionSite.{FunctionSite}
use Rattle.scope_inner.specs.Sites.{Sited, sited, sited_in, extent_at}

abbrev extents_in : List Sited → List Extent
extents_in ss = map (λ (s : Sited). extent_of s.func) ss

found_extents : (i : Interpretation) (sites : List FunctionSite) → extents_in (map (sited i) sites) ≡ map extent_at sites
found_extents i [] = refl
found_extents i (s ∷ ss) = ap₂ (λ (e : Extent) (es : List Extent). e ∷ es) (ap extent_of (func_of-fields i s.func.now)) (found_extents i ss)

inner_extents : (scopes : List NamedScope) (outer : List LinkView) (inner : List Inner) → extents_in (map (sited_in scopes outer) inner) ≡ extents_of inner
inner_extents scopes outer [] = refl
inner_extents scopes outer (f ∷ fs) = ap (λ (es : List Extent). extent_of f.func ∷ es) (inner_extents scopes outer fs)

pub extents_are : {extents : List Extent} (sites : List FunctionSite) → extents ≡ map extent_at sites → (i : Interpretation) (scopes : List NamedScope) (outer : List LinkView) (inner : List Inner) → map (sited i) sites ≡ map (sited_in scopes outer) inner → extents ≡ extents_of inner
extents_are sites is i scopes outer inner same = is ∙ (sym (found_extents i sites) ∙ (ap extents_in same ∙ inner_extents scopes outer inner))

-- the chains that are handed down
found_chains : (i : Interpretation) (sites : List FunctionSite) → map (λ (s : Sited). s.chain) (map (sited i) sites) ≡ map (λ (s : FunctionSite). s.chain) sites
found_chains i [] = refl
found_chains i (s ∷ ss) = ap (λ (cs : List (List LinkView)). s.chain ∷ cs) (found_chains i ss)

inner_chains : (scopes : List NamedScope) (outer : List LinkView) (inner : List Inner) → map (λ (s : Sited). s.chain) (map (sited_in scopes outer) inner) ≡ map (chain_at scopes outer) inner
inner_chains scopes outer [] = refl
inner_chains scopes outer (f ∷ fs) = ap (λ (cs : List (List LinkView)). chain_at scopes outer f ∷ cs) (inner_chains scopes outer fs)

pub chains_are : (sites : List FunctionSite) (i : Interpretation) (scopes : List NamedScope) (outer : List LinkView) (inner : List Inner) → map (sited i) sites ≡ map (sited_in scopes outer) inner → map (λ (s : FunctionSite). s.chain) sites ≡ map (chain_at scopes outer) inner
chains_are sites i scopes outer inner same = sym (found_chains i sites) ∙ (ap (map (λ (s : Sited). s.chain)) same ∙ inner_chains scopes outer inner)
