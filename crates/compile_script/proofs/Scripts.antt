-- What compiling a script's own part asks for, and why it gives the script.
use Rattle.std.proofs.Common.{◌≡◌, ◌∙◌, ℕ, ◌+◌, ◌<◌, ◌^◌, List, [], ◌∷◌, map, length, refl, sym, ap, subst, arith}
use Rattle.std.proofs.lemmas.List.{length-map}
use Rattle.script_grammar.specs.declared.tree.Stmt.{Stmt}
use Rattle.script_grammar.specs.Interpretation.{Interpretation}
use Rattle.script_grammar.specs.Tree.{Stmts}
use Rattle.stencil_data.specs.declared.functions.Extent.{Extent}
use Rattle.stencil_data.specs.declared.records.ClosedName.{ClosedName}
use Rattle.stencil_data.specs.LinkView.{LinkView}
use Rattle.stencil_data.specs.Named.{NamedScope}
use Rattle.stencil_data.specs.StandsFor.{named_scope, ScopesStandFor, FunctionStandsFor}
use Rattle.stencil_data.specs.Views.{ScopeView, FunctionView}
use Rattle.bytecode_buf.specs.Command.{ShowsCommands}
use Rattle.scope_analysis.specs.Closed.{inside_global}
use Rattle.scope_analysis.specs.Functions.{Inner, inner_script}
use Rattle.scope_analysis.specs.Kept.{under}
use Rattle.scope_analysis.specs.Scopes.{count_stmts, script_scopes}
use Rattle.scope_analysis.specs.Walked.{AreScopes, ScopesFit}
use Rattle.emit_exprs.specs.Rising.{Rises}
use Rattle.emit_stmts.specs.Functions.{chain_at, extents_of, top_script}
use Rattle.emit_stmts.specs.ScriptCode.{WholeFits, Belong, IsTop, script_in}
use Rattle.scope_inner.specs.declared.sites.FunctionSite.{FunctionSite}
use Rattle.scope_inner.specs.FunctionSites.{AreScriptSites}
use Rattle.scope_inner.specs.Sites.{Sited, sited, sited_in}
use Rattle.compile_function.proofs.Atoms.{scopes_within}
use Rattle.compile_script.specs.Compiling.{CanBeCompiled, IsCompiledScript}

-- the extents are those of the functions that were found
abbrev pub ExtentsOf : List Extent → List FunctionSite → Type 0
ExtentsOf extents found = (i : Interpretation) (scopes : List NamedScope) (outer : List LinkView) (inner : List Inner) → map (sited i) found ≡ map (sited_in scopes outer) inner → extents ≡ extents_of inner

-- the scopes are those of the script
abbrev pub ScopesOf : List (List ℕ) → List Stmt → List ClosedName → List ScopeView → Type 0
ScopesOf texts ss closed scopes = (bodies : ℕ → Stmts) → AreScopes texts (inside_global closed) scopes (script_scopes (script_in texts bodies ss))

-- what emitting a script asks for
pub record Asks (texts : List (List ℕ)) (scopes : List ScopeView) (extents : List Extent) : Type 0 where
  pub few_scopes : length scopes < 2 ^ 32
  pub slots : ScopesFit (map (named_scope texts) scopes)
  pub few_inner : length extents < 2 ^ 32
  pub ordered : Rises 0 extents

-- ---- the chains of functions that were found

chain_of : Sited → List LinkView
chain_of s = s.chain

chains_found : (i : Interpretation) (found : List FunctionSite) → map (λ (s : FunctionSite). s.chain) found ≡ map chain_of (map (sited i) found)
unfolding chain_of
chains_found i [] = refl
chains_found i (s ∷ found) = ap (λ (cs : List (List LinkView)). s.chain ∷ cs) (chains_found i found)

chains_defined : (scopes : List NamedScope) (outer : List LinkView) (inner : List Inner) → map chain_of (map (sited_in scopes outer) inner) ≡ map (chain_at scopes outer) inner
unfolding chain_of
chains_defined scopes outer [] = refl
chains_defined scopes outer (f ∷ inner) = ap (λ (cs : List (List LinkView)). chain_at scopes outer f ∷ cs) (chains_defined scopes outer inner)

module _ (texts : List (List ℕ)) (bodies : ℕ → Stmts) (ss : List Stmt) (closed : List ClosedName) (items : Stmts) (can : CanBeCompiled texts bodies ss closed items) where
  -- ---- scopes

  scopes_are : (scopes : List ScopeView) → ScopesOf texts ss closed scopes → map (named_scope texts) scopes ≡ script_scopes items
  scopes_are scopes made =
      subst (λ (t : Stmts). AreScopes texts (inside_global closed) scopes (script_scopes t)) can.is (made bodies)
      (record { few = can.within.few_scopes; fit = can.within.slots; names = can.closed_are })

  module _ (scopes : List ScopeView) (are : map (named_scope texts) scopes ≡ script_scopes items) where
    few_scopes : length scopes < 2 ^ 32
    few_scopes =
        let e = length-map scopes (named_scope texts) in
        let f = ap length are in
        let few = can.within.few_scopes in
        omega (arith, e, f, few)

    slots_fit : ScopesFit (map (named_scope texts) scopes)
    slots_fit = subst ScopesFit (sym are) can.within.slots

    -- ---- the functions directly in it

    sites_are : (found : List FunctionSite) → AreScriptSites texts scopes ss found → map (sited (under texts bodies)) found ≡ map (sited_in (script_scopes items) []) (inner_script items)
    sites_are found h =
        subst (λ (t : Stmts). map (named_scope texts) scopes ≡ script_scopes t → map (sited (under texts bodies)) found ≡ map (sited_in (script_scopes t) []) (inner_script t)) can.is
        (h bodies) are

    chains_are : (found : List FunctionSite) (end : ℕ) → AreScriptSites texts scopes ss found → map (λ (s : FunctionSite). s.chain) found ≡ (top_script items end).chains
    chains_are found end h =
        chains_found (under texts bodies) found
        ∙ (ap (map chain_of) (sites_are found h) ∙ chains_defined (script_scopes items) [] (inner_script items))

    extents_are : (found : List FunctionSite) (extents : List Extent) → AreScriptSites texts scopes ss found → ExtentsOf extents found → extents ≡ extents_of (inner_script items)
    extents_are found extents h e = e (under texts bodies) (script_scopes items) [] (inner_script items) (sites_are found h)

    module _ (extents : List Extent) (extents_same : extents ≡ extents_of (inner_script items)) where
      few_inner : length extents < 2 ^ 32
      few_inner = subst (λ (es : List Extent). length es < 2 ^ 32) (sym extents_same) can.within.few_inner

      ordered : Rises 0 extents
      ordered = subst (Rises 0) (sym extents_same) can.within.ordered

      -- ---- the stencil

      belongs : Belong texts scopes extents (script_in texts bodies ss)
      belongs = record {
        scopes_are = subst (λ (t : Stmts). ScopesStandFor texts scopes (script_scopes t)) (sym can.is) (record { within = scopes_within texts scopes (script_scopes items) are can.full; are = are });
        inner_are = subst (λ (t : Stmts). extents ≡ extents_of (inner_script t)) (sym can.is) extents_same;
        fit = subst (WholeFits 64999 0) (sym can.is) can.within.fit;
        numbered = subst (λ (t : Stmts). 1 + count_stmts t < 2 ^ 64) (sym can.is) can.within.numbered;
      }

      stencil_is : (end : ℕ) (part : FunctionView) → IsTop texts scopes extents ss end part → FunctionStandsFor ShowsCommands texts part (top_script items end).part
      stencil_is end part h = subst (λ (t : Stmts). FunctionStandsFor ShowsCommands texts part (top_script t end).part) can.is (h bodies belongs)

  -- ---- by what was called

  module _ (scopes : List ScopeView) (found : List FunctionSite) (extents : List Extent) (scopes_seen : List ScopeView) (found_seen : List FunctionSite)
      (scoped : ScopesOf texts ss closed scopes)
      (scopes_same : scopes_seen ≡ scopes) (sites : AreScriptSites texts scopes_seen ss found)
      (found_same : found_seen ≡ found) (ends : ExtentsOf extents found_seen) where
    are : map (named_scope texts) scopes ≡ script_scopes items
    are = scopes_are scopes scoped

    sites_found : AreScriptSites texts scopes ss found
    sites_found = subst (λ (vs : List ScopeView). AreScriptSites texts vs ss found) scopes_same sites

    extents_same : extents ≡ extents_of (inner_script items)
    extents_same = extents_are scopes are found extents sites_found (subst (λ (fs : List FunctionSite). ExtentsOf extents fs) found_same ends)

    pub asks : Asks texts scopes extents
    asks = record { few_scopes = few_scopes scopes are; slots = slots_fit scopes are; few_inner = few_inner scopes are extents extents_same; ordered = ordered scopes are extents extents_same }

    pub compiled : (end : ℕ) (part : FunctionView) → IsTop texts scopes extents ss end part → IsCompiledScript texts part found items end
    compiled end part stencil = record { stands = stencil_is scopes are extents extents_same end part stencil; chains_are = chains_are scopes are found end sites_found }
