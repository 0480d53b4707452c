-- What compiling a function asks for, and why it gives the function.
use Rattle.std.proofs.Common.{◌≡◌, ℕ, ◌<◌, ◌^◌, List, map, length, Option, option_map, sym, ap, subst, arith}
use Rattle.std.proofs.lemmas.List.{length-map}
use Rattle.script_grammar.specs.declared.tree.Func.{Func}
use Rattle.script_grammar.specs.Interpretation.{Interpretation}
use Rattle.script_grammar.specs.Tree.{Body, Stmts}
use Rattle.script_grammar.specs.TreeOf.{func_of}
use Rattle.stencil_data.specs.declared.functions.Extent.{Extent}
use Rattle.stencil_data.specs.declared.functions.FuncKind.{FuncKind}
use Rattle.stencil_data.specs.declared.records.ClosedName.{ClosedName}
use Rattle.stencil_data.specs.Fits.{ChainFits}
use Rattle.stencil_data.specs.LinkView.{LinkView}
use Rattle.stencil_data.specs.Named.{NamedScope}
use Rattle.stencil_data.specs.StandsFor.{text_at, named_scope, ScopesStandFor, FunctionStandsFor}
use Rattle.stencil_data.specs.Views.{ScopeView, FunctionView}
use Rattle.bytecode_buf.specs.Command.{ShowsCommands}
use Rattle.scope_analysis.specs.FunctionTree.{HasBody, KnowsNames}
use Rattle.scope_analysis.specs.Functions.{Inner, inner_function}
use Rattle.scope_analysis.specs.Kept.{under}
use Rattle.scope_analysis.specs.Scopes.{function_scopes}
use Rattle.scope_analysis.specs.Walked.{AreScopes, ScopesFit}
use Rattle.emit_exprs.specs.Rising.{Rises}
use Rattle.emit_stmts.specs.Functions.{extents_of, function_script}
use Rattle.emit_functions.specs.FunctionCode.{FunctionFits, Belong, IsFunctionStencil, scopes_in}
use Rattle.scope_inner.specs.declared.sites.FunctionSite.{FunctionSite}
use Rattle.scope_inner.specs.FunctionSites.{AreFunctionSites}
use Rattle.scope_inner.specs.Sites.{Sited, sited, sited_in}
use Rattle.compile_function.specs.Compiling.{CanBeCompiled, IsCompiledFunction}
use Rattle.compile_function.proofs.Atoms.{scopes_within, name_within}

-- the extents are those of the functions that were found
abbrev pub ExtentsOf : List Extent → List FunctionSite → Type 0
ExtentsOf extents found = (i : Interpretation) (scopes : List NamedScope) (outer : List LinkView) (inner : List Inner) → map (sited i) found ≡ map (sited_in scopes outer) inner → extents ≡ extents_of inner

-- the scopes are those of the function, where its body was read
abbrev pub ScopesOf : List (List ℕ) → Func → FuncKind → Option ℕ → List ClosedName → List ScopeView → Type 0
ScopesOf texts tree kind name closed scopes =
    (bodies : ℕ → Stmts) (b : Body) → HasBody (under texts bodies) tree b → KnowsNames texts → AreScopes texts closed scopes (function_scopes kind (option_map (text_at texts) name) (func_of (under texts bodies) tree))

-- what emitting a function asks for
pub record Asks (texts : List (List ℕ)) (around : List LinkView) (scopes : List ScopeView) (extents : List Extent) : Type 0 where
  pub chain : ChainFits 60000 around
  pub few_scopes : length scopes < 2 ^ 32
  pub slots : ScopesFit (map (named_scope texts) scopes)
  pub few_inner : length extents < 2 ^ 32
  pub ordered : Rises 0 extents

-- the scopes that the definition has of a function, and the functions directly in it
abbrev scopes_of : Sited → List NamedScope
scopes_of f = function_scopes f.kind f.name f.func

abbrev inner_of : Sited → List Inner
inner_of f = inner_function f.kind f.name f.func

module _ (texts : List (List ℕ)) (bodies : ℕ → Stmts) (tree : Func) (kind : FuncKind) (name : Option ℕ) (closed : List ClosedName) (chain : List LinkView) (f : Sited) (can : CanBeCompiled texts bodies tree kind name closed chain f) where
  -- ---- scopes

  scopes_are : (scopes : List ScopeView) → ScopesOf texts tree kind name closed scopes → map (named_scope texts) scopes ≡ scopes_of f
  scopes_are scopes made =
      subst (λ (x : Sited). AreScopes texts closed scopes (function_scopes x.kind x.name x.func)) can.is (made bodies can.body can.read can.knows)
      (record { few = can.within.few_scopes; fit = can.within.slots; names = can.closed_are })

  module _ (scopes : List ScopeView) (are : map (named_scope texts) scopes ≡ scopes_of f) where
    few_scopes : length scopes < 2 ^ 32
    few_scopes =
        let e = length-map scopes (named_scope texts) in
        let s = ap length are in
        let few = can.within.few_scopes in
        omega (arith, e, s, few)

    slots_fit : ScopesFit (map (named_scope texts) scopes)
    slots_fit = subst ScopesFit (sym are) can.within.slots

    chain_fits : ChainFits 60000 chain
    chain_fits = subst (ChainFits 60000) (sym (ap (λ (x : Sited). x.chain) can.is)) can.within.chain_fits

    -- ---- the functions directly in it

    sites_are : (found : List FunctionSite) → AreFunctionSites texts scopes chain tree found → map (sited (under texts bodies)) found ≡ map (sited_in (scopes_of f) f.chain) (inner_of f)
    sites_are found h =
        subst (λ (x : Sited). map (named_scope texts) scopes ≡ function_scopes x.kind x.name x.func → map (sited (under texts bodies)) found ≡ map (sited_in (function_scopes x.kind x.name x.func) x.chain) (inner_function x.kind x.name x.func)) can.is
        (h bodies can.body kind (option_map (text_at texts) name) can.read) are

    extents_are : (found : List FunctionSite) (extents : List Extent) → AreFunctionSites texts scopes chain tree found → ExtentsOf extents found → extents ≡ extents_of (inner_of f)
    extents_are found extents h e = e (under texts bodies) (scopes_of f) f.chain (inner_of f) (sites_are found h)

    module _ (extents : List Extent) (extents_same : extents ≡ extents_of (inner_of f)) where
      few_inner : length extents < 2 ^ 32
      few_inner = subst (λ (es : List Extent). length es < 2 ^ 32) (sym extents_same) can.within.few_inner

      ordered : Rises 0 extents
      ordered = subst (Rises 0) (sym extents_same) can.within.ordered

      -- ---- the stencil

      belongs : Belong texts kind name scopes extents (func_of (under texts bodies) tree)
      belongs = record {
        name_within = name_within texts name f.name (ap (λ (x : Sited). x.name) can.is) can.full_name;
        scopes_are = subst (λ (x : Sited). ScopesStandFor texts scopes (function_scopes x.kind x.name x.func)) (sym can.is) (record { within = scopes_within texts scopes (scopes_of f) are can.full; are = are });
        inner_are = subst (λ (x : Sited). extents ≡ extents_of (inner_function x.kind x.name x.func)) (sym can.is) extents_same;
        fit = subst (λ (x : Sited). FunctionFits x.func) (sym can.is) can.within.fit;
        numbered = subst (λ (x : Sited). scopes_in x.kind x.name x.func < 2 ^ 64) (sym can.is) can.within.numbered;
      }

      stencil_is : (part : FunctionView) → IsFunctionStencil texts kind name scopes extents chain tree part → FunctionStandsFor ShowsCommands texts part (function_script f.kind f.name f.func f.chain).part
      stencil_is part h =
          subst (λ (x : Sited). FunctionStandsFor ShowsCommands texts part (function_script x.kind x.name x.func x.chain).part) can.is (h bodies can.body can.read belongs)

  -- ---- by what was called

  module _ (scopes : List ScopeView) (found : List FunctionSite) (extents : List Extent) (scopes_seen : List ScopeView) (found_seen : List FunctionSite)
      (scoped : ScopesOf texts tree kind name closed scopes)
      (scopes_same : scopes_seen ≡ scopes) (sites : AreFunctionSites texts scopes_seen chain tree found)
      (found_same : found_seen ≡ found) (ends : ExtentsOf extents found_seen) where
    are : map (named_scope texts) scopes ≡ scopes_of f
    are = scopes_are scopes scoped

    sites_found : AreFunctionSites texts scopes chain tree found
    sites_found = subst (λ (ss : List ScopeView). AreFunctionSites texts ss chain tree found) scopes_same sites

    extents_same : extents ≡ extents_of (inner_of f)
    extents_same = extents_are scopes are found extents sites_found (subst (λ (fs : List FunctionSite). ExtentsOf extents fs) found_same ends)

    pub asks : Asks texts chain scopes extents
    asks = record { chain = chain_fits scopes are; few_scopes = few_scopes scopes are; slots = slots_fit scopes are; few_inner = few_inner scopes are extents extents_same; ordered = ordered scopes are extents extents_same }

    pub compiled : (part : FunctionView) → IsFunctionStencil texts kind name scopes extents chain tree part → IsCompiledFunction texts bodies part found f
    compiled part stencil = record { stands = stencil_is scopes are extents extents_same part stencil; found = sites_are scopes are found sites_found }
