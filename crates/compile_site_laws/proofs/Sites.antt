-- The functions of a list by their numbers are those that compiling the script comes to, each under the chain at its place.
use Rattle.std.proofs.Common.{◌≡◌, ℕ, ◌+◌, Some, List, [], ◌++◌, append-nil, arith, refl, subst}
use Rattle.std.specs.Prelude.{slice_get}
use Rattle.script_grammar.specs.Shows.{ShowAll}
use Rattle.script_grammar.specs.Tree.{Stmts}
use Rattle.stencil_data.specs.LinkView.{LinkView}
use Rattle.scope_analysis.specs.Functions.{Inner, inner_script}
use Rattle.scope_analysis.specs.Scopes.{script_scopes}
use Rattle.emit_stmts.specs.Functions.{chain_at, top_script}
use Rattle.compile_specs.specs.Eager.{Site, AreFunctions}
use Rattle.compile_specs.proofs.Sites.{one_functions}
use Rattle.parse_function_list.specs.Placed.{Placed, AllPlaced}
use Rattle.compile_site_laws.specs.Around.{HandsDown, IsPlacedAt, ArePlacedAt}
use Rattle.compile_site_laws.proofs.Listing.{Sited, sited, mapped}

pub record PlacedSites (items : Stmts) (end : ℕ) (ps : List Placed) : Type 0 where
  pub all : List Site
  pub functions : AreFunctions items end all
  pub placed : ArePlacedAt items end ps all

-- They exist.
pub placed_sites : (items : Stmts) (end : ℕ) (ps : List Placed) → AllPlaced 0 0 1 (inner_script items) ps → PlacedSites items end ps
placed_sites items end ps h =
    let chain : Inner → List LinkView = chain_at (script_scopes items) [] in
    let top : List (List LinkView) = (top_script items end).chains in
    let s : Sited 0 0 1 (inner_script items) ps chain = sited 0 0 1 (inner_script items) ps chain h in
    let hands : (k : ℕ) (f : Inner) → slice_get (inner_script items) k ≡ Some f → HandsDown top (s.all ++ []) 0 (0 + k) (chain f) =
    λ k f is. subst (λ (n : ℕ). slice_get top n ≡ Some (chain f)) (omega arith) (mapped chain (inner_script items) k f is) in
    record {
      all = s.all;
      functions = s.are;
      placed = subst (λ (l : List Site). ShowAll (IsPlacedAt top l) ps s.all) (append-nil s.all) (s.placed top [] [] refl hands);
    }

-- There are no others.
pub placed_chain : (items : Stmts) (end : ℕ) (ps : List Placed) (all : List Site) → AllPlaced 0 0 1 (inner_script items) ps → AreFunctions items end all → ArePlacedAt items end ps all
placed_chain items end ps all h are =
    let s : PlacedSites items end ps = placed_sites items end ps h in
    subst (λ (l : List Site). ArePlacedAt items end ps l) (one_functions items end s.all all s.functions are) s.placed
