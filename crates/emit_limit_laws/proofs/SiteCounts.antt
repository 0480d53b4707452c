-- The functions of a script are as many as the sites that compiling it goes to, and as the regions of functions that it tells.
use Rattle.std.proofs.Common.{◌≡◌, ℕ, List, [], ◌∷◌, length, map, refl, ap, subst, arith}
use Rattle.std.proofs.lemmas.List.{length-append}
use Rattle.script_grammar.specs.Tree.{Stmts}
use Rattle.stencil_data.specs.LinkView.{LinkView}
use Rattle.parse_track.specs.Counted.{function_count}
use Rattle.parse_track.specs.Tells.{tells_script}
use Rattle.scope_analysis.specs.Functions.{Inner, inner_function, inner_script}
use Rattle.scope_analysis.specs.Scopes.{function_scopes, script_scopes}
use Rattle.emit_stmts.specs.Functions.{chain_at}
use Rattle.compile_specs.specs.Eager.{Site, sites, sites_in, top_sites, AllSites, AreFunctions, no_sites, more_sites}
use Rattle.compile_specs.specs.Counted.{Counts, no_functions, more_functions, HasFunctions}
use Rattle.compile_specs.proofs.Counts.{one_count}
use Rattle.emit_limit_laws.proofs.TellingFunctions.{told_count}

abbrev inner_of : List Site → List Inner
inner_of some = map (λ (s : Site). s.inner) some

-- each of these functions has a site
sites_inner : (f : Inner → List LinkView) (is : List Inner) → inner_of (sites is (map f is)) ≡ is
sites_inner f [] = refl
sites_inner f (i ∷ is) = ap (λ (js : List Inner). i ∷ js) (sites_inner f is)

sites_counted : (some all : List Site) → AllSites some all → Counts (inner_of some) (length all)
sites_counted some all no_sites = no_functions
sites_counted some all (more_sites s rest inside after a b) =
    let e = length-append inside after in
    let deep = subst (λ (is : List Inner). Counts is (length inside))
    (sites_inner (chain_at (function_scopes s.inner.kind s.inner.name s.inner.func) s.chain) (inner_function s.inner.kind s.inner.name s.inner.func)) (sites_counted (sites_in s) inside a) in
    subst (λ (n : ℕ). Counts (s.inner ∷ inner_of rest) n) (omega (arith, e)) (more_functions s.inner (inner_of rest) (length inside) (length after) deep (sites_counted rest after b))

pub functions_counted : (items : Stmts) (end : ℕ) (all : List Site) → AreFunctions items end all → HasFunctions items (length all)
functions_counted items end all a =
    subst (λ (is : List Inner). Counts is (length all)) (sites_inner (chain_at (script_scopes items) []) (inner_script items)) (sites_counted (top_sites items end) all a)

-- so the script tells a region of a function for each of them
pub functions_told : (items : Stmts) (end : ℕ) (all : List Site) → AreFunctions items end all → length all ≡ function_count (tells_script items)
functions_told items end all a = one_count items (length all) (function_count (tells_script items)) (functions_counted items end all a) (told_count items)
