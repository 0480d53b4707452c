-- The functions that are in no other are those directly in the script, in their order.
use Rattle.std.proofs.Common.{◌≡◌, ◌∙◌, ℕ, suc, ◌+◌, ◌≤◌, List, [], ◌∷◌, ◌++◌, map, length, refl, sym, ap, ap₂, subst, arith}
use Rattle.std.proofs.lemmas.List.{map-append, length-map}
use Rattle.script_grammar.specs.Tree.{Stmts, Function, function}
use Rattle.stencil_data.specs.LinkView.{LinkView}
use Rattle.stencil_data.specs.Named.{NamedFunction}
use Rattle.bytecode_buf.specs.Command.{Command}
use Rattle.parse_track.specs.ClosedNames.{Bound}
use Rattle.scope_analysis.specs.Functions.{Inner, inner_function, inner_script}
use Rattle.scope_analysis.specs.Scopes.{function_scopes, script_scopes}
use Rattle.emit_stmts.specs.Functions.{chain_at, start_of, extent_of, extents_of, top_script}
use Rattle.emit_limit_laws.specs.Offsets.{OffsetsRise, site_starts}
use Rattle.emit_limit_laws.proofs.RisingSites.{sites_rise}
use Rattle.compile_specs.specs.Eager.{Site, sites, sites_in, top_sites, compiled_at, AllSites, no_sites, more_sites, AreFunctions}
use Rattle.compile_specs.specs.Shown.{number_of, numbers_of, starts_of, record_of}
use Rattle.session_specs.specs.Sources.{IsValid}
use Rattle.stencil_merge.specs.Functions.{named_inner_of, outermost}
use Rattle.compile_lazy_laws.proofs.Forests.{IsForest, no_trees, more_trees, forest_outermost}
use Rattle.compile_lazy_laws.proofs.Numbers.{AreNumbered, numbered_front, numbered_back, numbered_rising}
use Rattle.compile_lazy_laws.proofs.Valid.{valid_stands}

-- ---- the numbers of functions at sites

same_start : (f : Function) → (extent_of f).start ≡ start_of f
same_start (function _ start end _ _ _ _ _) = refl

abbrev roots_of : List ℕ → List Site → List ℕ
roots_of starts some = map (λ (s : Site). number_of starts (start_of s.inner.func)) some

abbrev inner_at : List ℕ → Site → List ℕ
inner_at starts s = numbers_of starts (compiled_at s).part.inner

abbrev inners_of : List ℕ → List Site → List (List ℕ)
inners_of starts all = map (λ (s : Site). numbers_of starts (compiled_at s).part.inner) all

-- of functions that get chains
roots_are : (starts : List ℕ) (chain : Inner → List LinkView) (is : List Inner) → roots_of starts (sites is (map chain is)) ≡ numbers_of starts (extents_of is)
roots_are starts chain [] = refl
roots_are starts chain (i ∷ is) = ap₂ (λ (n : ℕ) (ns : List ℕ). n ∷ ns) (ap (number_of starts) (sym (same_start i.func))) (roots_are starts chain is)

roots_inside : (starts : List ℕ) (s : Site) → roots_of starts (sites_in s) ≡ inner_at starts s
roots_inside starts s = roots_are starts (chain_at (function_scopes s.inner.kind s.inner.name s.inner.func) s.chain) (inner_function s.inner.kind s.inner.name s.inner.func)

module _ (starts : List ℕ) (at : ℕ) (s : Site) (rest inside after : List Site) where
  -- a function, those in it and those after it
  more_sited : number_of starts (start_of s.inner.func) ≡ at → IsForest (suc at) (roots_of starts (sites_in s)) (inners_of starts inside) → IsForest (suc at + length inside) (roots_of starts rest) (inners_of starts after)
      → IsForest at (roots_of starts (s ∷ rest)) (inners_of starts (s ∷ (inside ++ after)))
  more_sited here first behind =
      let a : IsForest (suc at) (inner_at starts s) (inners_of starts inside) = subst (λ (ns : List ℕ). IsForest (suc at) ns (inners_of starts inside)) (roots_inside starts s) first in
      let b : IsForest (suc at + length (inners_of starts inside)) (roots_of starts rest) (inners_of starts after) =
      subst (λ (n : ℕ). IsForest (suc at + n) (roots_of starts rest) (inners_of starts after)) (sym (length-map inside (λ (x : Site). inner_at starts x))) behind in
      let f : IsForest at (at ∷ roots_of starts rest) (inner_at starts s ∷ (inners_of starts inside ++ inners_of starts after)) =
      more_trees at (inner_at starts s) (roots_of starts rest) (inners_of starts inside) (inners_of starts after) a b in
      subst (λ (n : ℕ). IsForest at (n ∷ roots_of starts rest) (inners_of starts (s ∷ (inside ++ after)))) (sym here)
      (subst (λ (l : List (List ℕ)). IsForest at (at ∷ roots_of starts rest) (inner_at starts s ∷ l)) (sym (map-append (λ (x : Site). inner_at starts x) inside after)) f)

-- functions that have the numbers from `at` on, in order
forest_at : (starts : List ℕ) (at : ℕ) (some all : List Site) → AllSites some all → AreNumbered starts at (site_starts all) → IsForest at (roots_of starts some) (inners_of starts all)
forest_at starts at some all no_sites h = no_trees at
forest_at starts at some all (more_sites s rest inside after a b) h =
    let both : AreNumbered starts (suc at) (site_starts inside ++ site_starts after) =
    subst (λ (ns : List ℕ). AreNumbered starts (suc at) ns) (map-append (λ (x : Site). start_of x.inner.func) inside after) h.1 in
    let long = length-map inside (λ (x : Site). start_of x.inner.func) in
    more_sited starts at s rest inside after h.0 (forest_at starts (suc at) (sites_in s) inside a (numbered_front starts (suc at) (site_starts inside) (site_starts after) both))
    (forest_at starts (suc at + length inside) rest after b (numbered_back starts (suc at) (suc at + length inside) (site_starts inside) (site_starts after) (omega (arith, long)) both))

-- ---- the records of functions

starts_are : (all : List Site) → starts_of (map (λ (s : Site). (compiled_at s).part) all) ≡ site_starts all
starts_are [] = refl
starts_are (s ∷ all) = ap₂ (λ (n : ℕ) (ns : List ℕ). n ∷ ns) (same_start s.inner.func) (starts_are all)

recorded : (starts : List ℕ) (bound : List (Bound (List ℕ))) (all : List Site) → named_inner_of (map (record_of starts bound) (map (λ (s : Site). (compiled_at s).part) all)) ≡ inners_of starts all
recorded starts bound [] = refl
recorded starts bound (s ∷ all) = ap (λ (l : List (List ℕ)). inner_at starts s ∷ l) (recorded starts bound all)

-- ---- the laws

abbrev pub part_at : Site → NamedFunction (List Command)
part_at s = (compiled_at s).part

-- by the numbers of the functions directly in each
pub outermost_is : (items : Stmts) (end : ℕ) (all : List Site) → AreFunctions items end all → OffsetsRise 0 (site_starts all)
    → outermost (map (λ (s : Site). numbers_of (site_starts all) (compiled_at s).part.inner) all) ≡ numbers_of (site_starts all) (top_script items end).part.inner
outermost_is items end all are rise =
    forest_outermost (numbers_of (site_starts all) (top_script items end).part.inner) (inners_of (site_starts all) all)
    (subst (λ (ns : List ℕ). IsForest 1 ns (inners_of (site_starts all) all)) (roots_are (site_starts all) (chain_at (script_scopes items) []) (inner_script items))
    (forest_at (site_starts all) 1 (top_sites items end) all are (numbered_rising (site_starts all) rise)))

-- by the records of the functions
pub outermost_recorded : (items : Stmts) (end : ℕ) (all : List Site) (bound : List (Bound (List ℕ))) → AreFunctions items end all → OffsetsRise 0 (site_starts all)
    → outermost (named_inner_of (map (record_of (starts_of (map part_at all)) bound) (map part_at all))) ≡ numbers_of (starts_of (map part_at all)) (top_script items end).part.inner
outermost_recorded items end all bound are rise =
    subst (λ (starts : List ℕ). outermost (named_inner_of (map (record_of starts bound) (map part_at all))) ≡ numbers_of starts (top_script items end).part.inner) (sym (starts_are all))
    (ap outermost (recorded (site_starts all) bound all) ∙ outermost_is items end all are rise)

-- of a file that is a script without errors
pub outermost_valid : (bytes : List ℕ) (items : Stmts) (count : ℕ) (all : List Site) (bound : List (Bound (List ℕ))) → IsValid bytes items count → length bytes ≤ 16777215 → AreFunctions items (length bytes) all
    → outermost (named_inner_of (map (record_of (starts_of (map part_at all)) bound) (map part_at all))) ≡ numbers_of (starts_of (map part_at all)) (top_script items (length bytes)).part.inner
outermost_valid bytes items count all bound v short are =
    outermost_recorded items (length bytes) all bound are (sites_rise v.read.inner v.read.end items (length bytes) all (valid_stands bytes items count v short) are)
