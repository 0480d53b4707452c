-- All functions of a script start at offsets that rise strictly, and are fewer than its tokens.
use Rattle.std.proofs.Common.{ℕ, ◌+◌, ◌*◌, ◌^◌, ◌≤◌, ◌<◌, List, [], ◌∷◌, ◌++◌, length, map, false, sym, ap, subst, arith}
use Rattle.std.proofs.lemmas.List.{map-append, length-append, length-map}
use Rattle.script_grammar.specs.Lexeme.{Lexeme}
use Rattle.script_grammar.specs.Pieces.{whole, Piece, At, Gap, Pass, Fits}
use Rattle.script_grammar.specs.Print.{print_stmts, print_function}
use Rattle.script_grammar.specs.Tree.{Stmts}
use Rattle.stencil_data.specs.LinkView.{LinkView}
use Rattle.parse_track.specs.declared.region.Early.{Early}
use Rattle.parse_track.specs.Notes.{notes_stmts, notes_function}
use Rattle.grammar_start_laws.specs.Started.{Started, started_stmts, started_function}
use Rattle.grammar_start_laws.proofs.Starting.{keeps_stmts}
use Rattle.grammar_start_laws.proofs.WholeTrees.{script_starts_rise}
use Rattle.scope_analysis.specs.Functions.{Inner, inner_function, inner_script}
use Rattle.emit_stmts.specs.Functions.{start_of, top_script}
use Rattle.compile_specs.specs.Eager.{Site, sites, sites_in, top_sites, AllSites, AreFunctions, compiled_at, no_sites, more_sites}
use Rattle.emit_limit_laws.specs.Inside.{InnerIn, started_inside}
use Rattle.emit_limit_laws.specs.Limits.{ScriptStands}
use Rattle.emit_limit_laws.specs.Places.{depths_of}
use Rattle.emit_limit_laws.proofs.InnerFunctions.{in_function, in_script}
use Rattle.emit_limit_laws.specs.Offsets.{OffsetsRise, AreStarts, site_starts}
use Rattle.emit_limit_laws.proofs.AmongStarts.{starts_both, one_start, cut_starts, starts_rise, starts_few, kept_few}

-- ---- sites in a part

abbrev inner_of : List Site → List Inner
inner_of some = map (λ (s : Site). s.inner) some

sites_inner_in : (c : ℕ) (is : List Inner) (chains : List (List LinkView)) (p : List ℕ) (fs : List Started) (ns : List Early) → InnerIn c is p fs ns → InnerIn c (inner_of (sites is chains)) p fs ns
sites_inner_in c [] chains p fs ns h = tt
sites_inner_in c (i ∷ is) [] p fs ns h = tt
sites_inner_in c (i ∷ is) (chain ∷ chains) p fs ns h = (h.0, h.1, h.2, h.3, sites_inner_in c is chains h.0 h.1 h.2 h.4)

-- the starts of all functions at sites in a part, and of those in them, are among those of the part
all_among : (c : ℕ) (some all : List Site) (p : List ℕ) (fs : List Started) (ns : List Early) → AllSites some all → InnerIn c (inner_of some) p fs ns → AreStarts (site_starts all) fs
all_among c some all p fs ns no_sites h = tt
all_among c some all p fs ns (more_sites s rest inside after a b) h =
    let here = h.3 in
    let d = here.depth in
    let f = s.inner.func in
    let found = (in_function d s.inner.kind s.inner.name f here.proper).found in
    let deep = all_among (4 * d) (sites_in s) inside (depths_of (print_function whole d f)) (started_inside f) (notes_function f) a
    (sites_inner_in (4 * d) (inner_function s.inner.kind s.inner.name f) (compiled_at s).chains (depths_of (print_function whole d f)) (started_inside f) (notes_function f) found) in
    let more = all_among c rest after h.0 h.1 h.2 b h.4 in
    subst (λ (ms : List ℕ). AreStarts (start_of f ∷ ms) fs) (sym (map-append (λ (x : Site). start_of x.inner.func) inside after))
    (cut_starts (start_of f ∷ (site_starts inside ++ site_starts after)) fs (started_function f) h.1 here.started
    (starts_both (start_of f ∷ site_starts inside) (site_starts after) (started_function f) h.1 (one_start (site_starts inside) f deep) more))

script_among : (tokens : List Lexeme) (last : Lexeme) (items : Stmts) (end : ℕ) (all : List Site) → ScriptStands tokens last items → AreFunctions items end all → AreStarts (site_starts all) (started_stmts items)
script_among tokens last items end all s a =
    all_among 0 (top_sites items end) all (depths_of (print_stmts whole 0 items)) (started_stmts items) (notes_stmts items) a
    (sites_inner_in 0 (inner_script items) (top_script items end).chains (depths_of (print_stmts whole 0 items)) (started_stmts items) (notes_stmts items) (in_script items s.script.proper).found)

-- ---- places and tokens

few_places : (ps : List Piece) (ts : List Lexeme) (n : Lexeme) → Fits ps ts n → length (depths_of ps) ≤ length ts
few_places [] ts n f = omega arith
few_places (At s ∷ ps) [] n f = absurd f
few_places (At s ∷ ps) (t ∷ ts) n f = let h = few_places ps ts n f.1 in omega (arith, h)
few_places (Gap e ∷ ps) [] n f = few_places ps [] n f.1
few_places (Gap e ∷ ps) (t ∷ ts) n f = few_places ps (t ∷ ts) n f.1
few_places (Pass ∷ ps) ts n f =
    let h = few_places ps f.1 n f.4 in
    let e = ap (λ (us : List Lexeme). length us) f.2 in
    let g = length-append f.0 f.1 in
    omega (arith, h, e, g)

-- ---- the laws

pub sites_rise : (tokens : List Lexeme) (last : Lexeme) (items : Stmts) (end : ℕ) (all : List Site) → ScriptStands tokens last items → AreFunctions items end all → OffsetsRise 0 (site_starts all)
sites_rise tokens last items end all s a =
    starts_rise 0 (site_starts all) (started_stmts items) (script_among tokens last items end all s a) (script_starts_rise tokens last items 0 s.script s.rise)

-- no more functions than tokens
pub sites_few : (tokens : List Lexeme) (last : Lexeme) (items : Stmts) (end : ℕ) (all : List Site) → ScriptStands tokens last items → AreFunctions items end all → length all ≤ length tokens
sites_few tokens last items end all s a =
    let e = length-map all (λ (x : Site). start_of x.inner.func) in
    let f = starts_few (site_starts all) (started_stmts items) (script_among tokens last items end all s a) in
    let g = kept_few (started_stmts items) (print_stmts whole 0 items) (keeps_stmts 0 items false s.script.proper) in
    let h = few_places (print_stmts whole 0 items) tokens last s.script.fits in
    omega (arith, e, f, g, h)

-- so their numbers fit 32 bits
pub sites_numbered : (tokens : List Lexeme) (last : Lexeme) (items : Stmts) (end : ℕ) (all : List Site) → ScriptStands tokens last items → AreFunctions items end all → length all + 1 < 2 ^ 32
sites_numbered tokens last items end all s a =
    let few = sites_few tokens last items end all s a in
    let tokens_few = s.few in
    omega (arith, few, tokens_few)
