-- Functions of a list stand directly in those around them, at their places.
use Rattle.std.proofs.Common.{◌≡◌, ◌∙◌, ℕ, suc, ◌+◌, Some, List, [], ◌∷◌, ◌++◌, append_assoc, append-nil, arith, length, length-append, map, refl, sym, ap, subst}
use Rattle.std.specs.Prelude.{slice_get}
use Rattle.std.proofs.lemmas.Option.{slice_get-get_or}
use Rattle.std.proofs.Math.Seq.{get_or-append_seam}
use Rattle.script_grammar.specs.Shows.{ShowAll}
use Rattle.script_grammar.specs.Tree.{Stmts}
use Rattle.stencil_data.specs.LinkView.{LinkView}
use Rattle.scope_analysis.specs.Functions.{Inner, inner_script}
use Rattle.scope_analysis.specs.Scopes.{function_scopes, script_scopes}
use Rattle.emit_stmts.specs.Functions.{chain_at}
use Rattle.parse_bodies.proofs.Clauses.{all_joined}
use Rattle.parse_function_list.specs.Placed.{Placed, AllPlaced, no_placed, more_placed, directly_in, brief_of}
use Rattle.compile_specs.specs.Eager.{Site, sites, AllSites, no_sites, more_sites, AreFunctions}
use Rattle.compile_specs.proofs.Sites.{one_functions}
use Rattle.compile_initial.specs.Initial.{StandsInside}

-- the function at the site stands where the list has it
abbrev pub IsInsideAt : List Site → Placed → Site → Type 0
IsInsideAt all p s = StandsInside all p.around p.place s.inner

-- the function of the number `around` has these directly in it, from a place on
abbrev HasAll : List Site → (around place : ℕ) → List Inner → Type 0
HasAll all around place fs = (k : ℕ) (f : Inner) → slice_get fs k ≡ Some f → StandsInside all around (place + k) f

-- These functions, which get these chains, and all functions in them have sites, in the order of the list. Wherever these sites
-- stand among those of a script, each is where the list has it, if it is so of those that stand directly there.
record Stood (around place at : ℕ) (fs : List Inner) (ps : List Placed) (chain : Inner → List LinkView) : Type 0 where
  all : List Site
  are : AllSites (sites fs (map chain fs)) all
  long : length all ≡ length ps
  stand : (before after : List Site) → suc (length before) ≡ at → HasAll (before ++ (all ++ after)) around place fs → ShowAll (IsInsideAt (before ++ (all ++ after))) ps all

abbrev inside_chain : (Inner → List LinkView) → Inner → Inner → List LinkView
inside_chain chain f = chain_at (function_scopes f.kind f.name f.func) (chain f)

abbrev site_of : (Inner → List LinkView) → Inner → Site
site_of chain f = record { inner = f; chain = chain f }

between : (before : List Site) (s : Site) (after : List Site) → slice_get (before ++ s ∷ after) (length before) ≡ Some s
between before s after =
    let long = length-append before (s ∷ after) in
    slice_get-get_or (before ++ s ∷ after) (length before) s (omega (arith, long)) ∙ ap (λ (x : Site). Some x) (get_or-append_seam before s after s)

-- a function has those directly in it
has_inside : (before after : List Site) (number : ℕ) (chain : Inner → List LinkView) (f : Inner) → suc (length before) ≡ number → HasAll (before ++ site_of chain f ∷ after) number 0 (directly_in f)
has_inside before after number chain f e k g is =
    subst (λ (n : ℕ). StandsInside (before ++ site_of chain f ∷ after) n (0 + k) g) e
    (site_of chain f, between before (site_of chain f) after, subst (λ (n : ℕ). slice_get (directly_in f) n ≡ Some g) (omega arith) is)

module _ (around place at : ℕ) (chain : Inner → List LinkView) (f : Inner) (rest : List Inner) (inside after : List Placed) where
  -- a function, those in it, and those after it
  stood_more : Stood at 0 (suc at) (directly_in f) inside (inside_chain chain f) → Stood around (suc place) (suc at + length inside) rest after chain
      → Stood around place at (f ∷ rest) (record { brief = brief_of f; around = around; place = place } ∷ (inside ++ after)) chain
  stood_more u v = record {
    all = site_of chain f ∷ (u.all ++ v.all);
    are = more_sites (site_of chain f) (sites rest (map chain rest)) u.all v.all u.are v.are;
    long =
        let a = length-append u.all v.all in
        let b = length-append inside after in
        let p = u.long in
        let q = v.long in
        omega (arith, a, b, p, q);
    stand = λ before behind e has.
        let s = site_of chain f in
        let whole = before ++ s ∷ ((u.all ++ v.all) ++ behind) in
        let inner : (before ++ s ∷ []) ++ (u.all ++ (v.all ++ behind)) ≡ whole =
        append_assoc before (s ∷ []) (u.all ++ (v.all ++ behind)) ∙ ap (λ (l : List Site). before ++ s ∷ l) (sym (append_assoc u.all v.all behind)) in
        let outer : (before ++ s ∷ u.all) ++ (v.all ++ behind) ≡ whole =
        append_assoc before (s ∷ u.all) (v.all ++ behind) ∙ ap (λ (l : List Site). before ++ s ∷ l) (sym (append_assoc u.all v.all behind)) in
        let one = length-append before (s ∷ []) in
        let some = length-append before (s ∷ u.all) in
        let long = u.long in
        let in_it = has_inside before ((u.all ++ v.all) ++ behind) at chain f e in
        let after_it : HasAll whole around (suc place) rest = λ k g is. subst (λ (n : ℕ). StandsInside whole around n g) (omega arith) (has (suc k) g is) in (
          subst (λ (n : ℕ). StandsInside whole around n f) (omega arith) (has 0 f refl),
          all_joined (IsInsideAt whole) inside after u.all v.all
              (subst (λ (l : List Site). ShowAll (IsInsideAt l) inside u.all) inner
              (u.stand (before ++ s ∷ []) (v.all ++ behind) (omega (arith, one, e)) (subst (λ (l : List Site). HasAll l at 0 (directly_in f)) (sym inner) in_it)))
              (subst (λ (l : List Site). ShowAll (IsInsideAt l) after v.all) outer
              (v.stand (before ++ s ∷ u.all) behind (omega (arith, some, e, long)) (subst (λ (l : List Site). HasAll l around (suc place) rest) (sym outer) after_it))),
        );
  }

stood : (around place at : ℕ) (fs : List Inner) (ps : List Placed) (chain : Inner → List LinkView) → AllPlaced around place at fs ps → Stood around place at fs ps chain
stood around place at fs ps chain (no_placed _ _ _) = record { all = []; are = no_sites; long = refl; stand = λ before behind e has. tt }
stood around place at fs ps chain (more_placed _ _ _ f rest inside after h k) =
    stood_more around place at chain f rest inside after (stood at 0 (suc at) (directly_in f) inside (inside_chain chain f) h) (stood around (suc place) (suc at + length inside) rest after chain k)

pub all_inside : (items : Stmts) (end : ℕ) (ps : List Placed) (all : List Site) → AllPlaced 0 0 1 (inner_script items) ps → AreFunctions items end all → ShowAll (IsInsideAt all) ps all
all_inside items end ps all h are =
    let s = stood 0 0 1 (inner_script items) ps (chain_at (script_scopes items) []) h in
    let here : ShowAll (IsInsideAt s.all) ps s.all = subst (λ (l : List Site). ShowAll (IsInsideAt l) ps s.all) (append-nil s.all) (s.stand [] [] refl (λ k f is. tt)) in
    subst (λ (l : List Site). ShowAll (IsInsideAt l) ps l) (one_functions items end s.all all s.are are) here
