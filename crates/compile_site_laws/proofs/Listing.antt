-- The sites of functions that are placed, with the chains that are handed down to them.
use Rattle.std.proofs.Common.{◌≡◌, ◌∙◌, ℕ, suc, ◌+◌, Some, option_map, List, [], ◌∷◌, ◌++◌, append_assoc, arith, length, length-append, map, refl, sym, ap, subst}
use Rattle.std.specs.Prelude.{slice_get}
use Rattle.std.proofs.lemmas.Option.{slice_get-get_or, slice_get-map}
use Rattle.std.proofs.Math.Seq.{get_or-append_seam}
use Rattle.script_grammar.specs.Shows.{ShowAll}
use Rattle.stencil_data.specs.LinkView.{LinkView}
use Rattle.scope_analysis.specs.Functions.{Inner}
use Rattle.scope_analysis.specs.Scopes.{function_scopes}
use Rattle.emit_stmts.specs.Functions.{chain_at}
use Rattle.compile_specs.specs.Eager.{Site, sites, compiled_at, AllSites, no_sites, more_sites}
use Rattle.parse_function_list.specs.Placed.{Placed, AllPlaced, no_placed, more_placed, directly_in, brief_of}
use Rattle.compile_site_laws.specs.Around.{HandsDown, IsPlacedAt}

-- ---- lists

show_both : {A B : Type 0} (R : A → B → Type 0) (xs more : List A) (ys others : List B) → ShowAll R xs ys → ShowAll R more others → ShowAll R (xs ++ more) (ys ++ others)
show_both R [] more [] others h k = k
show_both R [] more (y ∷ ys) others h k = absurd h
show_both R (x ∷ xs) more [] others h k = absurd h
show_both R (x ∷ xs) more (y ∷ ys) others h k = (h.0, show_both R xs more ys others h.1 k)

-- the element between two lists
between : {A : Type 0} (before : List A) (x : A) (after : List A) → slice_get (before ++ x ∷ after) (length before) ≡ Some x
between before x after =
    let long = length-append before (x ∷ after) in
    slice_get-get_or (before ++ x ∷ after) (length before) x (omega (arith, long)) ∙ ap (λ y. Some y) (get_or-append_seam before x after x)

pub mapped : {A B : Type 0} (f : A → B) (xs : List A) (k : ℕ) (x : A) → slice_get xs k ≡ Some x → slice_get (map f xs) k ≡ Some (f x)
mapped f xs k x e = slice_get-map f xs k ∙ ap (option_map f) e

-- ---- sites

-- The function of the number `around` hands down to each of these functions its chain.
abbrev HandsAll : List (List LinkView) → List Site → (around place : ℕ) → List Inner → (Inner → List LinkView) → Type 0
HandsAll top all around place fs chain = (k : ℕ) (f : Inner) → slice_get fs k ≡ Some f → HandsDown top all around (place + k) (chain f)

-- These functions, which get these chains, and all functions in them have sites, in the order of the list. Wherever these sites
-- stand among those of a script, each is where the function around it has it, if it is so of those that stand directly there.
pub record Sited (around place at : ℕ) (fs : List Inner) (ps : List Placed) (chain : Inner → List LinkView) : Type 0 where
  pub all : List Site
  pub are : AllSites (sites fs (map chain fs)) all
  pub long : length all ≡ length ps
  pub placed : (top : List (List LinkView)) (before after : List Site) → suc (length before) ≡ at → HandsAll top (before ++ (all ++ after)) around place fs chain
      → ShowAll (IsPlacedAt top (before ++ (all ++ after))) ps all

-- the chains that a function under a chain hands down
abbrev inside_chain : (Inner → List LinkView) → Inner → Inner → List LinkView
inside_chain chain f = chain_at (function_scopes f.kind f.name f.func) (chain f)

abbrev site_of : (Inner → List LinkView) → Inner → Site
site_of chain f = record { inner = f; chain = chain f }

module _ (top : List (List LinkView)) (all : List Site) where
  hands_at : (around p q : ℕ) (chain : List LinkView) → p ≡ q → HandsDown top all around p chain → HandsDown top all around q chain
  hands_at around p q chain e h = subst (λ (k : ℕ). HandsDown top all around k chain) e h

-- a function hands down their chains to those directly in it
hands_inside : (top : List (List LinkView)) (before after : List Site) (number : ℕ) (chain : Inner → List LinkView) (f : Inner) → suc (length before) ≡ number
    → HandsAll top (before ++ site_of chain f ∷ after) number 0 (directly_in f) (inside_chain chain f)
hands_inside top before after number chain f e k g is =
    let s = site_of chain f in
    subst (λ (n : ℕ). HandsDown top (before ++ s ∷ after) n (0 + k) (inside_chain chain f g)) e (
      s,
      between before s after,
      subst (λ (n : ℕ). slice_get (compiled_at s).chains n ≡ Some (inside_chain chain f g)) (omega arith) (mapped (inside_chain chain f) (directly_in f) k g is),
    )

module _ (around place at : ℕ) (chain : Inner → List LinkView) (f : Inner) (rest : List Inner) (inside after : List Placed) where
  -- a function, those in it, and those after it
  sited_more : Sited at 0 (suc at) (directly_in f) inside (inside_chain chain f) → Sited around (suc place) (suc at + length inside) rest after chain
      → Sited around place at (f ∷ rest) (record { brief = brief_of f; around = around; place = place } ∷ (inside ++ after)) chain
  sited_more u v = record {
    all = site_of chain f ∷ (u.all ++ v.all);
    are = more_sites (site_of chain f) (sites rest (map chain rest)) u.all v.all u.are v.are;
    long =
        let a = length-append u.all v.all in
        let b = length-append inside after in
        let p = u.long in
        let q = v.long in
        omega (arith, a, b, p, q);
    placed = λ top before behind e hands.
        let s = site_of chain f in
        let whole = before ++ s ∷ ((u.all ++ v.all) ++ behind) in
        let inner : (before ++ s ∷ []) ++ (u.all ++ (v.all ++ behind)) ≡ whole =
        append_assoc before (s ∷ []) (u.all ++ (v.all ++ behind)) ∙ ap (λ (l : List Site). before ++ s ∷ l) (sym (append_assoc u.all v.all behind)) in
        let outer : (before ++ s ∷ u.all) ++ (v.all ++ behind) ≡ whole =
        append_assoc before (s ∷ u.all) (v.all ++ behind) ∙ ap (λ (l : List Site). before ++ s ∷ l) (sym (append_assoc u.all v.all behind)) in
        let one = length-append before (s ∷ []) in
        let some = length-append before (s ∷ u.all) in
        let long = u.long in
        let in_it = hands_inside top before ((u.all ++ v.all) ++ behind) at chain f e in
        let after_it : HandsAll top whole around (suc place) rest chain = λ k g is. hands_at top whole around (place + suc k) (suc place + k) (chain g) (omega arith) (hands (suc k) g is) in (
          record { brief = refl; chain = hands_at top whole around (place + 0) place (chain f) (omega arith) (hands 0 f refl) },
          show_both (IsPlacedAt top whole) inside after u.all v.all
              (subst (λ (l : List Site). ShowAll (IsPlacedAt top l) inside u.all) inner
              (u.placed top (before ++ s ∷ []) (v.all ++ behind) (omega (arith, one, e))
              (subst (λ (l : List Site). HandsAll top l at 0 (directly_in f) (inside_chain chain f)) (sym inner) in_it)))
              (subst (λ (l : List Site). ShowAll (IsPlacedAt top l) after v.all) outer
              (v.placed top (before ++ s ∷ u.all) behind (omega (arith, some, e, long)) (subst (λ (l : List Site). HandsAll top l around (suc place) rest chain) (sym outer) after_it))),
        );
  }

pub sited : (around place at : ℕ) (fs : List Inner) (ps : List Placed) (chain : Inner → List LinkView) → AllPlaced around place at fs ps → Sited around place at fs ps chain
sited around place at fs ps chain (no_placed _ _ _) = record { all = []; are = no_sites; long = refl; placed = λ top before behind e hands. tt }
sited around place at fs ps chain (more_placed _ _ _ f rest inside after h k) =
    sited_more around place at chain f rest inside after (sited at 0 (suc at) (directly_in f) inside (inside_chain chain f) h) (sited around (suc place) (suc at + length inside) rest after chain k)
