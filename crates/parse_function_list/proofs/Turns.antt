-- The loop over functions that stand directly in one.
use Rattle.std.proofs.Common.{◌≡◌, ◌∙◌, ℕ, ◌+◌, ◌<◌, ◌≤◌, List, [], ◌∷◌, ◌++◌, add-one, append_assoc, append-nil, arith, drop, get_or, length, refl, sym, ap, subst}
use Rattle.std.proofs.Math.Seq.{drop-cons}
use Rattle.stencil_data.specs.declared.functions.Extent.{Extent}
use Rattle.script_grammar.specs.Interpretation.{Interpretation}
use Rattle.script_grammar.specs.Tree.{Stmts}
use Rattle.scope_analysis.specs.Functions.{Inner}
use Rattle.parse_handlers.specs.declared.found.FoundFunction.{FoundFunction}
use Rattle.parse_handlers.specs.FoundOf.{founds_before}
use Rattle.parse_handlers.specs.Inner.{no_inner}
use Rattle.parse_track.specs.declared.region.Early.{Early}
use Rattle.parse_track.specs.Notes.{first_note}
use Rattle.early_apart_laws.specs.Late.{late_function}
use Rattle.scope_listing_laws.specs.Listing.{Mirrors, bodies_before}
use Rattle.parse_function_list.specs.declared.listing.Listing.{Listing}
use Rattle.parse_function_list.specs.Listing.{AtHand, late_in, Places, Lists, ListsOne}
use Rattle.parse_function_list.specs.Weight.{weight}
use Rattle.parse_function_list.proofs.Late.{late_in-append}
use Rattle.parse_function_list.proofs.Placing.{places_none, places_then, places_late}

-- Of these functions the first ones are placed, and what was found of the others is still to come.
pub record Turned (i : Interpretation) (a b : Listing) (x y : List Extent) (rest : List FoundFunction) (around : ℕ) (fs : List Inner) (others : List Stmts) : Type 0 where
  pub done : List Inner
  pub left : List Inner
  pub are : fs ≡ done ++ left
  pub mirrors : Mirrors (founds_before i rest no_inner) left
  pub places : Places i a b x y done around (bodies_before fs others) (bodies_before left others) (late_in done)

-- Of what was found the rest is still to come.
pub record Turn (a b : Listing) (x y : List Extent) (all rest : List FoundFunction) (around : ℕ) : Type 0 where
  pub longer : length a.functions.items ≤ length b.functions.items
  pub lighter : weight b.bodies.items ≤ weight a.bodies.items
  pub turns : (i : Interpretation) (fs : List Inner) (others : List Stmts) → Mirrors (founds_before i all no_inner) fs → AtHand i a.bodies.items (bodies_before fs others)
      → Turned i a b x y rest around fs others

pub turn_begin : (a : Listing) (x : List Extent) (all : List FoundFunction) (around : ℕ) → Turn a a x x all all around
turn_begin a x all around = record {
  longer = omega arith;
  lighter = omega arith;
  turns = λ i fs others m hand. record { done = []; left = fs; are = refl; mirrors = m; places = places_none a x around (bodies_before fs others) hand };
}

-- the first of these functions
record First (i : Interpretation) (item : FoundFunction) (more : List FoundFunction) (gs : List Inner) : Type 0 where
  first : Inner
  after : List Inner
  are : gs ≡ first ∷ after
  here : Mirrors (founds_before i (item ∷ []) no_inner) (first ∷ [])
  behind : Mirrors (founds_before i more no_inner) after

first_of : (i : Interpretation) (item : FoundFunction) (more : List FoundFunction) (gs : List Inner) → Mirrors (founds_before i (item ∷ more) no_inner) gs → First i item more gs
first_of i item more [] h = absurd h
first_of i item more (g ∷ gs) h = record { first = g; after = gs; are = refl; here = (h.0, h.1, h.2, tt); behind = h.3 }

none_of : (gs : List Inner) → Mirrors no_inner gs → gs ≡ []
none_of [] h = refl
none_of (g ∷ gs) h = absurd h

turned_next : {i : Interpretation} {a b c : Listing} {x y z : List Extent} {rest : List FoundFunction} {around : ℕ} {fs : List Inner} {others : List Stmts} (item : FoundFunction) (more : List FoundFunction)
    → rest ≡ item ∷ more → ListsOne b c y z item around → Turned i a b x y rest around fs others → Turned i a c x z more around fs others
turned_next {i = i} {a = a} {b = b} {x = x} {y = y} {around = around} {fs = fs} {others = others} item more e o t =
    let first : First i item more t.left = first_of i item more t.left (subst (λ (rest : List FoundFunction). Mirrors (founds_before i rest no_inner) t.left) e t.mirrors) in
    let hand = subst (λ (gs : List Inner). AtHand i b.bodies.items (bodies_before gs others)) first.are t.places.left in
    let before = subst (λ (gs : List Inner). Places i a b x y t.done around (bodies_before fs others) (bodies_before gs others) (late_in t.done)) first.are t.places in
    let same : late_in t.done ++ late_function first.first.func ≡ late_in (t.done ++ first.first ∷ []) =
    ap (λ (errors : List Early). late_in t.done ++ errors) (sym (append-nil (late_function first.first.func))) ∙ sym (late_in-append t.done (first.first ∷ [])) in
    record {
      done = t.done ++ first.first ∷ [];
      left = first.after;
      are = t.are ∙ (ap (λ (gs : List Inner). t.done ++ gs) first.are ∙ sym (append_assoc t.done (first.first ∷ []) first.after));
      mirrors = first.behind;
      places = places_late (ap first_note same) (places_then before (o.places i first.first (bodies_before first.after others) first.here hand));
    }

pub turn_next : {a b c : Listing} {x y z : List Extent} {all rest : List FoundFunction} {around : ℕ} (item : FoundFunction) (more : List FoundFunction)
    → rest ≡ item ∷ more → length b.functions.items ≤ length c.functions.items → weight c.bodies.items ≤ weight b.bodies.items
    → ListsOne b c y z item around → Turn a b x y all rest around → Turn a c x z all more around
turn_next item more e longer lighter o turn = record {
  longer = let l = turn.longer in omega arith;
  lighter = let l = turn.lighter in omega arith;
  turns = λ i fs others m hand. turned_next item more e o (turn.turns i fs others m hand);
}

pub turn_end : {a b : Listing} {x y : List Extent} {all rest : List FoundFunction} {around : ℕ} → rest ≡ [] → Turn a b x y all rest around → Lists a b x y all around
turn_end {a = a} {b = b} {x = x} {y = y} {around = around} e turn = record {
  places = λ i fs others m hand.
      let t = turn.turns i fs others m hand in
      let none : t.left ≡ [] = none_of t.left (subst (λ (rest : List FoundFunction). Mirrors (founds_before i rest no_inner) t.left) e t.mirrors) in
      let whole : t.done ≡ fs = sym (append-nil t.done) ∙ (ap (λ (gs : List Inner). t.done ++ gs) (sym none) ∙ sym t.are) in
      subst (λ (ds : List Inner). Places i a b x y ds around (bodies_before fs others) others (late_in ds)) whole
      (subst (λ (gs : List Inner). Places i a b x y t.done around (bodies_before fs others) (bodies_before gs others) (late_in t.done)) none t.places);
}

pub next_of : {A : Type 0} (xs : List A) (k : ℕ) (x : A) → k < length xs → x ≡ get_or xs k x → drop k xs ≡ x ∷ drop (k + 1) xs
next_of {A} xs k x lt is = drop-cons xs k x lt ∙ (ap (λ (n : ℕ). get_or xs k x ∷ drop n xs) (sym (add-one k)) ∙ ap (λ (y : A). y ∷ drop (k + 1) xs) (sym is))

-- the same of equal lists
pub lists_of : {a b : Listing} {x y : List Extent} {fs gs : List FoundFunction} {around : ℕ} → fs ≡ gs → Lists a b x y fs around → Lists a b x y gs around
lists_of {a = a} {b = b} {x = x} {y = y} {around = around} e h = subst (λ (l : List FoundFunction). Lists a b x y l around) e h
