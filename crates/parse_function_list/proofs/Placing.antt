-- How functions that were placed one after the other are placed together.
use Rattle.std.proofs.Common.{◌≡◌, ◌∙◌, ℕ, suc, ◌+◌, List, [], ◌∷◌, ◌++◌, append_assoc, append-nil, arith, length, length-append, refl, sym, ap, subst}
use Rattle.std.specs.Prelude.{map}
use Rattle.std.proofs.lemmas.List.{length-map, map-append}
use Rattle.stencil_data.specs.declared.functions.Extent.{Extent}
use Rattle.script_grammar.specs.Interpretation.{Interpretation}
use Rattle.script_grammar.specs.Tree.{Stmts}
use Rattle.scope_analysis.specs.Functions.{Inner}
use Rattle.parse_track.specs.declared.region.Early.{Early}
use Rattle.parse_track.specs.EarlyErrors.{sooner, error_of}
use Rattle.parse_track.specs.Notes.{first_note}
use Rattle.early_apart_laws.proofs.Sooner.{sooner_assoc, sooner_none, first_note-append}
use Rattle.parse_function_list.specs.declared.list.ListedFunction.{ListedFunction}
use Rattle.parse_function_list.specs.declared.listing.Listing.{Listing}
use Rattle.parse_function_list.specs.Placed.{Placed, AllPlaced, no_placed, more_placed, extent_of, extents_of, directly_in, brief_of, placed_of}
use Rattle.parse_function_list.specs.Listing.{AtHand, StrictAtHand, Places}

placed_at : (around p q n m : ℕ) (fs : List Inner) (xs : List Placed) → p ≡ q → n ≡ m → AllPlaced around p n fs xs → AllPlaced around q m fs xs
placed_at around p q n m fs xs e d h = subst (λ (k : ℕ). AllPlaced around k m fs xs) e (subst (λ (k : ℕ). AllPlaced around p k fs xs) d h)

pub placed_both : (around place at : ℕ) (fs gs : List Inner) (xs ys : List Placed) → AllPlaced around place at fs xs
    → AllPlaced around (place + length fs) (at + length xs) gs ys → AllPlaced around place at (fs ++ gs) (xs ++ ys)
placed_both around place at fs gs xs ys (no_placed _ _ _) q = placed_at around (place + 0) place (at + 0) at gs ys (omega arith) (omega arith) q
placed_both around place at fs gs xs ys (more_placed _ _ _ f rest inside after h k) q =
    let all : ℕ = length (inside ++ after) in
    let sum : length (inside ++ after) ≡ length inside + length after = length-append inside after in
    let moved = placed_at around (place + suc (length rest)) (suc place + length rest) (at + suc (length (inside ++ after))) (suc at + length inside + length after) gs ys (omega arith) (omega (arith, sum)) q in
    subst (λ (zs : List Placed). AllPlaced around place at (f ∷ (rest ++ gs)) (record { brief = brief_of f; around = around; place = place } ∷ zs)) (sym (append_assoc inside after ys))
    (more_placed around place at f (rest ++ gs) inside (after ++ ys) h (placed_both around (suc place) (suc at + length inside) rest gs after ys k moved))

-- how many functions there are after these
pub longer_by : (i : Interpretation) (old new : List ListedFunction) (all : List Placed) → map (placed_of i) new ≡ map (placed_of i) old ++ all → length new ≡ length old + length all
longer_by i old new all e =
    sym (length-map new (placed_of i)) ∙ (ap (λ (ps : List Placed). length ps) e ∙ (length-append (map (placed_of i) old) all ∙ ap (λ (n : ℕ). n + length all) (length-map old (placed_of i))))

extents_longer : (before after : List Extent) (fs : List Inner) → after ≡ before ++ extents_of fs → length after ≡ length before + length fs
extents_longer before after fs e =
    ap (λ (es : List Extent). length es) e ∙ (length-append before (extents_of fs) ∙ ap (λ (n : ℕ). length before + n) (length-map fs (λ (f : Inner). extent_of f.func)))

module _ {i : Interpretation} where
  -- no function
  pub places_none : (a : Listing) (before : List Extent) (around : ℕ) (others : List Stmts) → AtHand i a.bodies.items others → Places i a a before before [] around others others []
  places_none a before around others hand = record {
    all = [];
    placed = no_placed around _ _;
    listed = sym (append-nil (map (placed_of i) a.functions.items));
    extents = sym (append-nil before);
    left = hand;
    meets = λ s. (s, sym (sooner_none (error_of 14 a.strict)));
  }

  -- some, and then others
  pub places_then : {a b c : Listing} {x y z : List Extent} {fs gs : List Inner} {around : ℕ} {taken others left : List Stmts} {l m : List Early}
      → Places i a b x y fs around taken others l → Places i b c y z gs around others left m → Places i a c x z (fs ++ gs) around taken left (l ++ m)
  places_then {a = a} {b = b} {c = c} {x = x} {y = y} {z = z} {fs = fs} {gs = gs} {around = around} {l = l} {m = m} p q = record {
    all = p.all ++ q.all;
    placed =
        let longer : length b.functions.items ≡ length a.functions.items + length p.all = longer_by i a.functions.items b.functions.items p.all p.listed in
        placed_both around (length x) (suc (length a.functions.items)) fs gs p.all q.all p.placed
        (placed_at around (length y) (length x + length fs) (suc (length b.functions.items)) (suc (length a.functions.items) + length p.all) gs q.all
        (extents_longer x y fs p.extents) (omega (arith, longer)) q.placed);
    listed = q.listed ∙ (ap (λ (ps : List Placed). ps ++ q.all) p.listed ∙ append_assoc (map (placed_of i) a.functions.items) p.all q.all);
    extents =
        q.extents
        ∙ (ap (λ (es : List Extent). es ++ extents_of gs) p.extents
        ∙ (append_assoc x (extents_of fs) (extents_of gs) ∙ ap (λ (es : List Extent). x ++ es) (sym (map-append (λ (f : Inner). extent_of f.func) fs gs))));
    left = q.left;
    meets = λ s.
        let u = p.meets s in
        let v = q.meets u.0 in (
          v.0,
          v.1
              ∙ (ap (λ o. sooner o (first_note m)) u.1
              ∙ (sym (sooner_assoc (error_of 14 a.strict) (first_note l) (first_note m)) ∙ ap (λ o. sooner (error_of 14 a.strict) o) (sym (first_note-append l m)))),
        );
  }

  -- the same of equal errors
  pub places_late : {a b : Listing} {x y : List Extent} {fs : List Inner} {around : ℕ} {taken others : List Stmts} {l m : List Early}
      → first_note l ≡ first_note m → Places i a b x y fs around taken others l → Places i a b x y fs around taken others m
  places_late {a = a} e p = record {
    all = p.all;
    placed = p.placed;
    listed = p.listed;
    extents = p.extents;
    left = p.left;
    meets = λ s. let u = p.meets s in (u.0, u.1 ∙ ap (λ o. sooner (error_of 14 a.strict) o) e);
  }
