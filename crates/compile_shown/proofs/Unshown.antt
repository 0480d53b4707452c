-- Where a function is not shown, none in it is.
use Rattle.std.proofs.Common.{◌≡◌, ◌∙◌, ◌≤◌, Bool, true, false, List, [], ◌∷◌, refl, sym, ap, ap₂, arith, map, le-leb}
use Rattle.std.specs.Prelude.{◌&&◌, ◌||◌, nat_le}
use Rattle.std.specs.List.{list_any}
use Rattle.std.proofs.lemmas.Bool.{leb-true}
use Rattle.stencil_data.specs.declared.functions.Extent.{Extent}
use Rattle.script_scanner.proofs.Lists.{and_left, and_right}
use Rattle.compile_specs.specs.Shown.{Wanted, wants, number_of, is_within, is_shown}

one : (p : Bool) (x y e : Extent) → x.start ≤ y.start → y.end ≤ x.end → (is_within x e && p) ≡ false → (is_within y e && p) ≡ false
one p x y e s t h = by (is_within y e) refl
  where
    by : (b : Bool) → is_within y e ≡ b → (is_within y e && p) ≡ false
    by false f = ap (λ (b : Bool). b && p) f
    by true f =
        let a = leb-true y.start e.start (and_left (nat_le y.start e.start) (nat_le e.end y.end) f) in
        let b = leb-true e.end y.end (and_right (nat_le y.start e.start) (nat_le e.end y.end) f) in
        let wide : is_within x e ≡ true = ap₂ (λ (c : Bool) (d : Bool). c && d) (le-leb x.start e.start (omega (arith, a, s))) (le-leb e.end x.end (omega (arith, b, t))) in
        ap (λ (c : Bool). c && p) f ∙ (sym (ap (λ (c : Bool). c && p) wide) ∙ h)

no_first : (a b : Bool) → (a || b) ≡ false → a ≡ false
no_first false b h = refl
no_first true b h = h

no_second : (a b : Bool) → (a || b) ≡ false → b ≡ false
no_second false b h = h
no_second true b h = absurd (cc)

none_within : (p : Extent → Bool) (x y : Extent) → x.start ≤ y.start → y.end ≤ x.end → (es : List Extent) → list_any (λ (e : Extent). is_within x e && p e) es ≡ false → list_any (λ (e : Extent). is_within y e && p e) es ≡ false
none_within p x y s t [] h = refl
none_within p x y s t (e ∷ es) h =
    ap₂ (λ (a : Bool) (b : Bool). a || b) (one (p e) x y e s t (no_first (is_within x e && p e) (list_any (λ (e : Extent). is_within x e && p e) es) h))
    (none_within p x y s t es (no_second (is_within x e && p e) (list_any (λ (e : Extent). is_within x e && p e) es) h))

pub not_shown_inside : (want : Wanted) (all : List Extent) (x y : Extent) → x.start ≤ y.start → y.end ≤ x.end → is_shown want all x ≡ false → is_shown want all y ≡ false
not_shown_inside want all x y s t h = none_within (λ (e : Extent). wants want (number_of (map (λ (a : Extent). a.start) all) e.start)) x y s t all h
