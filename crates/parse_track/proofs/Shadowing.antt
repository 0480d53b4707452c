-- Names that a scope bound anew are bound to what they were bound to before.
use Rattle.std.proofs.Common.{◌≡◌, ℕ, ◌+◌, ◌<◌, Bool, true, false, ◌||◌, cond, nat_eq, Option, List, [], ◌∷◌, length, map, drop, get_or, refl, sym, ap, ◌∙◌, add-one, drop-cons}
use Rattle.std.proofs.lemmas.Bool.{eqb-true, eqb-false, ne_eqb}
use Rattle.parse_track.specs.declared.region.ClosedAt.{ClosedAt}
use Rattle.parse_track.specs.declared.closed.Top.{Top}
use Rattle.parse_track.specs.declared.closed.Shadowed.{Shadowed}
use Rattle.parse_track.specs.EarlyErrors.{has}
use Rattle.parse_track.specs.Shadows.{atoms_bound, shadow_of, bind_back}
use Rattle.parse_track.specs.Walk.{Tops}

bind_back_same : (xs : List Shadowed) (T S : Tops) → ((y : ℕ) → T y ≡ S y) → (y : ℕ) → bind_back xs T y ≡ bind_back xs S y
bind_back_same [] T S e y = e y
bind_back_same (x ∷ xs) T S e y =
    bind_back_same xs (λ z. cond (nat_eq x.atom z) x.outer (T z)) (λ z. cond (nat_eq x.atom z) x.outer (S z)) (λ z. ap (λ (o : Option Top). cond (nat_eq x.atom z) x.outer o) (e z)) y

pub bind_back_step : (xs : List Shadowed) (d : Shadowed) (i : ℕ) (T now all : Tops) → i < length xs
    → ((y : ℕ) → now y ≡ cond (nat_eq (get_or xs i d).atom y) (get_or xs i d).outer (T y))
    → ((y : ℕ) → bind_back (drop i xs) T y ≡ all y)
    → (y : ℕ) → bind_back (drop (i + 1) xs) now y ≡ all y
bind_back_step xs d i T now all l e h y =
    let c : drop i xs ≡ get_or xs i d ∷ drop (i + 1) xs = rw add-one (drop-cons xs i d l) in
    bind_back_same (drop (i + 1) xs) now (λ z. cond (nat_eq (get_or xs i d).atom z) (get_or xs i d).outer (T z)) e y
    ∙ (ap (λ (ys : List Shadowed). bind_back ys T y) (sym c) ∙ h y)

other_name : (x y : ℕ) (b : Bool) → nat_eq x y ≡ false → b ≡ false → (nat_eq y x || b) ≡ false
other_name x y b e f = ap (λ (c : Bool). c || b) (ne_eqb y x (λ g. eqb-false x y e (sym g))) ∙ f

back_at : (x y : ℕ) (b : Bool) (o : Option Top) (tops : Tops) → nat_eq x y ≡ b → (b ≡ false → o ≡ tops y) → cond b (tops x) o ≡ tops y
back_at x y true o tops e f = ap tops (eqb-true x y e)
back_at x y false o tops e f = f refl

-- where other names are bound to what they were bound to
pub all_back : (bound : List ClosedAt) (T tops : Tops) → ((y : ℕ) → has nat_eq y (atoms_bound bound) ≡ false → T y ≡ tops y)
    → (y : ℕ) → bind_back (map (shadow_of tops) bound) T y ≡ tops y
all_back [] T tops h y = h y refl
all_back (b ∷ bs) T tops h y =
    all_back bs (λ z. cond (nat_eq b.atom z) (tops b.atom) (T z)) tops
    (λ z e. back_at b.atom z (nat_eq b.atom z) (T z) tops refl (λ f. h z (other_name b.atom z (has nat_eq z (atoms_bound bs)) f e))) y
