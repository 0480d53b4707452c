-- Among functions that start at places of their own, the closed names of one of them.
use Rattle.std.proofs.Common.{◌≡◌, ◌⊎◌, ℕ, ◌+◌, Bool, true, false, cond, nat_eq, Option, Some, List, [], ◌∷◌, ◌++◌, length, sym, ap, subst, ◌∙◌, inl, inr, append-nil, true≢false}
use Rattle.std.proofs.lemmas.Bool.{eq-eqb, ne_eqb}
use Rattle.stencil_data.specs.Named.{NamedClosed}
use Rattle.parse_track.specs.Told.{Region, Told, nothing, leaf, inner}
use Rattle.parse_track.specs.RegionNames.{is_lambda}
use Rattle.parse_track.specs.ClosedNames.{begins, at_of}
use Rattle.parse_track.specs.Tells.{Text}
use Rattle.scope_closed_laws.specs.Handed.{is_start}
use Rattle.scope_closed_laws.proofs.Own.{scopes_in, picked_in, own, starts, Occurs, Clean}
use Rattle.scope_closed_laws.proofs.Closing.{told_closed, picked, region_closed, own_func, behind_in, closed_split, region_picked, region_none, Avoids, three_picked, none_picked, own_picked}

abbrev pub IsIn : ℕ → List ℕ → Type 0
IsIn s [] = ⊥
IsIn s (n ∷ ns) = (n ≡ s) ⊎ IsIn s ns

abbrev pub Distinct : List ℕ → Type 0
Distinct [] = Unit {0}
Distinct (n ∷ ns) = (IsIn n ns → ⊥) × Distinct ns

in_left : (s : ℕ) (ms ns : List ℕ) → IsIn s ms → IsIn s (ms ++ ns)
in_left s [] ns h = absurd h
in_left s (m ∷ ms) ns (inl e) = inl e
in_left s (m ∷ ms) ns (inr h) = inr (in_left s ms ns h)

in_right : (s : ℕ) (ms ns : List ℕ) → IsIn s ns → IsIn s (ms ++ ns)
in_right s [] ns h = h
in_right s (m ∷ ms) ns h = inr (in_right s ms ns h)

distinct_left : (ms ns : List ℕ) → Distinct (ms ++ ns) → Distinct ms
distinct_left [] ns d = tt
distinct_left (m ∷ ms) ns d = ((λ h. d.0 (in_left m ms ns h)), distinct_left ms ns d.1)

distinct_right : (ms ns : List ℕ) → Distinct (ms ++ ns) → Distinct ns
distinct_right [] ns d = d
distinct_right (m ∷ ms) ns d = distinct_right ms ns d.1

apart : (s : ℕ) (ms ns : List ℕ) → Distinct (ms ++ ns) → IsIn s ms → IsIn s ns → ⊥
apart s [] ns d h g = h
apart s (m ∷ ms) ns d (inl e) g = d.0 (in_right m ms ns (subst (λ n. IsIn n ns) (sym e) g))
apart s (m ∷ ms) ns d (inr h) g = apart s ms ns d.1 h g

abbrev pub starts_at : ℕ → Option ℕ → Bool
starts_at s o = is_start o s

avoids_from : (s : ℕ) (ns : List ℕ) → (IsIn s ns → ⊥) → Avoids (starts_at s) ns
avoids_from s [] h = tt
avoids_from s (n ∷ ns) h = (ne_eqb n s (λ e. h (inl e)), avoids_from s ns (λ g. h (inr g)))

-- ---- a function that is told somewhere

abbrev pub start_of : Told Text → ℕ
start_of nothing = 0
start_of (leaf l t) = 0
start_of (inner k at i t) = at_of k at i

-- the closed names that the function of a region binds
abbrev pub own_of : Told Text → List NamedClosed
own_of nothing = []
own_of (leaf l t) = []
own_of (inner k at i t) = picked_in 0 k i ++ own (is_lambda k) (0 + length (scopes_in k i)) i

begun : (s n : ℕ) (b : Bool) → b ≡ true → n ≡ s → (ns : List ℕ) → IsIn s (cond b (n ∷ []) [] ++ ns)
begun s n true e h ns = inl h
begun s n false e h ns = absurd (true≢false (sym e))

pub occurs_starts : (f : Told Text) (named : Bool) (t : Told Text) → Occurs f named t → IsIn (start_of f) (starts named t)
occurs_starts f named nothing o = absurd o
occurs_starts f named (leaf l t) o = occurs_starts f named t o
occurs_starts f named (inner k at i t) (inl o) = begun (start_of f) (at_of k at i) (begins named k) o.0 (ap start_of o.1) _
occurs_starts f named (inner k at i t) (inr (inl o)) = in_right _ (cond (begins named k) (at_of k at i ∷ []) []) _ (in_left _ (starts (is_lambda k) i) (starts named t) (occurs_starts f (is_lambda k) i o))
occurs_starts f named (inner k at i t) (inr (inr o)) = in_right _ (cond (begins named k) (at_of k at i ∷ []) []) _ (in_right _ (starts (is_lambda k) i) (starts named t) (occurs_starts f named t o))

-- the function of a region around it is another one
other_func : (s n : ℕ) (b : Bool) (ns : List ℕ) (func : Option ℕ) → Distinct (cond b (n ∷ []) [] ++ ns) → IsIn s ns → starts_at s func ≡ false → starts_at s (own_func b n func) ≡ false
other_func s n true ns func d h e = ne_eqb n s (λ g. d.0 (subst (λ m. IsIn m ns) (sym g) h))
other_func s n false ns func d h e = e

here : (s : ℕ) (named : Bool) (func : Option ℕ) (scope : ℕ) (k : Region Text) (n : ℕ) (i t : Told Text) (b : Bool) → b ≡ true → n ≡ s
    → Distinct (cond b (n ∷ []) [] ++ (starts (is_lambda k) i ++ starts named t)) → starts_at s func ≡ false
    → picked (starts_at s) (region_closed (own_func b n func) (cond b 0 scope) k i ++ (told_closed (is_lambda k) (own_func b n func) (cond b 0 scope + length (scopes_in k i)) i ++ told_closed named func (behind_in b scope k i) t))
    ≡ picked_in 0 k i ++ own (is_lambda k) (0 + length (scopes_in k i)) i
here s named func scope k n i t false b e d out = absurd (true≢false (sym b))
here s named func scope k n i t true b e d out =
    let is : nat_eq n s ≡ true = eq-eqb n s e in
    let outside : IsIn s (starts (is_lambda k) i ++ starts named t) → ⊥ = λ h. d.0 (subst (λ m. IsIn m (starts (is_lambda k) i ++ starts named t)) (sym e) h) in
    three_picked (starts_at s) (region_closed (Some n) 0 k i) (told_closed (is_lambda k) (Some n) (0 + length (scopes_in k i)) i) (told_closed named func (scope + 0) t) _ _ [] (region_picked (starts_at s) (Some n) 0 k i is)
    (own_picked (starts_at s) (is_lambda k) (Some n) (0 + length (scopes_in k i)) i is (avoids_from s (starts (is_lambda k) i) (λ h. outside (in_left s (starts (is_lambda k) i) (starts named t) h))))
    (none_picked (starts_at s) named func (scope + 0) t out (avoids_from s (starts named t) (λ h. outside (in_right s (starts (is_lambda k) i) (starts named t) h))))
    ∙ ap (λ us. picked_in 0 k i ++ us) (append-nil (own (is_lambda k) (0 + length (scopes_in k i)) i))

parts_picked : (s : ℕ) (named : Bool) (func : Option ℕ) (scope : ℕ) (k : Region Text) (at : ℕ) (i t : Told Text) → starts_at s (own_func (begins named k) (at_of k at i) func) ≡ false → (y z : List NamedClosed)
    → picked (starts_at s) (told_closed (is_lambda k) (own_func (begins named k) (at_of k at i) func) (cond (begins named k) 0 scope + length (scopes_in k i)) i) ≡ y
    → picked (starts_at s) (told_closed named func (behind_in (begins named k) scope k i) t) ≡ z
    → picked (starts_at s) (told_closed named func scope (inner k at i t)) ≡ y ++ z
parts_picked s named func scope k at i t other y z e h =
    ap (picked (starts_at s)) (closed_split named func scope k at i t)
    ∙ three_picked (starts_at s) (region_closed (own_func (begins named k) (at_of k at i) func) (cond (begins named k) 0 scope) k i)
    (told_closed (is_lambda k) (own_func (begins named k) (at_of k at i) func) (cond (begins named k) 0 scope + length (scopes_in k i)) i) (told_closed named func (behind_in (begins named k) scope k i) t)
    [] y z (region_none (starts_at s) (own_func (begins named k) (at_of k at i) func) (cond (begins named k) 0 scope) k i other) e h

pub found_picked : (f : Told Text) (s : ℕ) (named : Bool) (func : Option ℕ) (scope : ℕ) (t : Told Text) → start_of f ≡ s → Occurs f named t → Distinct (starts named t) → starts_at s func ≡ false
    → picked (starts_at s) (told_closed named func scope t) ≡ own_of f
found_picked f s named func scope nothing e o d out = absurd o
found_picked f s named func scope (leaf l t) e o d out = found_picked f s named func scope t e o d out
found_picked f s named func scope (inner k at i t) e (inl o) d out =
    ap (picked (starts_at s)) (closed_split named func scope k at i t)
    ∙ (here s named func scope k (at_of k at i) i t (begins named k) o.0 (ap start_of o.1 ∙ e) d out ∙ ap own_of o.1)
found_picked f s named func scope (inner k at i t) e (inr (inl o)) d out =
    let inside : IsIn s (starts (is_lambda k) i) = subst (λ n. IsIn n (starts (is_lambda k) i)) e (occurs_starts f (is_lambda k) i o) in
    let rest = distinct_right (cond (begins named k) (at_of k at i ∷ []) []) (starts (is_lambda k) i ++ starts named t) d in
    let other = other_func s (at_of k at i) (begins named k) (starts (is_lambda k) i ++ starts named t) func d (in_left s (starts (is_lambda k) i) (starts named t) inside) out in
    parts_picked s named func scope k at i t other (own_of f) []
    (found_picked f s (is_lambda k) (own_func (begins named k) (at_of k at i) func) (cond (begins named k) 0 scope + length (scopes_in k i)) i e o (distinct_left (starts (is_lambda k) i) (starts named t) rest) other)
    (none_picked (starts_at s) named func (behind_in (begins named k) scope k i) t out (avoids_from s (starts named t) (λ h. apart s (starts (is_lambda k) i) (starts named t) rest inside h)))
    ∙ append-nil (own_of f)
found_picked f s named func scope (inner k at i t) e (inr (inr o)) d out =
    let behind : IsIn s (starts named t) = subst (λ n. IsIn n (starts named t)) e (occurs_starts f named t o) in
    let rest = distinct_right (cond (begins named k) (at_of k at i ∷ []) []) (starts (is_lambda k) i ++ starts named t) d in
    let other = other_func s (at_of k at i) (begins named k) (starts (is_lambda k) i ++ starts named t) func d (in_right s (starts (is_lambda k) i) (starts named t) behind) out in
    parts_picked s named func scope k at i t other [] (own_of f)
    (none_picked (starts_at s) (is_lambda k) (own_func (begins named k) (at_of k at i) func) (cond (begins named k) 0 scope + length (scopes_in k i)) i other (avoids_from s (starts (is_lambda k) i) (λ h. apart s (starts (is_lambda k) i) (starts named t) rest h behind)))
    (found_picked f s named func (behind_in (begins named k) scope k i) t e o (distinct_right (starts (is_lambda k) i) (starts named t) rest) out)

-- a function in a function that is told somewhere
occurs_here : (g f : Told Text) (k : Region Text) (at : ℕ) (i t : Told Text) (named : Bool) → begins named k ≡ true → inner k at i nothing ≡ f → Occurs g false f → Occurs g named (inner k at i t)
occurs_here g f k at i t named b e o = by (subst (λ h. Occurs g false h) (sym e) o) where
  by : Occurs g false (inner k at i nothing) → Occurs g named (inner k at i t)
  by (inl p) = inl (b, p.1)
  by (inr (inl p)) = inr (inl p)
  by (inr (inr p)) = absurd p

pub occurs_inside : (g f : Told Text) (named : Bool) (t : Told Text) → Occurs f named t → Occurs g false f → Occurs g named t
occurs_inside g f named nothing o h = absurd o
occurs_inside g f named (leaf l t) o h = occurs_inside g f named t o h
occurs_inside g f named (inner k at i t) (inl o) h = occurs_here g f k at i t named o.0 o.1 h
occurs_inside g f named (inner k at i t) (inr (inl o)) h = inr (inl (occurs_inside g f (is_lambda k) i o h))
occurs_inside g f named (inner k at i t) (inr (inr o)) h = inr (inr (occurs_inside g f named t o h))

pub occurs_clean : (f : Told Text) (named : Bool) (t : Told Text) → Occurs f named t → Clean t → Clean f
occurs_clean f named nothing o c = absurd o
occurs_clean f named (leaf l t) o c = occurs_clean f named t o c
occurs_clean f named (inner k at i t) (inl o) c = subst Clean o.1 (c.0, c.1, tt)
occurs_clean f named (inner k at i t) (inr (inl o)) c = occurs_clean f (is_lambda k) i o c.1
occurs_clean f named (inner k at i t) (inr (inr o)) c = occurs_clean f named t o c.2
