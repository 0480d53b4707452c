-- The walk from the outside in hits the bindings that inner functions close over.
use Rattle.std.proofs.Common.{◌≡◌, ℕ, ◌+◌, ◌<◌, ◌≤◌, ◌≢◌, Bool, true, false, cond, not, ◌||◌, ◌&&◌, nat_eq, nat_lt, Option, None, Some, List, [], ◌∷◌, ◌++◌, length, refl, sym, ap, subst, ◌∙◌, arith, ◌⊎◌, inl, inr}
use Rattle.std.proofs.lemmas.Bool.{eqb-true, eq-eqb, ltb-true, lt-ltb}
use Rattle.std.proofs.lemmas.Bool.Decides.{eqb_tells}
use Rattle.parse_track.specs.Told.{Region, Declared, Used, Jumped, Told, nothing, leaf, inner, KnownNames}
use Rattle.parse_track.specs.RegionNames.{is_lambda}
use Rattle.parse_track.specs.EarlyErrors.{has}
use Rattle.parse_track.specs.ClosedNames.{names, begins, reaches}
use Rattle.parse_track.specs.declared.closed.Top.{Top}
use Rattle.parse_track.specs.Walk.{Tops, put, bind_all, hit, deeper, size, walk}

-- booleans
or_none : (a b : Bool) → a ≡ false → b ≡ false → (a || b) ≡ false
or_none a b e f = ap (λ (x : Bool). x || b) e ∙ f

pub or_first : (a b : Bool) → b ≡ false → (a || b) ≡ a
or_first true b e = refl
or_first false b e = e

pub or_second : (a b : Bool) → a ≡ false → (a || b) ≡ b
or_second a b e = ap (λ (x : Bool). x || b) e

or_both : (a b c d : Bool) → a ≡ c → b ≡ d → (a || b) ≡ (c || d)
or_both a b c d e f = ap (λ (x : Bool). x || b) e ∙ ap (λ (x : Bool). c || x) f

pub or_assoc : (a b c : Bool) → (a || (b || c)) ≡ ((a || b) || c)
or_assoc true b c = refl
or_assoc false b c = refl

and_no : (a : Bool) → (a && false) ≡ false
and_no true = refl
and_no false = refl

and_yes : (a : Bool) → (a && true) ≡ a
and_yes true = refl
and_yes false = refl

pub or_true : (a : Bool) → (a || true) ≡ true
or_true true = refl
or_true false = refl

-- numbers
pub same_self : (n : ℕ) → nat_eq n n ≡ true
same_self n = eq-eqb n n refl

differ : (m n : ℕ) → m ≢ n → nat_eq m n ≡ false
differ m n ne = elim (eqb_tells m n) [ inl p ↦ absurd (ne p.1) | inr p ↦ p.0 ]

pub tell_less : (m n : ℕ) → m < n → nat_eq m n ≡ false
tell_less m n h = differ m n (λ e. let f : m ≡ n = e in absurd (omega arith))

pub tell_more : (m n : ℕ) → n < m → nat_eq m n ≡ false
tell_more m n h = differ m n (λ e. let f : m ≡ n = e in absurd (omega arith))

less_or : (m n : ℕ) (b : Bool) → nat_lt m n ≡ b → n ≤ m → nat_lt m n ≡ false
less_or m n true e h = let l : m < n = ltb-true m n e in absurd (omega arith)
less_or m n false e h = e

pub not_less : (m n : ℕ) → n ≤ m → nat_lt m n ≡ false
not_less m n h = less_or m n (nat_lt m n) refl h

-- a function more between a binding and a use
below_deeper : (d depth : ℕ) (b : Bool) → d ≤ depth → nat_lt d (deeper b depth) ≡ (nat_lt d depth || b)
below_deeper d depth true h = lt-ltb d (depth + 1) (omega arith) ∙ sym (or_true (nat_lt d depth))
below_deeper d depth false h = sym (or_first (nat_lt d depth) false refl)

le_deeper : (d depth : ℕ) (b : Bool) → d ≤ depth → d ≤ deeper b depth
le_deeper d depth true h = omega arith
le_deeper d depth false h = h

-- which places are hit
pub has-append : (q : ℕ) (xs ys : List ℕ) → has nat_eq q (xs ++ ys) ≡ (has nat_eq q xs || has nat_eq q ys)
has-append q [] ys = refl
has-append q (x ∷ xs) ys = ap (λ (b : Bool). nat_eq q x || b) (has-append q xs ys) ∙ or_assoc (nat_eq q x) (has nat_eq q xs) (has nat_eq q ys)

abbrev pub is_at : ℕ → Option Top → Bool
is_at q None = false
is_at q (Some top) = nat_eq q top.place

hit_cases : (b : Bool) (q place : ℕ) → nat_eq q place ≡ false → has nat_eq q (cond b (place ∷ []) []) ≡ false
hit_cases true q place e = or_none (nat_eq q place) false e refl
hit_cases false q place e = refl

hit_self : (b : Bool) (q : ℕ) → has nat_eq q (cond b (q ∷ []) []) ≡ b
hit_self true q = ap (λ (c : Bool). c || false) (same_self q)
hit_self false q = refl

pub hit_other : (q depth : ℕ) (o : Option Top) → is_at q o ≡ false → has nat_eq q (hit o depth) ≡ false
hit_other q depth None e = refl
hit_other q depth (Some top) e = hit_cases (nat_lt top.depth depth) q top.place e

-- no name has its innermost binding at q
pub record Clear (q : ℕ) (tops : Tops) : Type 0 where
  pub by : (y : ℕ) → is_at q (tops y) ≡ false

-- x has its innermost binding at q, and no other name has
pub record Only (q d x : ℕ) (tops : Tops) : Type 0 where
  pub here : tops x ≡ Some (record { place = q; depth = d })
  pub others : (y : ℕ) → nat_eq x y ≡ false → is_at q (tops y) ≡ false

-- all innermost bindings are at places below p
pub record Below (p : ℕ) (tops : Tops) : Type 0 where
  pub by : (q : ℕ) → p ≤ q → (y : ℕ) → is_at q (tops y) ≡ false

pub put_clear_at : (q : ℕ) (tops : Tops) (x : ℕ) (top : Top) (y : ℕ) (b : Bool) → nat_eq x y ≡ b → nat_eq q top.place ≡ false → is_at q (tops y) ≡ false
    → is_at q (cond b (Some top) (tops y)) ≡ false
put_clear_at q tops x top y true e f g = f
put_clear_at q tops x top y false e f g = g

pub put_clear : (q : ℕ) (tops : Tops) (x : ℕ) (top : Top) → nat_eq q top.place ≡ false → Clear q tops → Clear q (put tops x top)
put_clear q tops x top f c = record { by = λ y. put_clear_at q tops x top y (nat_eq x y) refl f (c.by y) }

pub bind_clear : (xs : List ℕ) (q depth place : ℕ) (tops : Tops) → Clear q tops → (q < place) ⊎ (place + length xs ≤ q) → Clear q (bind_all depth place xs tops)
bind_clear [] q depth place tops c h = c
bind_clear (x ∷ xs) q depth place tops c h =
    bind_clear xs q depth (place + 1) (put tops x (record { place = place; depth = depth }))
    (put_clear q tops x (record { place = place; depth = depth }) (apart h) c) (later_on h)
  where
    apart : (q < place) ⊎ (place + length (x ∷ xs) ≤ q) → nat_eq q place ≡ false
    apart (inl l) = tell_less q place l
    apart (inr l) = tell_more q place (omega arith)

    later_on : (q < place) ⊎ (place + length (x ∷ xs) ≤ q) → (q < place + 1) ⊎ ((place + 1) + length xs ≤ q)
    later_on (inl l) = inl (omega arith)
    later_on (inr l) = inr (omega arith)

pub false_is_true : false ≡ true → ⊥
false_is_true e = cc

pub or_left : (a b : Bool) → (a || b) ≡ false → a ≡ false
or_left true b e = e
or_left false b e = refl

pub or_right : (a b : Bool) → (a || b) ≡ false → b ≡ false
or_right true b e = absurd (false_is_true (sym e))
or_right false b e = e

-- a name's own binding is hidden by a later one of the same name
put_only_at : (q d x : ℕ) (tops : Tops) (z : ℕ) (top : Top) (y : ℕ) (b : Bool) → nat_eq z y ≡ b → nat_eq q top.place ≡ false → (nat_eq x y ≡ false → is_at q (tops y) ≡ false) → nat_eq x y ≡ false
    → is_at q (cond b (Some top) (tops y)) ≡ false
put_only_at q d x tops z top y true e f g h = f
put_only_at q d x tops z top y false e f g h = g h

put_other : (q d x : ℕ) (tops : Tops) (z : ℕ) (top : Top) → nat_eq x z ≡ false → nat_eq q top.place ≡ false → Only q d x tops → Only q d x (put tops z top)
put_other q d x tops z top ne f o = record {
  here = ap (λ (b : Bool). cond b (Some top) (tops x)) (differ z x (λ e. let g : nat_eq x z ≡ true = eq-eqb x z (sym e) in absurd (false_is_true (sym ne ∙ g)))) ∙ o.here;
  others = λ y h. put_only_at q d x tops z top y (nat_eq z y) refl f (o.others y) h;
}

put_same_at : (q d x : ℕ) (tops : Tops) (z : ℕ) (top : Top) (y : ℕ) (b : Bool) → nat_eq z y ≡ b → x ≡ z → nat_eq q top.place ≡ false → ((w : ℕ) → nat_eq x w ≡ false → is_at q (tops w) ≡ false)
    → is_at q (cond b (Some top) (tops y)) ≡ false
put_same_at q d x tops z top y true e xz f o = f
put_same_at q d x tops z top y false e xz f o = o y (subst (λ (w : ℕ). nat_eq w y ≡ false) (sym xz) e)

put_same : (q d x : ℕ) (tops : Tops) (z : ℕ) (top : Top) → nat_eq x z ≡ true → nat_eq q top.place ≡ false → Only q d x tops → Clear q (put tops z top)
put_same q d x tops z top e f o = record { by = λ y. put_same_at q d x tops z top y (nat_eq z y) refl (eqb-true x z e) f o.others }

pub bind_keeps : (xs : List ℕ) (q d x depth place : ℕ) (tops : Tops) → Only q d x tops → has nat_eq x xs ≡ false → q < place → Only q d x (bind_all depth place xs tops)
bind_keeps [] q d x depth place tops o e h = o
bind_keeps (z ∷ zs) q d x depth place tops o e h =
    bind_keeps zs q d x depth (place + 1) (put tops z (record { place = place; depth = depth }))
    (put_other q d x tops z (record { place = place; depth = depth }) (or_left (nat_eq x z) (has nat_eq x zs) e) (tell_less q place h) o)
    (or_right (nat_eq x z) (has nat_eq x zs) e) (omega arith)

pub bind_hides : (xs : List ℕ) (q d x depth place : ℕ) (tops : Tops) → Only q d x tops → has nat_eq x xs ≡ true → q < place → Clear q (bind_all depth place xs tops)
bind_hides [] q d x depth place tops o e h = absurd (false_is_true e)
bind_hides (z ∷ zs) q d x depth place tops o e h =
    hides (nat_eq x z) refl e (λ o'. bind_hides zs q d x depth (place + 1) (put tops z top) o') where
      top : Top
      top = record { place = place; depth = depth }

      hides : (b : Bool) → nat_eq x z ≡ b → (b || has nat_eq x zs) ≡ true
          → (Only q d x (put tops z top) → has nat_eq x zs ≡ true → q < place + 1 → Clear q (bind_all depth (place + 1) zs (put tops z top)))
          → Clear q (bind_all depth (place + 1) zs (put tops z top))
      hides true g f rest = bind_clear zs q depth (place + 1) (put tops z top) (put_same q d x tops z top g (tell_less q place h) o) (inl (omega arith))
      hides false g f rest = rest (put_other q d x tops z top g (tell_less q place h) o) f (omega arith)

-- a place that no name has innermost, and that is none of what is told, is not hit
pub untouched : (known : KnownNames ℕ) (t : Told ℕ) (named : Bool) (tops : Tops) (q place depth : ℕ) → Clear q tops → (q < place) ⊎ (place + size known t ≤ q)
    → has nat_eq q (walk known named tops place depth t) ≡ false
untouched known nothing named tops q place depth c h = refl
untouched known (leaf (Declared _ _) t) named tops q place depth c h = untouched known t named tops q place depth c h
untouched known (leaf (Jumped _ _ _) t) named tops q place depth c h = untouched known t named tops q place depth c h
untouched known (leaf (Used x) t) named tops q place depth c h =
    has-append q (hit (tops x) depth) (walk known named tops place depth t)
    ∙ or_none (has nat_eq q (hit (tops x) depth)) (has nat_eq q (walk known named tops place depth t)) (hit_other q depth (tops x) (c.by x)) (untouched known t named tops q place depth c h)
untouched known (inner k at i t) named tops q place depth c h =
    has-append q (walk known (is_lambda k) inside (place + length ns) deep i) (walk known named tops (place + (length ns + size known i)) depth t)
    ∙ or_none (has nat_eq q (walk known (is_lambda k) inside (place + length ns) deep i)) (has nat_eq q (walk known named tops (place + (length ns + size known i)) depth t))
    (untouched known i (is_lambda k) inside q (place + length ns) deep (bind_clear ns q deep place tops c (names_apart h)) (inside_apart h))
    (untouched known t named tops q (place + (length ns + size known i)) depth c (behind_apart h))
  where
    ns : List ℕ
    ns = names nat_eq known k i

    deep : ℕ
    deep = deeper (begins named k) depth

    inside : Tops
    inside = bind_all deep place ns tops

    names_apart : (q < place) ⊎ (place + (length ns + (size known i + size known t)) ≤ q) → (q < place) ⊎ (place + length ns ≤ q)
    names_apart (inl l) = inl l
    names_apart (inr l) = inr (omega arith)

    inside_apart : (q < place) ⊎ (place + (length ns + (size known i + size known t)) ≤ q) → (q < place + length ns) ⊎ ((place + length ns) + size known i ≤ q)
    inside_apart (inl l) = inl (omega arith)
    inside_apart (inr l) = inr (omega arith)

    behind_apart : (q < place) ⊎ (place + (length ns + (size known i + size known t)) ≤ q) → (q < place + (length ns + size known i)) ⊎ ((place + (length ns + size known i)) + size known t ≤ q)
    behind_apart (inl l) = inl (omega arith)
    behind_apart (inr l) = inr (omega arith)

-- Where q is the innermost binding of x alone, it is hit where a use in a function inside leaves x unbound.
used_at : (q d x depth y : ℕ) (o : Option Top) (b : Bool) → nat_eq x y ≡ b → (b ≡ true → o ≡ Some (record { place = q; depth = d })) → (b ≡ false → is_at q o ≡ false)
    → has nat_eq q (hit o depth) ≡ (nat_lt d depth && b)
used_at q d x depth y o true e f g = ap (λ (p : Option Top). has nat_eq q (hit p depth)) (f refl) ∙ (hit_self (nat_lt d depth) q ∙ sym (and_yes (nat_lt d depth)))
used_at q d x depth y o false e f g = hit_other q depth o (g refl) ∙ sym (and_no (nat_lt d depth))

inner_found : (known : KnownNames ℕ) (i : Told ℕ) (k : Region ℕ) (named : Bool) (tops : Tops) (q d x place depth : ℕ) (ns : List ℕ) (b : Bool)
    → has nat_eq x ns ≡ b → Only q d x tops → q < place → d ≤ depth
    → ((T : Tops) → Only q d x T → q < place + length ns → d ≤ deeper (begins named k) depth
    → has nat_eq q (walk known (is_lambda k) T (place + length ns) (deeper (begins named k) depth) i) ≡ reaches nat_eq known (is_lambda k) (nat_lt d (deeper (begins named k) depth)) x i)
    → has nat_eq q (walk known (is_lambda k) (bind_all (deeper (begins named k) depth) place ns tops) (place + length ns) (deeper (begins named k) depth) i)
    ≡ (not b && reaches nat_eq known (is_lambda k) (nat_lt d depth || begins named k) x i)
inner_found known i k named tops q d x place depth ns true e o h l f =
    untouched known i (is_lambda k) (bind_all (deeper (begins named k) depth) place ns tops) q (place + length ns) (deeper (begins named k) depth)
    (bind_hides ns q d x (deeper (begins named k) depth) place tops o e h) (inl (omega arith))
inner_found known i k named tops q d x place depth ns false e o h l f =
    f (bind_all (deeper (begins named k) depth) place ns tops) (bind_keeps ns q d x (deeper (begins named k) depth) place tops o e h) (omega arith) (le_deeper d depth (begins named k) l)
    ∙ ap (λ (b : Bool). reaches nat_eq known (is_lambda k) b x i) (below_deeper d depth (begins named k) l)

pub found : (known : KnownNames ℕ) (t : Told ℕ) (named : Bool) (tops : Tops) (q d x place depth : ℕ) → Only q d x tops → q < place → d ≤ depth
    → has nat_eq q (walk known named tops place depth t) ≡ reaches nat_eq known named (nat_lt d depth) x t
found known nothing named tops q d x place depth o h l = refl
found known (leaf (Declared _ _) t) named tops q d x place depth o h l = found known t named tops q d x place depth o h l
found known (leaf (Jumped _ _ _) t) named tops q d x place depth o h l = found known t named tops q d x place depth o h l
found known (leaf (Used y) t) named tops q d x place depth o h l =
    has-append q (hit (tops y) depth) (walk known named tops place depth t)
    ∙ or_both (has nat_eq q (hit (tops y) depth)) (has nat_eq q (walk known named tops place depth t)) (nat_lt d depth && nat_eq x y) (reaches nat_eq known named (nat_lt d depth) x t)
    (used_at q d x depth y (tops y) (nat_eq x y) refl (λ e. subst (λ (z : ℕ). tops z ≡ Some (record { place = q; depth = d })) (eqb-true x y e) o.here) (o.others y))
    (found known t named tops q d x place depth o h l)
found known (inner k at i t) named tops q d x place depth o h l =
    has-append q (walk known (is_lambda k) (bind_all (deeper (begins named k) depth) place (names nat_eq known k i) tops) (place + length (names nat_eq known k i)) (deeper (begins named k) depth) i)
    (walk known named tops (place + (length (names nat_eq known k i) + size known i)) depth t)
    ∙ or_both
    (has nat_eq q (walk known (is_lambda k) (bind_all (deeper (begins named k) depth) place (names nat_eq known k i) tops) (place + length (names nat_eq known k i)) (deeper (begins named k) depth) i))
    (has nat_eq q (walk known named tops (place + (length (names nat_eq known k i) + size known i)) depth t))
    (not (has nat_eq x (names nat_eq known k i)) && reaches nat_eq known (is_lambda k) (nat_lt d depth || begins named k) x i)
    (reaches nat_eq known named (nat_lt d depth) x t)
    (inner_found known i k named tops q d x place depth (names nat_eq known k i) (has nat_eq x (names nat_eq known k i)) refl o h l
    (λ T o' h' l'. found known i (is_lambda k) T q d x (place + length (names nat_eq known k i)) (deeper (begins named k) depth) o' h' l'))
    (found known t named tops q d x (place + (length (names nat_eq known k i) + size known i)) depth o (let m : q < place + (length (names nat_eq known k i) + size known i) = omega arith in m) l)
