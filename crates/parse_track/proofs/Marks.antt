-- The flags of all bindings, read off the places that the walk hits.
use Rattle.std.proofs.Common.{◌≡◌, ℕ, ◌+◌, ◌<◌, ◌≤◌, zero, suc, Bool, true, false, cond, not, ◌&&◌, nat_eq, Some, List, [], ◌∷◌, ◌++◌, length, refl, sym, ap, subst, ◌∙◌, arith, inl, inr}
use Rattle.parse_track.specs.Told.{Region, Declared, Used, Jumped, Told, nothing, leaf, inner, KnownNames}
use Rattle.parse_track.specs.RegionNames.{is_lambda}
use Rattle.parse_track.specs.EarlyErrors.{has}
use Rattle.parse_track.specs.ClosedNames.{names, begins, reaches, reached, flags}
use Rattle.parse_track.specs.declared.closed.Top.{Top}
use Rattle.parse_track.specs.Walk.{Tops, no_tops, put, bind_all, hit, deeper, size, walk, marks}
use Rattle.parse_track.proofs.Walk.{hit_other, Clear, Only, Below, is_at, bind_keeps, bind_hides, untouched, found, has-append, or_first, or_second, tell_more, not_less, same_self, false_is_true}

pub cons_same : (a b : Bool) (xs ys : List Bool) → a ≡ b → xs ≡ ys → a ∷ xs ≡ b ∷ ys
cons_same a b xs ys e f = ap (λ (x : Bool). x ∷ xs) e ∙ ap (λ (zs : List Bool). b ∷ zs) f

pub marks_same : (xs ys : List ℕ) (p n : ℕ) → ((q : ℕ) → p ≤ q → q < p + n → has nat_eq q xs ≡ has nat_eq q ys) → marks xs p n ≡ marks ys p n
marks_same xs ys p zero h = refl
marks_same xs ys p (suc n) h =
    cons_same (has nat_eq p xs) (has nat_eq p ys) (marks xs (p + 1) n) (marks ys (p + 1) n) (h p (omega arith) (omega arith))
    (marks_same xs ys (p + 1) n (λ q l m. h q (omega arith) (omega arith)))

pub marks-append : (hits : List ℕ) (p m n : ℕ) → marks hits p (m + n) ≡ marks hits p m ++ marks hits (p + m) n
marks-append hits p zero n = ap (λ (k : ℕ). marks hits p k) (let e : 0 + n ≡ n = omega arith in e) ∙ ap (λ (k : ℕ). marks hits k n) (let e : p ≡ p + 0 = omega arith in e)
marks-append hits p (suc m) n =
    ap (marks hits p) (let e : suc m + n ≡ suc (m + n) = omega arith in e)
    ∙ ap (λ (ps : List Bool). has nat_eq p hits ∷ ps) (marks-append hits (p + 1) m n ∙ ap (λ (k : ℕ). marks hits (p + 1) m ++ marks hits k n) (let e : (p + 1) + m ≡ p + suc m = omega arith in e))

-- one more name bound
put_at : (q x : ℕ) (tops : Tops) (top : Top) (y : ℕ) (b : Bool) → nat_eq x y ≡ b → nat_eq q top.place ≡ false → is_at q (tops y) ≡ false → is_at q (cond b (Some top) (tops y)) ≡ false
put_at q x tops top y true e f g = f
put_at q x tops top y false e f g = g

put_below : (p depth x : ℕ) (tops : Tops) → Below p tops → Below (p + 1) (put tops x (record { place = p; depth = depth }))
put_below p depth x tops b = record { by = λ q h y. put_at q x tops (record { place = p; depth = depth }) y (nat_eq x y) refl (tell_more q p (omega arith)) (b.by q (omega arith) y) }

bind_below : (xs : List ℕ) (p depth : ℕ) (tops : Tops) → Below p tops → Below (p + length xs) (bind_all depth p xs tops)
bind_below [] p depth tops b = subst (λ (k : ℕ). Below k tops) (let e : p ≡ p + 0 = omega arith in e) b
bind_below (x ∷ xs) p depth tops b =
    subst (λ (k : ℕ). Below k (bind_all depth (p + 1) xs (put tops x (record { place = p; depth = depth }))))
    (let e : (p + 1) + length xs ≡ p + suc (length xs) = omega arith in e)
    (bind_below xs (p + 1) depth (put tops x (record { place = p; depth = depth })) (put_below p depth x tops b))

more_below : (p q : ℕ) (tops : Tops) → p ≤ q → Below p tops → Below q tops
more_below p q tops h b = record { by = λ r l y. b.by r (omega arith) y }

below_clear : (p q : ℕ) (tops : Tops) → p ≤ q → Below p tops → Clear q tops
below_clear p q tops h b = record { by = λ y. b.by q h y }

put_here : (x : ℕ) (tops : Tops) (top : Top) → put tops x top x ≡ Some top
put_here x tops top = ap (λ (b : Bool). cond b (Some top) (tops x)) (same_self x)

put_only_others : (q x : ℕ) (tops : Tops) (top : Top) (y : ℕ) (b : Bool) → nat_eq x y ≡ b → nat_eq x y ≡ false → is_at q (tops y) ≡ false → is_at q (cond b (Some top) (tops y)) ≡ false
put_only_others q x tops top y true e f g = absurd (false_is_true (sym f ∙ e))
put_only_others q x tops top y false e f g = g

put_only : (p depth x : ℕ) (tops : Tops) → Below p tops → Only p depth x (put tops x (record { place = p; depth = depth }))
put_only p depth x tops b = record {
  here = put_here x tops (record { place = p; depth = depth });
  others = λ y h. put_only_others p x tops (record { place = p; depth = depth }) y (nat_eq x y) refl h (b.by p (omega arith) y);
}

-- The marks of a region's own names, and then of all places.
own_one : (known : KnownNames ℕ) (k : Region ℕ) (i : Told ℕ) (p depth place x : ℕ) (xs : List ℕ) (tops : Tops) (b : Bool) → has nat_eq x xs ≡ b → p + suc (length xs) ≤ place → Below p tops
    → has nat_eq p (walk known (is_lambda k) (bind_all depth (p + 1) xs (put tops x (record { place = p; depth = depth }))) place depth i) ≡ (not b && reaches nat_eq known (is_lambda k) false x i)
own_one known k i p depth place x xs tops true e h l =
    untouched known i (is_lambda k) (bind_all depth (p + 1) xs (put tops x (record { place = p; depth = depth }))) p place depth
    (bind_hides xs p depth x depth (p + 1) (put tops x (record { place = p; depth = depth })) (put_only p depth x tops l) e (omega arith)) (inl (omega arith))
own_one known k i p depth place x xs tops false e h l =
    found known i (is_lambda k) (bind_all depth (p + 1) xs (put tops x (record { place = p; depth = depth }))) p depth x place depth
    (bind_keeps xs p depth x depth (p + 1) (put tops x (record { place = p; depth = depth })) (put_only p depth x tops l) e (omega arith)) (omega arith) (omega arith)
    ∙ ap (λ (c : Bool). reaches nat_eq known (is_lambda k) c x i) (not_less depth depth (omega arith))

own : (known : KnownNames ℕ) (k : Region ℕ) (i : Told ℕ) (xs : List ℕ) (p depth place : ℕ) (tops : Tops) → p + length xs ≤ place → Below p tops
    → marks (walk known (is_lambda k) (bind_all depth p xs tops) place depth i) p (length xs) ≡ reached nat_eq known k i xs
own known k i [] p depth place tops h l = refl
own known k i (x ∷ xs) p depth place tops h l =
    cons_same
    (has nat_eq p (walk known (is_lambda k) (bind_all depth (p + 1) xs (put tops x (record { place = p; depth = depth }))) place depth i))
    (not (has nat_eq x xs) && reaches nat_eq known (is_lambda k) false x i)
    (marks (walk known (is_lambda k) (bind_all depth (p + 1) xs (put tops x (record { place = p; depth = depth }))) place depth i) (p + 1) (length xs))
    (reached nat_eq known k i xs)
    (own_one known k i p depth place x xs tops (has nat_eq x xs) refl h l)
    (own known k i xs (p + 1) depth place (put tops x (record { place = p; depth = depth })) (let m : (p + 1) + length xs ≤ place = omega arith in m) (put_below p depth x tops l))

join_three : (a b c d e f g : List Bool) → a ≡ b ++ (c ++ d) → b ≡ e → c ≡ f → d ≡ g → a ≡ e ++ (f ++ g)
join_three a b c d e f g h i j k = h ∙ (ap (λ (x : List Bool). x ++ (c ++ d)) i ∙ (ap (λ (x : List Bool). e ++ (x ++ d)) j ∙ ap (λ (x : List Bool). e ++ (f ++ x)) k))

pub marked : (known : KnownNames ℕ) (t : Told ℕ) (named : Bool) (tops : Tops) (place depth : ℕ) → Below place tops
    → marks (walk known named tops place depth t) place (size known t) ≡ flags nat_eq known t
marked known nothing named tops place depth b = refl
marked known (leaf (Declared _ _) t) named tops place depth b = marked known t named tops place depth b
marked known (leaf (Jumped _ _ _) t) named tops place depth b = marked known t named tops place depth b
marked known (leaf (Used x) t) named tops place depth b =
    marks_same (hit (tops x) depth ++ walk known named tops place depth t) (walk known named tops place depth t) place (size known t)
    (λ q l m. has-append q (hit (tops x) depth) (walk known named tops place depth t)
    ∙ or_second (has nat_eq q (hit (tops x) depth)) (has nat_eq q (walk known named tops place depth t)) (hit_other q depth (tops x) (b.by q l x)))
    ∙ marked known t named tops place depth b
marked known (inner k at i t) named tops place depth b =
    join_three
    (marks (first ++ second) place (n + (size known i + size known t)))
    (marks (first ++ second) place n) (marks (first ++ second) (place + n) (size known i)) (marks (first ++ second) ((place + n) + size known i) (size known t))
    (reached nat_eq known k i ns) (flags nat_eq known i) (flags nat_eq known t)
    (marks-append (first ++ second) place n (size known i + size known t) ∙ ap (λ (x : List Bool). marks (first ++ second) place n ++ x) (marks-append (first ++ second) (place + n) (size known i) (size known t)))
    (marks_same (first ++ second) first place n (λ q l m. has-append q first second ∙ or_first (has nat_eq q first) (has nat_eq q second)
    (untouched known t named tops q (place + (n + size known i)) depth (below_clear place q tops l b) (inl (omega arith))))
    ∙ own known k i ns place deep (place + n) tops (omega arith) b)
    (marks_same (first ++ second) first (place + n) (size known i) (λ q l m. has-append q first second ∙ or_first (has nat_eq q first) (has nat_eq q second)
    (untouched known t named tops q (place + (n + size known i)) depth (below_clear place q tops (omega arith) b) (inl (omega arith))))
    ∙ marked known i (is_lambda k) inside (place + n) deep (bind_below ns place deep tops b))
    (marks_same (first ++ second) second ((place + n) + size known i) (size known t) (λ q l m. has-append q first second ∙ or_second (has nat_eq q first) (has nat_eq q second)
    (untouched known i (is_lambda k) inside q (place + n) deep (below_clear (place + n) q inside (omega arith) (bind_below ns place deep tops b)) (inr l)))
    ∙ (ap (λ (p : ℕ). marks second p (size known t)) (let e : (place + n) + size known i ≡ place + (n + size known i) = omega arith in e)
    ∙ marked known t named tops (place + (n + size known i)) depth (more_below place (place + (n + size known i)) tops (omega arith) b)))
  where
    ns : List ℕ
    ns = names nat_eq known k i

    n : ℕ
    n = length ns

    deep : ℕ
    deep = deeper (begins named k) depth

    inside : Tops
    inside = bind_all deep place ns tops

    first : List ℕ
    first = walk known (is_lambda k) inside (place + n) deep i

    second : List ℕ
    second = walk known named tops (place + (n + size known i)) depth t

none_below : Below 0 no_tops
none_below = record { by = λ q h y. refl }

-- the flags of a script
pub all_marked : (known : KnownNames ℕ) (t : Told ℕ) → marks (walk known false no_tops 0 0 t) 0 (size known t) ≡ flags nat_eq known t
all_marked known t = marked known t false no_tops 0 0 none_below
