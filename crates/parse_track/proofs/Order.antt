-- The regions stay in order when something is told.
use Rattle.std.proofs.Common.{◌≡◌, ℕ, ◌+◌, ◌^◌, ◌<◌, ◌≤◌, zero, suc, List, [], ◌∷◌, ◌++◌, length, slice_get, refl, sym, ap, subst, ◌∙◌, arith, Option, Some, None, IfSome, ◌⊎◌, inl, inr}
use Rattle.std.proofs.Common.{length-append}
use Rattle.parse_track.specs.declared.region.Region.{Region}
use Rattle.parse_track.specs.Told as told
use Rattle.parse_track.specs.Log.{Item, Leaf, Inner, Part, add, tell, around_at, around_of}
use Rattle.parse_track.specs.Rows.{IsInside, AreInside, IsAround, AreInOrder, IsInOrder}

length-add : (item : Item) (n : ℕ) (ps : List Part) → length (add item n ps) ≡ length ps
length-add item n [] = refl
length-add item zero (p ∷ ps) = refl
length-add item (suc n) (p ∷ ps) = ap suc (length-add item n ps)

pub length-tell : (at : Option ℕ) (item : Item) (ps : List Part) → length (tell at item ps) ≡ length ps
length-tell None item ps = refl
length-tell (Some n) item ps = length-add item n ps

inside_more : (n c d : ℕ) (item : Item) → c ≤ d → IsInside n c item → IsInside n d item
inside_more n c d (Leaf _) h i = tt
inside_more n c d (Inner m) h i = (i.0, omega arith)

insides_more : (n c d : ℕ) (items : List Item) → c ≤ d → AreInside n c items → AreInside n d items
insides_more n c d [] h i = tt
insides_more n c d (x ∷ xs) h i = (inside_more n c d x h i.0, insides_more n c d xs h i.1)

insides_snoc : (n c : ℕ) (items : List Item) (x : Item) → AreInside n c items → IsInside n c x → AreInside n c (items ++ x ∷ [])
insides_snoc n c [] x i h = (h, tt)
insides_snoc n c (y ∷ ys) x i h = (i.0, insides_snoc n c ys x i.1 h)

order_more : (n c d : ℕ) (ps : List Part) → c ≤ d → AreInOrder n c ps → AreInOrder n d ps
order_more n c d [] h o = tt
order_more n c d (p ∷ ps) h o = (insides_more n c d p.items h o.0, (o.1.0, order_more (n + 1) c d ps h o.1.1))

order_snoc : (n c : ℕ) (ps : List Part) (p : Part) → AreInOrder n c ps → AreInside (n + length ps) c p.items → IsAround (n + length ps) p.around → AreInOrder n c (ps ++ p ∷ [])
order_snoc n c [] p o i a =
    let e : n + 0 ≡ n = omega arith in
    (subst (λ (k : ℕ). AreInside k c p.items) e i, (subst (λ (k : ℕ). IsAround k p.around) e a, tt))
order_snoc n c (q ∷ qs) p o i a =
    let e : n + suc (length qs) ≡ (n + 1) + length qs = omega arith in
    (o.0, (o.1.0, order_snoc (n + 1) c qs p o.1.1 (subst (λ (k : ℕ). AreInside k c p.items) e i) (subst (λ (k : ℕ). IsAround k p.around) e a)))

order_add : (item : Item) (n c k : ℕ) (ps : List Part) → AreInOrder n c ps → IsInside (n + k) c item → AreInOrder n c (add item k ps)
order_add item n c k [] o i = tt
order_add item n c zero (p ∷ ps) o i =
    let e : n + 0 ≡ n = omega arith in
    (insides_snoc n c p.items item o.0 (subst (λ (m : ℕ). IsInside m c item) e i), (o.1.0, o.1.1))
order_add item n c (suc k) (p ∷ ps) o i =
    let e : n + suc k ≡ (n + 1) + k = omega arith in
    (o.0, (o.1.0, order_add item (n + 1) c k ps o.1.1 (subst (λ (m : ℕ). IsInside m c item) e i)))

-- what holds of an item at the present region
abbrev pub IsInsidePresent : Option ℕ → ℕ → Item → Type 0
IsInsidePresent None c item = Unit {0}
IsInsidePresent (Some n) c item = IsInside n c item

order_tell : (item : Item) (c : ℕ) (at : Option ℕ) (ps : List Part) → AreInOrder 0 c ps → IsInsidePresent at c item → AreInOrder 0 c (tell at item ps)
order_tell item c None ps o i = o
order_tell item c (Some k) ps o i = order_add item 0 c k ps o (subst (λ (m : ℕ). IsInside m c item) (let e : k ≡ 0 + k = omega arith in e) i)

-- a leaf of the present region
leaf_inside : (at : Option ℕ) (c : ℕ) (leaf : told.Leaf ℕ) → IsInsidePresent at c (Leaf leaf)
leaf_inside None c leaf = tt
leaf_inside (Some n) c leaf = tt

present_tell : (at : Option ℕ) (now : Option ℕ) (item : Item) (ps : List Part) → IfSome now (λ n. n < length ps) → IfSome now (λ n. n < length (tell at item ps))
present_tell at now item ps h = subst (λ (c : ℕ). IfSome now (λ n. n < c)) (sym (length-tell at item ps)) h

pub told_in_order : (at : Option ℕ) (item : Item) (ps : List Part) → IsInsidePresent at (length ps) item → IsInOrder ps at → IsInOrder (tell at item ps) at
told_in_order at item ps i h = record {
  order = subst (λ (c : ℕ). AreInOrder 0 c (tell at item ps)) (sym (length-tell at item ps)) (order_tell item (length ps) at ps h.order i);
  inside = present_tell at at item ps h.inside;
  few = subst (λ (c : ℕ). c ≤ 2 ^ 31) (sym (length-tell at item ps)) h.few;
}

pub leaf_in_order : (at : Option ℕ) (leaf : told.Leaf ℕ) (ps qs : List Part) → (qs ≡ tell at (Leaf leaf) ps) ⊎ (qs ≡ ps) → IsInOrder ps at → IsInOrder qs at
leaf_in_order at leaf ps qs e h = elim e [
  | inl f ↦ subst (λ (x : List Part). IsInOrder x at) (sym f) (told_in_order at (Leaf leaf) ps (leaf_inside at (length ps) leaf) h)
  | inr f ↦ subst (λ (x : List Part). IsInOrder x at) (sym f) h
]

-- so is an item that is a leaf
pub item_in_order : (at : Option ℕ) (item : Item) (leaf : told.Leaf ℕ) (ps qs : List Part) → item ≡ Leaf leaf → (qs ≡ tell at item ps) ⊎ (qs ≡ ps)
    → IsInOrder ps at → IsInOrder qs at
item_in_order at item leaf ps qs i e h = leaf_in_order at leaf ps qs (subst (λ (x : Item). (qs ≡ tell at x ps) ⊎ (qs ≡ ps)) i e) h

around_below : (n c k : ℕ) (ps : List Part) → AreInOrder n c ps → k < length ps → IsAround (n + k) (around_of (slice_get ps k))
around_below n c k [] o h = absurd (omega arith)
around_below n c zero (p ∷ ps) o h = subst (λ (m : ℕ). IsAround m p.around) (let e : n ≡ n + 0 = omega arith in e) o.1.0
around_below n c (suc k) (p ∷ ps) o h =
    subst (λ (m : ℕ). IsAround m (around_of (slice_get ps k))) (let e : (n + 1) + k ≡ n + suc k = omega arith in e)
    (around_below (n + 1) c k ps o.1.1 (let l : k < length ps = omega arith in l))

around_in : (k c : ℕ) (o : Option ℕ) → IsAround (0 + k) o → k < c → IfSome o (λ n. n < c)
around_in k c None a h = tt
around_in k c (Some m) a h = omega arith

pub around_in_order : (at : Option ℕ) (ps : List Part) → IsInOrder ps at → IsInOrder ps (around_at at ps)
around_in_order None ps h = record { order = h.order; inside = tt; few = h.few }
around_in_order (Some n) ps h = record {
  order = h.order;
  inside = around_in n (length ps) (around_of (slice_get ps n)) (around_below 0 (length ps) n ps h.order h.inside) h.inside;
  few = h.few;
}

-- Entering a region: its part first joins the others, then its number joins the present region.
around_present : (at : Option ℕ) (ps : List Part) → IfSome at (λ n. n < length ps) → IsAround (0 + length ps) at
around_present None ps h = tt
around_present (Some n) ps h = omega arith

inside_present : (at : Option ℕ) (ps : List Part) (p : Part) → IfSome at (λ n. n < length ps) → IsInsidePresent at (length (ps ++ p ∷ [])) (Inner (length ps))
inside_present None ps p h = tt
inside_present (Some n) ps p h = (h, omega (arith, length-append ps (p ∷ [])))

still_present : (at : Option ℕ) (ps : List Part) (p : Part) → IfSome at (λ n. n < length ps) → IfSome at (λ n. n < length (ps ++ p ∷ []))
still_present None ps p h = tt
still_present (Some n) ps p h = omega (arith, length-append ps (p ∷ []))

pub part_in_order : (kind : Region) (off : ℕ) (at : Option ℕ) (ps : List Part) → length ps < 2 ^ 31 → IsInOrder ps at
    → IsInOrder (ps ++ record { kind = kind; at = off; around = at; items = [] } ∷ []) at
part_in_order kind off at ps f h =
    let p : Part = record { kind = kind; at = off; around = at; items = [] } in
    let l : length (ps ++ p ∷ []) ≡ length ps + 1 = length-append ps (p ∷ []) in
    record {
      order = order_snoc 0 (length (ps ++ p ∷ [])) ps p (order_more 0 (length ps) (length (ps ++ p ∷ [])) ps (omega arith) h.order) tt (around_present at ps h.inside);
      inside = still_present at ps p h.inside;
      few = omega arith;
    }

pub inner_in_order : (kind : Region) (off : ℕ) (at : Option ℕ) (ps qs : List Part) → length ps < 2 ^ 31 → IsInOrder ps at
    → (qs ≡ tell at (Inner (length ps)) (ps ++ record { kind = kind; at = off; around = at; items = [] } ∷ [])) ⊎ (qs ≡ ps ++ record { kind = kind; at = off; around = at; items = [] } ∷ [])
    → IsInOrder qs at
inner_in_order kind off at ps qs f h e =
    let p : Part = record { kind = kind; at = off; around = at; items = [] } in
    elim e [
      | inl g ↦ subst (λ (x : List Part). IsInOrder x at) (sym g) (told_in_order at (Inner (length ps)) (ps ++ p ∷ []) (inside_present at ps p h.inside) (part_in_order kind off at ps f h))
      | inr g ↦ subst (λ (x : List Part). IsInOrder x at) (sym g) (part_in_order kind off at ps f h)
    ]

pub entered_in_order : (kind : Region) (off : ℕ) (at : Option ℕ) (ps qs : List Part) → length ps < 2 ^ 31 → IsInOrder ps at
    → qs ≡ tell at (Inner (length ps)) (ps ++ record { kind = kind; at = off; around = at; items = [] } ∷ [])
    → IsInOrder qs (Some (length ps))
entered_in_order kind off at ps qs f h e =
    let p : Part = record { kind = kind; at = off; around = at; items = [] } in
    let o : IsInOrder qs at = inner_in_order kind off at ps qs f h (inl e) in
    let l : length (ps ++ p ∷ []) ≡ length ps + 1 = length-append ps (p ∷ []) in
    let m : length qs ≡ length (ps ++ p ∷ []) = ap length e ∙ length-tell at (Inner (length ps)) (ps ++ p ∷ []) in
    record { order = o.order; inside = omega arith; few = o.few }

add_append : (item : Item) (n : ℕ) (ps : List Part) (p : Part) → n < length ps → add item n (ps ++ p ∷ []) ≡ add item n ps ++ p ∷ []
add_append item n [] p h = absurd (omega arith)
add_append item zero (q ∷ qs) p h = refl
add_append item (suc n) (q ∷ qs) p h = ap (λ (x : List Part). q ∷ x) (add_append item n qs p (let l : n < length qs = omega arith in l))

pub tell_append : (item : Item) (at : Option ℕ) (ps : List Part) (p : Part) → IfSome at (λ n. n < length ps) → tell at item (ps ++ p ∷ []) ≡ tell at item ps ++ p ∷ []
tell_append item None ps p h = refl
tell_append item (Some n) ps p h = add_append item n ps p h
