-- A visit of items one by one, and of a region with its names, is the walk over what they tell.
use Rattle.std.proofs.Common.{◌≡◌, ℕ, suc, ◌+◌, ◌-◌, Bool, true, false, cond, ◌&&◌, nat_eq, Option, None, Some, List, [], ◌∷◌, ◌++◌, length, map, take, drop, slice_get, refl, sym, ap, subst, ◌∙◌, arith, append-nil, append_assoc, length-append, add-zero, add_assoc}
use Rattle.std.proofs.Math.Seq.{take-append_seam, drop-append_seam}
use Rattle.std.proofs.lemmas.List.{length-map, map-append, take-map, drop-map}
use Rattle.std.proofs.lemmas.Bool.{eqb-true, eq-eqb}
use Rattle.parse_track.specs.declared.region.ClosedAt.{ClosedAt}
use Rattle.parse_track.specs.declared.closed.Top.{Top}
use Rattle.parse_track.specs.declared.track.Item as row
use Rattle.parse_track.specs.Told.{Region, Script, Function, Arrow, Lambda, Block, Switch, ForHead, Catch, Loop, Label, VarBody, Leaf, Declared, Used, Jumped, Told, nothing, leaf, inner, KnownNames}
use Rattle.parse_track.specs.RegionNames.{is_lambda}
use Rattle.parse_track.specs.EarlyErrors.{has}
use Rattle.parse_track.specs.ClosedNames.{scopes, names, joined, begins, first_at, at_of, Bound, bound_in, bound_by, bindings, scope_count}
use Rattle.parse_track.specs.Log as log
use Rattle.parse_track.specs.Log.{Part, Item, kind_of, told_items, told_region}
use Rattle.parse_track.specs.declared.track.RegionRow.{RegionRow}
use Rattle.parse_track.specs.Rows.{item_of, row_of, items_at}
use Rattle.parse_track.specs.Scopes.{bound_of, bounds_of}
use Rattle.parse_track.specs.Shadows.{atoms_bound}
use Rattle.parse_track.specs.Walk.{Tops, put, bind_all, hit, deeper, size, walk}
use Rattle.parse_track.specs.Visited.{Stand, Visits}
use Rattle.parse_track.specs.Pruned.{is_plain, lone, free_uses, pruned}
use Rattle.parse_track.proofs.Items.{region_tells}
use Rattle.parse_track.proofs.Walk.{false_is_true, or_left, or_right}
use Rattle.parse_track.proofs.Binding.{walk_same}

-- where a function begins that begins at the region of its name
lambda_at : (k : Region ℕ) (at : ℕ) (i : Told ℕ) → is_lambda k ≡ true → at_of k at i ≡ first_at at i
lambda_at (Lambda _) at i e = refl
lambda_at Script at i e = absurd (false_is_true e)
lambda_at Function at i e = absurd (false_is_true e)
lambda_at Arrow at i e = absurd (false_is_true e)
lambda_at Block at i e = absurd (false_is_true e)
lambda_at Switch at i e = absurd (false_is_true e)
lambda_at ForHead at i e = absurd (false_is_true e)
lambda_at Catch at i e = absurd (false_is_true e)
lambda_at Loop at i e = absurd (false_is_true e)
lambda_at (Label _) at i e = absurd (false_is_true e)
lambda_at VarBody at i e = absurd (false_is_true e)

pub function_at_is : (k : Region ℕ) (at off : ℕ) (parts : List Part) (room n : ℕ) (items : List row.Item) → is_lambda k ≡ true → at ≡ off → map item_of items ≡ items_at room parts n
    → first_at at (told_items parts (told_region (room - 1) parts) (map item_of items)) ≡ at_of k off (told_region room parts n)
function_at_is k at off parts room n items e f g =
    ap (λ (x : ℕ). first_at x (told_items parts (told_region (room - 1) parts) (map item_of items))) f
    ∙ (ap (λ (is : List Item). first_at off (told_items parts (told_region (room - 1) parts) is)) g
    ∙ (ap (first_at off) (sym (region_tells room parts n)) ∙ sym (lambda_at k off (told_region room parts n) e)))

-- how many bindings there are
length-bound_in : (func : Option ℕ) (scope : ℕ) (xs : List ℕ) → length (bound_in func scope xs) ≡ length xs
length-bound_in func scope [] = refl
length-bound_in func scope (x ∷ xs) = ap suc (length-bound_in func scope xs)

length-bound_by : (func : Option ℕ) (scope : ℕ) (xss : List (List ℕ)) → length (bound_by func scope xss) ≡ length (joined xss)
length-bound_by func scope [] = refl
length-bound_by func scope (xs ∷ xss) =
    length-append (bound_in func scope xs) (bound_by func (scope + 1) xss)
    ∙ (ap (λ (n : ℕ). n + length (bound_by func (scope + 1) xss)) (length-bound_in func scope xs)
    ∙ (ap (λ (n : ℕ). length xs + n) (length-bound_by func (scope + 1) xss) ∙ sym (length-append xs (joined xss))))

pub length-bindings : (known : KnownNames ℕ) (t : Told ℕ) (named : Bool) (func : Option ℕ) (scope : ℕ) → length (bindings nat_eq known named func scope t) ≡ size known t
length-bindings known nothing named func scope = refl
length-bindings known (leaf l t) named func scope = length-bindings known t named func scope
length-bindings known (inner k at i t) named func scope =
    length-append (bound_by own from (scopes nat_eq known k i)) (bindings nat_eq known (is_lambda k) own (from + length (scopes nat_eq known k i)) i ++ bindings nat_eq known named func next t)
    ∙ (ap (λ (n : ℕ). n + length (bindings nat_eq known (is_lambda k) own (from + length (scopes nat_eq known k i)) i ++ bindings nat_eq known named func next t)) (length-bound_by own from (scopes nat_eq known k i))
    ∙ ap (λ (n : ℕ). length (names nat_eq known k i) + n)
    (length-append (bindings nat_eq known (is_lambda k) own (from + length (scopes nat_eq known k i)) i) (bindings nat_eq known named func next t)
    ∙ (ap (λ (n : ℕ). n + length (bindings nat_eq known named func next t)) (length-bindings known i (is_lambda k) own (from + length (scopes nat_eq known k i)))
    ∙ ap (λ (n : ℕ). size known i + n) (length-bindings known t named func next))))
  where
    own : Option ℕ
    own = cond (begins named k) (Some (at_of k at i)) func

    from : ℕ
    from = cond (begins named k) 0 scope

    next : ℕ
    next = scope + cond (begins named k) 0 (length (scopes nat_eq known k i) + scope_count nat_eq known (is_lambda k) i)

-- the names of the bindings of some scopes
names_bound_in : (func : Option ℕ) (scope : ℕ) (xs : List ℕ) → map (λ (b : Bound ℕ). b.name) (bound_in func scope xs) ≡ xs
names_bound_in func scope [] = refl
names_bound_in func scope (x ∷ xs) = ap (λ (ys : List ℕ). x ∷ ys) (names_bound_in func scope xs)

names_bound_by : (func : Option ℕ) (scope : ℕ) (xss : List (List ℕ)) → map (λ (b : Bound ℕ). b.name) (bound_by func scope xss) ≡ joined xss
names_bound_by func scope [] = refl
names_bound_by func scope (xs ∷ xss) =
    map-append (λ (b : Bound ℕ). b.name) (bound_in func scope xs) (bound_by func (scope + 1) xss)
    ∙ (ap (λ (ys : List ℕ). ys ++ map (λ (b : Bound ℕ). b.name) (bound_by func (scope + 1) xss)) (names_bound_in func scope xs)
    ∙ ap (λ (ys : List ℕ). xs ++ ys) (names_bound_by func (scope + 1) xss))

names_of_bounds : (ats : List ClosedAt) → atoms_bound ats ≡ map (λ (b : Bound ℕ). b.name) (bounds_of ats)
names_of_bounds [] = refl
names_of_bounds (at ∷ ats) = ap (λ (xs : List ℕ). at.atom ∷ xs) (names_of_bounds ats)

pub names_opened : (before now : List ClosedAt) (func : Option ℕ) (scope place : ℕ) (xss : List (List ℕ)) → place ≡ length (bounds_of before)
    → bounds_of now ≡ bounds_of before ++ bound_by func scope xss → atoms_bound (drop place now) ≡ joined xss
names_opened before now func scope place xss e f =
    names_of_bounds (drop place now)
    ∙ (ap (map (λ (b : Bound ℕ). b.name))
    (sym (drop-map bound_of place now)
    ∙ (ap (drop place) f ∙ (ap (λ (n : ℕ). drop n (bounds_of before ++ bound_by func scope xss)) e ∙ drop-append_seam (bounds_of before) (bound_by func scope xss))))
    ∙ names_bound_by func scope xss)

-- the bindings that are left after those of a region are given back
pub bounds_left : (before now left : List ClosedAt) (place : ℕ) (more : List (Bound ℕ)) → place ≡ length before → left ≡ take place now → bounds_of now ≡ bounds_of before ++ more
    → bounds_of left ≡ bounds_of before
bounds_left before now left place more e f g =
    ap (map bound_of) f
    ∙ (sym (take-map bound_of place now)
    ∙ (ap (take place) g
    ∙ (ap (λ (n : ℕ). take n (bounds_of before ++ more)) (e ∙ sym (length-map before bound_of)) ∙ take-append_seam (bounds_of before) more)))

-- nothing more to visit
pub visits_none : (known : KnownNames ℕ) (named : Bool) (func : Option ℕ) (depth : ℕ) (a : Stand) → Visits known named func depth a a nothing
visits_none known named func depth a = record {
  binds = sym (append-nil a.bound);
  hits = sym (append-nil a.hits);
  same = λ y. refl;
  next = omega arith;
}

-- an item, and then the others
same_scope : {a b : ℕ} → b ≡ a + 0 → b ≡ a
same_scope e = omega arith

leaf_behind : (known : KnownNames ℕ) (named : Bool) (func : Option ℕ) (depth : ℕ) (a b c : Stand) (t : Told ℕ)
    → Visits known named func depth a b nothing → Visits known named func depth b c t → Visits known named func depth a c t
leaf_behind known named func depth a b c t v w = record {
  binds = w.binds ∙ (ap (λ (s : ℕ). b.bound ++ bindings nat_eq known named func s t) (same_scope v.next) ∙ ap (λ (xs : List (Bound ℕ)). xs ++ bindings nat_eq known named func a.scope t) (v.binds ∙ append-nil a.bound));
  hits = w.hits ∙ (ap (λ (xs : List ℕ). xs ++ walk known named b.tops (length b.bound) depth t) (v.hits ∙ append-nil a.hits)
      ∙ ap (λ (xs : List ℕ). a.hits ++ xs) (walk_same known t named b.tops a.tops (length b.bound) depth v.same ∙ ap (λ (n : ℕ). walk known named a.tops n depth t) (ap length (v.binds ∙ append-nil a.bound))));
  same = λ y. w.same y ∙ v.same y;
  next = w.next ∙ ap (λ (s : ℕ). s + scope_count nat_eq known named t) (same_scope v.next);
}

visits_leaf : (known : KnownNames ℕ) (named : Bool) (func : Option ℕ) (depth : ℕ) (a b c : Stand) (l : Leaf ℕ) (t : Told ℕ)
    → Visits known named func depth a b (leaf l nothing) → Visits known named func depth b c t → Visits known named func depth a c (leaf l t)
visits_leaf known named func depth a b c (Declared _ _) t v w =
    let r = leaf_behind known named func depth a b c t (record { binds = v.binds; hits = v.hits; same = v.same; next = v.next }) w in
    record { binds = r.binds; hits = r.hits; same = r.same; next = r.next }
visits_leaf known named func depth a b c (Jumped _ _ _) t v w =
    let r = leaf_behind known named func depth a b c t (record { binds = v.binds; hits = v.hits; same = v.same; next = v.next }) w in
    record { binds = r.binds; hits = r.hits; same = r.same; next = r.next }
visits_leaf known named func depth a b c (Used x) t v w = record {
  binds = w.binds ∙ (ap (λ (s : ℕ). b.bound ++ bindings nat_eq known named func s t) (same_scope v.next) ∙ ap (λ (xs : List (Bound ℕ)). xs ++ bindings nat_eq known named func a.scope t) (v.binds ∙ append-nil a.bound));
  hits = w.hits ∙ (ap (λ (xs : List ℕ). xs ++ walk known named b.tops (length b.bound) depth t) v.hits
      ∙ (ap (λ (xs : List ℕ). (a.hits ++ (hit (a.tops x) depth ++ [])) ++ xs) (walk_same known t named b.tops a.tops (length b.bound) depth v.same ∙ ap (λ (n : ℕ). walk known named a.tops n depth t) (ap length (v.binds ∙ append-nil a.bound)))
      ∙ (ap (λ (xs : List ℕ). (a.hits ++ xs) ++ walk known named a.tops (length a.bound) depth t) (append-nil (hit (a.tops x) depth))
      ∙ append_assoc a.hits (hit (a.tops x) depth) (walk known named a.tops (length a.bound) depth t))));
  same = λ y. w.same y ∙ v.same y;
  next = w.next ∙ ap (λ (s : ℕ). s + scope_count nat_eq known named t) (same_scope v.next);
}

place_behind : (known : KnownNames ℕ) (named : Bool) (func : Option ℕ) (depth : ℕ) (a b : Stand) (t : Told ℕ) → Visits known named func depth a b t → length b.bound ≡ length a.bound + size known t
place_behind known named func depth a b t v =
    ap length v.binds ∙ (length-append a.bound (bindings nat_eq known named func a.scope t) ∙ ap (λ (n : ℕ). length a.bound + n) (length-bindings known t named func a.scope))

visits_inner_then : (known : KnownNames ℕ) (named : Bool) (func : Option ℕ) (depth : ℕ) (a b c : Stand) (k : Region ℕ) (at : ℕ) (i t : Told ℕ)
    → Visits known named func depth a b (inner k at i nothing) → Visits known named func depth b c t → Visits known named func depth a c (inner k at i t)
visits_inner_then known named func depth a b c k at i t v w =
    let e : b.scope ≡ a.scope + cond (begins named k) 0 (length (scopes nat_eq known k i) + scope_count nat_eq known (is_lambda k) i) = v.next ∙ ap (λ (n : ℕ). a.scope + n) (add-zero (cond (begins named k) 0 (length (scopes nat_eq known k i) + scope_count nat_eq known (is_lambda k) i))) in
    let f : length b.bound ≡ length a.bound + (length (names nat_eq known k i) + size known i) = place_behind known named func depth a b (inner k at i nothing) v ∙ ap (λ (n : ℕ). length a.bound + (length (names nat_eq known k i) + n)) (add-zero (size known i)) in
    record {
      binds = w.binds
          ∙ (ap (λ (s : ℕ). b.bound ++ bindings nat_eq known named func s t) e
          ∙ (ap (λ (xs : List (Bound ℕ)). xs ++ bindings nat_eq known named func next t) (v.binds ∙ ap (λ (xs : List (Bound ℕ)). a.bound ++ (first ++ xs)) (append-nil second))
          ∙ (append_assoc a.bound (first ++ second) (bindings nat_eq known named func next t)
          ∙ ap (λ (xs : List (Bound ℕ)). a.bound ++ xs) (append_assoc first second (bindings nat_eq known named func next t)))));
      hits = w.hits
          ∙ (ap (λ (xs : List ℕ). b.hits ++ xs) (walk_same known t named b.tops a.tops (length b.bound) depth v.same ∙ ap (λ (n : ℕ). walk known named a.tops n depth t) f)
          ∙ (ap (λ (xs : List ℕ). xs ++ walk known named a.tops (length a.bound + (length (names nat_eq known k i) + size known i)) depth t) (v.hits ∙ ap (λ (xs : List ℕ). a.hits ++ xs) (append-nil walked))
          ∙ append_assoc a.hits walked (walk known named a.tops (length a.bound + (length (names nat_eq known k i) + size known i)) depth t)));
      same = λ y. w.same y ∙ v.same y;
      next = w.next ∙ (ap (λ (s : ℕ). s + scope_count nat_eq known named t) e
          ∙ add_assoc a.scope (cond (begins named k) 0 (length (scopes nat_eq known k i) + scope_count nat_eq known (is_lambda k) i)) (scope_count nat_eq known named t));
    }
  where
    own : Option ℕ
    own = cond (begins named k) (Some (at_of k at i)) func

    from : ℕ
    from = cond (begins named k) 0 a.scope

    next : ℕ
    next = a.scope + cond (begins named k) 0 (length (scopes nat_eq known k i) + scope_count nat_eq known (is_lambda k) i)

    first : List (Bound ℕ)
    first = bound_by own from (scopes nat_eq known k i)

    second : List (Bound ℕ)
    second = bindings nat_eq known (is_lambda k) own (from + length (scopes nat_eq known k i)) i

    walked : List ℕ
    walked = walk known (is_lambda k) (bind_all (deeper (begins named k) depth) (length a.bound) (names nat_eq known k i) a.tops) (length a.bound + length (names nat_eq known k i)) (deeper (begins named k) depth) i

pub visits_cons : (known : KnownNames ℕ) (named : Bool) (func : Option ℕ) (depth : ℕ) (a b c : Stand) (parts : List Part) (inside : ℕ → Told ℕ) (x : Item) (xs : List Item)
    → Visits known named func depth a b (pruned known named (told_items parts inside (x ∷ []))) → Visits known named func depth b c (pruned known named (told_items parts inside xs))
    → Visits known named func depth a c (pruned known named (told_items parts inside (x ∷ xs)))
visits_cons known named func depth a b c parts inside (log.Leaf l) xs v w = visits_leaf known named func depth a b c l (pruned known named (told_items parts inside xs)) v w
visits_cons known named func depth a b c parts inside (log.Inner m) xs v w = pick (is_plain named k && lone (inside m)) v where
  k : Region ℕ
  k = kind_of (slice_get parts m)

  at : ℕ
  at = log.at_of (slice_get parts m)

  u : Told ℕ
  u = free_uses known (names nat_eq known k (inside m)) (inside m) nothing

  j : Told ℕ
  j = pruned known (is_lambda k) (inside m)

  t : Told ℕ
  t = pruned known named (told_items parts inside xs)

  pick : (one : Bool) → Visits known named func depth a b (cond one (inner Arrow at u nothing) (inner k at j nothing)) → Visits known named func depth a c (cond one (inner Arrow at u t) (inner k at j t))
  pick true v' = visits_inner_then known named func depth a b c Arrow at u t v' w
  pick false v' = visits_inner_then known named func depth a b c k at j t v' w

-- A region with its names: they are bound, its parts are visited, and they are bound to what they were.
bind_other_at : (x y : ℕ) (T : Tops) (top : Top) (b : Bool) → nat_eq x y ≡ b → nat_eq y x ≡ false → cond b (Some top) (T y) ≡ T y
bind_other_at x y T top true e f = absurd (false_is_true (sym f ∙ eq-eqb y x (sym (eqb-true x y e))))
bind_other_at x y T top false e f = refl

pub bind_other : (xs : List ℕ) (depth place y : ℕ) (T : Tops) → has nat_eq y xs ≡ false → bind_all depth place xs T y ≡ T y
bind_other [] depth place y T e = refl
bind_other (x ∷ xs) depth place y T e =
    bind_other xs depth (place + 1) y (put T x (record { place = place; depth = depth })) (or_right (nat_eq y x) (has nat_eq y xs) e)
    ∙ bind_other_at x y T (record { place = place; depth = depth }) (nat_eq x y) refl (or_left (nat_eq y x) (has nat_eq y xs) e)

-- what the code knows of a region that it has visited
pub record Region-visited (known : KnownNames ℕ) (named : Bool) (func : Option ℕ) (depth : ℕ) (before entered behind now : Stand) (k : Region ℕ) (at : ℕ) (i : Told ℕ) (lambda : Bool) (own : Option ℕ) (deep : ℕ) (from : ℕ) (ns : List ℕ) : Type 0 where
  pub lambda_is : lambda ≡ is_lambda k
  pub own_is : own ≡ cond (begins named k) (Some (at_of k at i)) func
  pub deep_is : deep ≡ deeper (begins named k) depth
  pub from_is : from ≡ cond (begins named k) 0 before.scope
  pub names_are : ns ≡ names nat_eq known k i
  pub bound : entered.bound ≡ before.bound ++ bound_by own from (scopes nat_eq known k i)
  pub hits : entered.hits ≡ before.hits
  pub tops : (y : ℕ) → entered.tops y ≡ bind_all deep (length before.bound) ns before.tops y
  pub scope : entered.scope ≡ from + length (scopes nat_eq known k i)
  pub visits : Visits known lambda own deep entered behind i
  pub now_bound : now.bound ≡ behind.bound
  pub now_hits : now.hits ≡ behind.hits
  pub now_tops : (y : ℕ) → now.tops y ≡ before.tops y
  pub now_scope : now.scope ≡ cond (begins named k) before.scope behind.scope

scope_is : (b : Bool) (s from end n m : ℕ) → from ≡ cond b 0 s → end ≡ (from + n) + m → cond b s end ≡ s + (cond b 0 (n + m) + 0)
scope_is true s from end n m e f = omega arith
scope_is false s from end n m e f = omega arith

pub region_visits : (known : KnownNames ℕ) (named : Bool) (func : Option ℕ) (depth : ℕ) (before entered behind now : Stand) (k : Region ℕ) (at : ℕ) (i : Told ℕ) (lambda : Bool) (own : Option ℕ) (deep from : ℕ) (ns : List ℕ)
    → Region-visited known named func depth before entered behind now k at i lambda own deep from ns → Visits known named func depth before now (inner k at i nothing)
region_visits known named func depth before entered behind now k at i lambda own deep from ns r = record {
  binds = r.now_bound ∙ (r.visits.binds
      ∙ (ap (λ (s : ℕ). entered.bound ++ bindings nat_eq known lambda own s i) r.scope
      ∙ (ap (λ (xs : List (Bound ℕ)). xs ++ bindings nat_eq known lambda own (from + length (scopes nat_eq known k i)) i) r.bound
      ∙ (append_assoc before.bound (bound_by own from (scopes nat_eq known k i)) (bindings nat_eq known lambda own (from + length (scopes nat_eq known k i)) i)
      ∙ (ap (λ (xs : List (Bound ℕ)). before.bound ++ (bound_by own from (scopes nat_eq known k i) ++ xs)) (sym (append-nil (bindings nat_eq known lambda own (from + length (scopes nat_eq known k i)) i)))
      ∙ (ap (λ (b : Bool). before.bound ++ (bound_by own from (scopes nat_eq known k i) ++ (bindings nat_eq known b own (from + length (scopes nat_eq known k i)) i ++ []))) r.lambda_is
      ∙ (ap (λ (o : Option ℕ). before.bound ++ (bound_by o from (scopes nat_eq known k i) ++ (bindings nat_eq known (is_lambda k) o (from + length (scopes nat_eq known k i)) i ++ []))) r.own_is
      ∙ ap (λ (f : ℕ). before.bound ++ (bound_by (cond (begins named k) (Some (at_of k at i)) func) f (scopes nat_eq known k i) ++ (bindings nat_eq known (is_lambda k) (cond (begins named k) (Some (at_of k at i)) func) (f + length (scopes nat_eq known k i)) i ++ []))) r.from_is)))))));
  hits = r.now_hits ∙ (r.visits.hits
      ∙ (ap (λ (xs : List ℕ). xs ++ walk known lambda entered.tops (length entered.bound) deep i) r.hits
      ∙ (ap (λ (xs : List ℕ). before.hits ++ xs)
      (walk_same known i lambda entered.tops (bind_all deep (length before.bound) ns before.tops) (length entered.bound) deep r.tops
      ∙ (ap (λ (n : ℕ). walk known lambda (bind_all deep (length before.bound) ns before.tops) n deep i)
      (ap length r.bound ∙ (length-append before.bound (bound_by own from (scopes nat_eq known k i)) ∙ ap (λ (n : ℕ). length before.bound + n) (length-bound_by own from (scopes nat_eq known k i))))
      ∙ (ap (λ (b : Bool). walk known b (bind_all deep (length before.bound) ns before.tops) (length before.bound + length (names nat_eq known k i)) deep i) r.lambda_is
      ∙ (ap (λ (xs : List ℕ). walk known (is_lambda k) (bind_all deep (length before.bound) xs before.tops) (length before.bound + length (names nat_eq known k i)) deep i) r.names_are
      ∙ ap (λ (d : ℕ). walk known (is_lambda k) (bind_all d (length before.bound) (names nat_eq known k i) before.tops) (length before.bound + length (names nat_eq known k i)) d i) r.deep_is))))
      ∙ ap (λ (xs : List ℕ). before.hits ++ xs) (sym (append-nil (walk known (is_lambda k) (bind_all (deeper (begins named k) depth) (length before.bound) (names nat_eq known k i) before.tops) (length before.bound + length (names nat_eq known k i)) (deeper (begins named k) depth) i))))));
  same = r.now_tops;
  next = r.now_scope ∙ scope_is (begins named k) before.scope from behind.scope (length (scopes nat_eq known k i)) (scope_count nat_eq known (is_lambda k) i) r.from_is
      (r.visits.next ∙ (ap (λ (s : ℕ). s + scope_count nat_eq known lambda i) r.scope ∙ ap (λ (b : Bool). (from + length (scopes nat_eq known k i)) + scope_count nat_eq known b i) r.lambda_is));
}

-- the goals of the visit
pub visit_step : (known : KnownNames ℕ) (named : Bool) (func : Option ℕ) (depth : ℕ) (parts : List Part) (inside : ℕ → Told ℕ) (start now next : Stand) (items : List row.Item) (index : ℕ) (x : row.Item)
    → drop index items ≡ x ∷ drop (index + 1) items
    → ((last : Stand) → Visits known named func depth now last (pruned known named (told_items parts inside (map item_of (drop index items)))) → Visits known named func depth start last (pruned known named (told_items parts inside (map item_of items))))
    → Visits known named func depth now next (pruned known named (told_items parts inside (item_of x ∷ [])))
    → (last : Stand) → Visits known named func depth next last (pruned known named (told_items parts inside (map item_of (drop (index + 1) items)))) → Visits known named func depth start last (pruned known named (told_items parts inside (map item_of items)))
visit_step known named func depth parts inside start now next items index x d inv v last w =
    inv last (subst (λ (xs : List row.Item). Visits known named func depth now last (pruned known named (told_items parts inside (map item_of xs)))) (sym d)
    (visits_cons known named func depth now next last parts inside (item_of x) (map item_of (drop (index + 1) items)) v w))

pub visit_end : (known : KnownNames ℕ) (named : Bool) (func : Option ℕ) (depth : ℕ) (parts : List Part) (room n : ℕ) (start now : Stand) (items left : List row.Item) → left ≡ []
    → ((last : Stand) → Visits known named func depth now last (pruned known named (told_items parts (told_region (room - 1) parts) (map item_of left))) → Visits known named func depth start last (pruned known named (told_items parts (told_region (room - 1) parts) (map item_of items))))
    → map item_of items ≡ items_at room parts n → Visits known named func depth start now (pruned known named (told_region room parts n))
visit_end known named func depth parts room n start now items left e inv f =
    subst (λ (t : Told ℕ). Visits known named func depth start now (pruned known named t)) (sym (region_tells room parts n))
    (subst (λ (is : List Item). Visits known named func depth start now (pruned known named (told_items parts (told_region (room - 1) parts) is))) f
    (inv now (subst (λ (xs : List row.Item). Visits known named func depth now now (pruned known named (told_items parts (told_region (room - 1) parts) (map item_of xs)))) (sym e) (visits_none known named func depth now))))

-- the outermost regions of a script, one by one
outer_then : (known : KnownNames ℕ) (named : Bool) (func : Option ℕ) (depth : ℕ) (a b c : Stand) (parts : List Part) (inside : ℕ → Told ℕ) (n : ℕ) (around : Option ℕ) (xs : List Item)
    → Visits known named func depth a b (pruned known named (told_items parts inside (log.outermost_if n around))) → Visits known named func depth b c (pruned known named (told_items parts inside xs)) → Visits known named func depth a c (pruned known named (told_items parts inside (log.outermost_if n around ++ xs)))
outer_then known named func depth a b c parts inside n None xs v w = visits_cons known named func depth a b c parts inside (log.Inner n) xs v w
outer_then known named func depth a b c parts inside n (Some _) xs v w = leaf_behind known named func depth a b c (pruned known named (told_items parts inside xs)) v w

pub outer_step : (known : KnownNames ℕ) (named : Bool) (func : Option ℕ) (depth : ℕ) (parts : List Part) (inside : ℕ → Told ℕ) (start now next : Stand) (rows : List RegionRow) (index : ℕ) (x : RegionRow)
    → drop index rows ≡ x ∷ drop (index + 1) rows
    → ((last : Stand) → Visits known named func depth now last (pruned known named (told_items parts inside (log.outermost index (map row_of (drop index rows))))) → Visits known named func depth start last (pruned known named (told_items parts inside (log.outermost 0 (map row_of rows)))))
    → Visits known named func depth now next (pruned known named (told_items parts inside (log.outermost_if index x.around)))
    → (last : Stand) → Visits known named func depth next last (pruned known named (told_items parts inside (log.outermost (index + 1) (map row_of (drop (index + 1) rows))))) → Visits known named func depth start last (pruned known named (told_items parts inside (log.outermost 0 (map row_of rows))))
outer_step known named func depth parts inside start now next rows index x d inv v last w =
    inv last (subst (λ (xs : List RegionRow). Visits known named func depth now last (pruned known named (told_items parts inside (log.outermost index (map row_of xs))))) (sym d)
    (outer_then known named func depth now next last parts inside index x.around (log.outermost (index + 1) (map row_of (drop (index + 1) rows))) v w))

pub outer_end : (known : KnownNames ℕ) (rows left : List RegionRow) (start now : Stand) (index : ℕ) → left ≡ []
    → ((last : Stand) → Visits known false None 0 now last (pruned known false (told_items (map row_of rows) (told_region (length rows) (map row_of rows)) (log.outermost index (map row_of left))))
    → Visits known false None 0 start last (pruned known false (told_items (map row_of rows) (told_region (length rows) (map row_of rows)) (log.outermost 0 (map row_of rows)))))
    → Visits known false None 0 start now (pruned known false (log.told_of (map row_of rows)))
outer_end known rows left start now index e inv =
    subst (λ (n : ℕ). Visits known false None 0 start now (pruned known false (told_items (map row_of rows) (told_region n (map row_of rows)) (log.outermost 0 (map row_of rows))))) (sym (length-map rows row_of))
    (inv now (subst (λ (xs : List RegionRow). Visits known false None 0 now now (pruned known false (told_items (map row_of rows) (told_region (length rows) (map row_of rows)) (log.outermost index (map row_of xs))))) (sym e) (visits_none known false None 0 now)))
