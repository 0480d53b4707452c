-- A walk over a function in which no function begins hits what its free uses hit.
use Rattle.std.proofs.Common.{◌≡◌, ℕ, ◌+◌, Bool, true, false, cond, not, ◌||◌, ◌&&◌, nat_eq, nat_lt, Option, None, Some, List, [], ◌∷◌, ◌++◌, length, refl, sym, ap, ◌∙◌, arith, append-nil, append_assoc, add-zero}
use Rattle.std.proofs.lemmas.Bool.{eqb-true, eq-eqb}
use Rattle.parse_track.specs.declared.closed.Top.{Top}
use Rattle.parse_track.specs.Told.{Region, Arrow, Declared, Used, Jumped, Told, nothing, leaf, inner, KnownNames}
use Rattle.parse_track.specs.RegionNames.{is_lambda}
use Rattle.parse_track.specs.EarlyErrors.{has}
use Rattle.parse_track.specs.ClosedNames.{Bound, names, scopes, begins, bound_by, bindings, scope_count}
use Rattle.parse_track.specs.Walk.{Tops, put, bind_all, hit, deeper, size, walk}
use Rattle.parse_track.specs.Visited.{Stand, Visits}
use Rattle.parse_track.specs.Pruned.{is_functional, is_plain, is_hit, lone, quiet, free_uses, pruned}
use Rattle.parse_track.proofs.Walk.{false_is_true, or_left, or_right, has-append, not_less}
use Rattle.parse_track.proofs.Visiting.{bind_other}
use Rattle.parse_track.proofs.LoneFunctions.{and_left, and_right, either_same, not_is, none_begins, plain_begins, plain_apart, pruned_lone}
use Rattle.parse_track.proofs.PrunedNames.{arrow_begins, free_scopes, free_names, free_bindings}

-- a use hits nothing in its own function
own_hit : (place depth : ℕ) → hit (Some (record { place = place; depth = depth })) depth ≡ []
own_hit place depth = ap (λ (b : Bool). cond b (place ∷ []) []) (not_less depth depth (omega arith))

put_hitless : (x y place depth : ℕ) (T : Tops) (b : Bool) → hit (T y) depth ≡ [] → hit (cond b (Some (record { place = place; depth = depth })) (T y)) depth ≡ []
put_hitless x y place depth T true e = own_hit place depth
put_hitless x y place depth T false e = e

bind_hitless : (xs : List ℕ) (y place depth : ℕ) (T : Tops) → hit (T y) depth ≡ [] → hit (bind_all depth place xs T y) depth ≡ []
bind_hitless [] y place depth T e = e
bind_hitless (x ∷ xs) y place depth T e =
    bind_hitless xs y (place + 1) depth (put T x (record { place = place; depth = depth })) (put_hitless x y place depth T (nat_eq x y) e)

put_own : (x y place depth : ℕ) (T : Tops) → nat_eq y x ≡ true → hit (put T x (record { place = place; depth = depth }) y) depth ≡ []
put_own x y place depth T e =
    ap (λ (b : Bool). hit (cond b (Some (record { place = place; depth = depth })) (T y)) depth) (eq-eqb x y (sym (eqb-true y x e))) ∙ own_hit place depth

first_or_later : (x : ℕ) (xs : List ℕ) (y place depth : ℕ) (T : Tops) (b : Bool) → nat_eq y x ≡ b → (b || has nat_eq y xs) ≡ true
    → (has nat_eq y xs ≡ true → hit (bind_all depth (place + 1) xs (put T x (record { place = place; depth = depth })) y) depth ≡ [])
    → hit (bind_all depth (place + 1) xs (put T x (record { place = place; depth = depth })) y) depth ≡ []
first_or_later x xs y place depth T true f e later = bind_hitless xs y (place + 1) depth (put T x (record { place = place; depth = depth })) (put_own x y place depth T f)
first_or_later x xs y place depth T false f e later = later e

bind_own : (xs : List ℕ) (y place depth : ℕ) (T : Tops) → has nat_eq y xs ≡ true → hit (bind_all depth place xs T y) depth ≡ []
bind_own [] y place depth T e = absurd (false_is_true e)
bind_own (x ∷ xs) y place depth T e =
    first_or_later x xs y place depth T (nat_eq y x) refl e (λ g. bind_own xs y (place + 1) depth (put T x (record { place = place; depth = depth })) g)

-- what is bound in a function hits nothing, and what is not is bound as it is outside
pub record Covers (bound : List ℕ) (depth : ℕ) (tops outside : Tops) : Type 0 where
  pub own : (y : ℕ) → has nat_eq y bound ≡ true → hit (tops y) depth ≡ []
  pub other : (y : ℕ) → has nat_eq y bound ≡ false → tops y ≡ outside y

covers_more : (xs bound : List ℕ) (place depth : ℕ) (T S : Tops) → Covers bound depth T S → Covers (xs ++ bound) depth (bind_all depth place xs T) S
covers_more xs bound place depth T S c = record {
  own = λ y e. pick y (has nat_eq y xs) refl (sym (has-append y xs bound) ∙ e);
  other = λ y e. bind_other xs depth place y T (or_left (has nat_eq y xs) (has nat_eq y bound) (sym (has-append y xs bound) ∙ e))
      ∙ c.other y (or_right (has nat_eq y xs) (has nat_eq y bound) (sym (has-append y xs bound) ∙ e));
}
  where
    pick : (y : ℕ) (b : Bool) → has nat_eq y xs ≡ b → (has nat_eq y xs || has nat_eq y bound) ≡ true → hit (bind_all depth place xs T y) depth ≡ []
    pick y true f e = bind_own xs y place depth T f
    pick y false f e = bind_hitless xs y place depth T (c.own y (sym (ap (λ (b : Bool). b || has nat_eq y bound) f) ∙ e))

pub covers_own : (xs : List ℕ) (place depth : ℕ) (T : Tops) → Covers xs depth (bind_all depth place xs T) T
covers_own xs place depth T = record {
  own = λ y e. bind_own xs y place depth T e;
  other = λ y e. bind_other xs depth place y T e;
}

-- the walk over the free uses, and over what comes after them
walk_use : (known : KnownNames ℕ) (named' : Bool) (S : Tops) (place' depth y : ℕ) (b : Bool) (T : Tops) (ws rest : List ℕ) (t' : Told ℕ)
    → (b ≡ true → hit (T y) depth ≡ []) → (b ≡ false → T y ≡ S y)
    → walk known named' S place' depth t' ≡ ws ++ rest
    → walk known named' S place' depth (cond b t' (leaf (Used y) t')) ≡ (hit (T y) depth ++ ws) ++ rest
walk_use known named' S place' depth y true T ws rest t' e f g = g ∙ ap (λ (hs : List ℕ). (hs ++ ws) ++ rest) (sym (e refl))
walk_use known named' S place' depth y false T ws rest t' e f g =
    ap (λ (hs : List ℕ). hit (S y) depth ++ hs) g ∙ (ap (λ (o : Option Top). hit o depth ++ (ws ++ rest)) (sym (f refl)) ∙ sym (append_assoc (hit (T y) depth) ws rest))

pub walk_free : (known : KnownNames ℕ) (t : Told ℕ) (named named' : Bool) (T S : Tops) (place place' depth : ℕ) (bound : List ℕ) (rest : Told ℕ) → lone t ≡ true → Covers bound depth T S
    → walk known named' S place' depth (free_uses known bound t rest) ≡ walk known named T place depth t ++ walk known named' S place' depth rest
walk_free known nothing named named' T S place place' depth bound rest e c = refl
walk_free known (leaf (Declared _ _) t) named named' T S place place' depth bound rest e c = walk_free known t named named' T S place place' depth bound rest e c
walk_free known (leaf (Jumped _ _ _) t) named named' T S place place' depth bound rest e c = walk_free known t named named' T S place place' depth bound rest e c
walk_free known (leaf (Used y) t) named named' T S place place' depth bound rest e c =
    walk_use known named' S place' depth y (has nat_eq y bound) T (walk known named T place depth t) (walk known named' S place' depth rest) (free_uses known bound t rest)
    (c.own y) (c.other y) (walk_free known t named named' T S place place' depth bound rest e c)
walk_free known (inner k at i t) named named' T S place place' depth bound rest e c =
    let here = and_left (not (is_functional k)) (lone i && lone t) e in
    let more = and_right (not (is_functional k)) (lone i && lone t) e in
    let next : ℕ = place + (length (names nat_eq known k i) + size known i) in
    walk_free known i (is_lambda k) named' (bind_all depth place (names nat_eq known k i) T) S (place + length (names nat_eq known k i)) place' depth (names nat_eq known k i ++ bound) (free_uses known bound t rest) (and_left (lone i) (lone t) more)
    (covers_more (names nat_eq known k i) bound place depth T S c)
    ∙ (ap (λ (ws : List ℕ). walk known (is_lambda k) (bind_all depth place (names nat_eq known k i) T) (place + length (names nat_eq known k i)) depth i ++ ws)
    (walk_free known t named named' T S next place' depth bound rest (and_right (lone i) (lone t) more) c)
    ∙ (sym (append_assoc (walk known (is_lambda k) (bind_all depth place (names nat_eq known k i) T) (place + length (names nat_eq known k i)) depth i) (walk known named T next depth t) (walk known named' S place' depth rest))
    ∙ ap (λ (b : Bool). (walk known (is_lambda k) (bind_all (deeper b depth) place (names nat_eq known k i) T) (place + length (names nat_eq known k i)) (deeper b depth) i ++ walk known named T next depth t) ++ walk known named' S place' depth rest)
    (sym (none_begins named k here))))

-- where no use finds a binding of a function further out, nothing is hit
hit_none : (o : Option Top) (depth : ℕ) → not (is_hit o depth) ≡ true → hit o depth ≡ []
hit_none None depth e = refl
hit_none (Some top) depth e = ap (λ (b : Bool). cond b (top.place ∷ []) []) (not_is (nat_lt top.depth depth) e)

pub walk_quiet : (known : KnownNames ℕ) (t : Told ℕ) (named' : Bool) (S : Tops) (place' depth : ℕ) (bound : List ℕ) (rest : Told ℕ) → quiet S depth t ≡ true
    → walk known named' S place' depth (free_uses known bound t rest) ≡ walk known named' S place' depth rest
walk_quiet known nothing named' S place' depth bound rest e = refl
walk_quiet known (leaf (Declared _ _) t) named' S place' depth bound rest e = walk_quiet known t named' S place' depth bound rest e
walk_quiet known (leaf (Jumped _ _ _) t) named' S place' depth bound rest e = walk_quiet known t named' S place' depth bound rest e
walk_quiet known (leaf (Used y) t) named' S place' depth bound rest e =
    either_same (walk known named' S place' depth) (has nat_eq y bound) (free_uses known bound t rest) (leaf (Used y) (free_uses known bound t rest)) (walk known named' S place' depth rest)
    (walk_quiet known t named' S place' depth bound rest (and_right (not (is_hit (S y) depth)) (quiet S depth t) e))
    (ap (λ (hs : List ℕ). hs ++ walk known named' S place' depth (free_uses known bound t rest)) (hit_none (S y) depth (and_left (not (is_hit (S y) depth)) (quiet S depth t) e))
    ∙ walk_quiet known t named' S place' depth bound rest (and_right (not (is_hit (S y) depth)) (quiet S depth t) e))
walk_quiet known (inner k at i t) named' S place' depth bound rest e =
    let more = and_right (not (is_functional k)) (quiet S depth i && quiet S depth t) e in
    walk_quiet known i named' S place' depth (names nat_eq known k i ++ bound) (free_uses known bound t rest) (and_left (quiet S depth i) (quiet S depth t) more)
    ∙ walk_quiet known t named' S place' depth bound rest (and_right (quiet S depth i) (quiet S depth t) more)

-- The visit of such a function, whose bindings are given back.
module _ (known : KnownNames ℕ) (named : Bool) (func : Option ℕ) (depth : ℕ) (k : Region ℕ) (at : ℕ) (i : Told ℕ) (plain : is_plain named k ≡ true) (alone : lone i ≡ true) where
  abbrev u : Told ℕ
  u = free_uses known (names nat_eq known k i) i nothing

  begun : begins {A = ℕ} named Arrow ≡ true
  begun = arrow_begins named (plain_apart named k plain)

  -- it stands there as an arrow with its free uses
  arrow_there : pruned known named (inner k at i nothing) ≡ inner Arrow at u nothing
  arrow_there =
      ap (λ (b : Bool). cond (b && lone i) (inner Arrow at u nothing) (inner k at (pruned known (is_lambda k) i) nothing)) plain
      ∙ ap (λ (b : Bool). cond b (inner Arrow at u nothing) (inner k at (pruned known (is_lambda k) i) nothing)) alone

  arrow_binds : (scope : ℕ) → bindings nat_eq known named func scope (inner Arrow at u nothing) ≡ []
  arrow_binds scope =
      ap (λ (xss : List (List ℕ)). bound_by own from xss ++ (bindings nat_eq known false own (from + length (scopes nat_eq known Arrow u)) u ++ [])) (free_scopes known i (names nat_eq known k i))
      ∙ ap (λ (bs : List (Bound ℕ)). bs ++ []) (free_bindings false own (from + length (scopes nat_eq known Arrow u)) known i (names nat_eq known k i) nothing)
    where
      own : Option ℕ
      own = cond (begins {A = ℕ} named Arrow) (Some at) func

      from : ℕ
      from = cond (begins {A = ℕ} named Arrow) 0 scope

  arrow_walks : (tops : Tops) (place : ℕ) → walk known named tops place depth (inner Arrow at u nothing) ≡ walk known false tops (place + length (names nat_eq known Arrow u)) (depth + 1) u
  arrow_walks tops place =
      append-nil (walk known false (bind_all (deeper (begins {A = ℕ} named Arrow) depth) place (names nat_eq known Arrow u) tops) (place + length (names nat_eq known Arrow u)) (deeper (begins {A = ℕ} named Arrow) depth) u)
      ∙ (ap (λ (b : Bool). walk known false (bind_all (deeper b depth) place (names nat_eq known Arrow u) tops) (place + length (names nat_eq known Arrow u)) (deeper b depth) u) begun
      ∙ ap (λ (xs : List ℕ). walk known false (bind_all (depth + 1) place xs tops) (place + length (names nat_eq known Arrow u)) (depth + 1) u) (free_names known i (names nat_eq known k i)))

  arrow_scopes : (scope : ℕ) → scope + scope_count nat_eq known named (inner Arrow at u nothing) ≡ scope
  arrow_scopes scope =
      ap (λ (b : Bool). scope + (cond b 0 (length (scopes nat_eq known Arrow u) + scope_count nat_eq known false u) + 0)) begun ∙ add-zero scope

  inner_walks : (tops : Tops) (place : ℕ)
      → walk known named tops place depth (inner k at (pruned known (is_lambda k) i) nothing)
      ≡ walk known (is_lambda k) (bind_all (depth + 1) place (names nat_eq known k i) tops) (place + length (names nat_eq known k i)) (depth + 1) i
  inner_walks tops place =
      ap (λ (t : Told ℕ). walk known named tops place depth (inner k at t nothing)) (pruned_lone known i (is_lambda k) alone)
      ∙ (append-nil (walk known (is_lambda k) (bind_all (deeper (begins named k) depth) place (names nat_eq known k i) tops) (place + length (names nat_eq known k i)) (deeper (begins named k) depth) i)
      ∙ ap (λ (b : Bool). walk known (is_lambda k) (bind_all (deeper b depth) place (names nat_eq known k i) tops) (place + length (names nat_eq known k i)) (deeper b depth) i) (plain_begins named k plain))

  inner_scopes : (scope next : ℕ) → next ≡ scope + scope_count nat_eq known named (inner k at (pruned known (is_lambda k) i) nothing) → next ≡ scope
  inner_scopes scope next e =
      e ∙ (ap (λ (b : Bool). scope + (cond b 0 (length (scopes nat_eq known k (pruned known (is_lambda k) i)) + scope_count nat_eq known (is_lambda k) (pruned known (is_lambda k) i)) + 0)) (plain_begins named k plain) ∙ add-zero scope)

  same_walks : (tops : Tops) (place : ℕ) → walk known named tops place depth (inner k at (pruned known (is_lambda k) i) nothing) ≡ walk known named tops place depth (inner Arrow at u nothing)
  same_walks tops place =
      inner_walks tops place
      ∙ (sym (append-nil (walk known (is_lambda k) (bind_all (depth + 1) place (names nat_eq known k i) tops) (place + length (names nat_eq known k i)) (depth + 1) i))
      ∙ (sym (walk_free known i (is_lambda k) false (bind_all (depth + 1) place (names nat_eq known k i) tops) tops (place + length (names nat_eq known k i)) (place + length (names nat_eq known Arrow u)) (depth + 1) (names nat_eq known k i) nothing alone
      (covers_own (names nat_eq known k i) place (depth + 1) tops))
      ∙ sym (arrow_walks tops place)))

  pub given_back : (before behind now : Stand) → Visits known named func depth before behind (inner k at (pruned known (is_lambda k) i) nothing)
      → now.bound ≡ before.bound → now.hits ≡ behind.hits → ((y : ℕ) → now.tops y ≡ behind.tops y) → now.scope ≡ behind.scope
      → Visits known named func depth before now (pruned known named (inner k at i nothing))
  given_back before behind now v e f g h = record {
    binds = e ∙ (sym (append-nil before.bound) ∙ (ap (λ (bs : List (Bound ℕ)). before.bound ++ bs) (sym (arrow_binds before.scope)) ∙ ap (λ (t : Told ℕ). before.bound ++ bindings nat_eq known named func before.scope t) (sym arrow_there)));
    hits = f ∙ (v.hits ∙ (ap (λ (ws : List ℕ). before.hits ++ ws) (same_walks before.tops (length before.bound)) ∙ ap (λ (t : Told ℕ). before.hits ++ walk known named before.tops (length before.bound) depth t) (sym arrow_there)));
    same = λ y. g y ∙ v.same y;
    next = h ∙ (inner_scopes before.scope behind.scope v.next ∙ (sym (arrow_scopes before.scope) ∙ ap (λ (t : Told ℕ). before.scope + scope_count nat_eq known named t) (sym arrow_there)));
  }

  pub passed_over : (before : Stand) → quiet before.tops (depth + 1) i ≡ true → Visits known named func depth before before (pruned known named (inner k at i nothing))
  passed_over before q = record {
    binds = sym (append-nil before.bound) ∙ (ap (λ (bs : List (Bound ℕ)). before.bound ++ bs) (sym (arrow_binds before.scope)) ∙ ap (λ (t : Told ℕ). before.bound ++ bindings nat_eq known named func before.scope t) (sym arrow_there));
    hits = sym (append-nil before.hits)
        ∙ (ap (λ (ws : List ℕ). before.hits ++ ws) (sym (arrow_walks before.tops (length before.bound) ∙ walk_quiet known i false before.tops (length before.bound + length (names nat_eq known Arrow u)) (depth + 1) (names nat_eq known k i) nothing q))
        ∙ ap (λ (t : Told ℕ). before.hits ++ walk known named before.tops (length before.bound) depth t) (sym arrow_there));
    same = λ y. refl;
    next = sym (arrow_scopes before.scope) ∙ ap (λ (t : Told ℕ). before.scope + scope_count nat_eq known named t) (sym arrow_there);
  }

-- where it is none of these functions, it stands there as it is, with what it tells pruned
pub stays_there : (known : KnownNames ℕ) (named : Bool) (k : Region ℕ) (at : ℕ) (i t : Told ℕ) → (is_plain named k && lone i) ≡ false
    → pruned known named (inner k at i t) ≡ inner k at (pruned known (is_lambda k) i) (pruned known named t)
stays_there known named k at i t e =
    ap (λ (b : Bool). cond b (inner Arrow at (free_uses known (names nat_eq known k i) i nothing) (pruned known named t)) (inner k at (pruned known (is_lambda k) i) (pruned known named t))) e
