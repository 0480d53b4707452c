-- What is told pruned closes over the same names.
use Rattle.std.proofs.Common.{◌≡◌, ℕ, ◌+◌, suc, Bool, true, false, cond, not, ◌&&◌, nat_eq, Option, None, Some, List, [], ◌∷◌, ◌++◌, length, refl, sym, ap, ap₂, ◌∙◌, arith, append_assoc}
use Rattle.std.proofs.lemmas.List.{length-append}
use Rattle.parse_track.specs.Told.{Region, Arrow, Told, nothing, leaf, inner, KnownNames}
use Rattle.parse_track.specs.RegionNames.{is_lambda}
use Rattle.parse_track.specs.EarlyErrors.{has}
use Rattle.parse_track.specs.ClosedNames.{Bound, names, scopes, begins, reaches, reached, flags, joined, bound_in, bound_by, at_of, bindings, scope_count, kept, closed}
use Rattle.parse_track.specs.Pruned.{is_functional, is_plain, lone, free_uses, pruned}
use Rattle.parse_track.proofs.LoneFunctions.{and_left, and_right, and_no, either_by, none_reaches, plain_begins, plain_apart}
use Rattle.parse_track.proofs.PrunedNames.{arrow_begins, free_names, free_flags, pruned_at, pruned_scopes, pruned_names, pruned_count, pruned_reaches}

-- flags and bindings go side by side
less : (m n : ℕ) → suc m ≡ suc n → m ≡ n
less m n e = omega (arith, e)

kept-append : (fs gs : List Bool) (bs cs : List (Bound ℕ)) → length fs ≡ length bs → kept (fs ++ gs) (bs ++ cs) ≡ kept fs bs ++ kept gs cs
kept-append [] gs [] cs e = refl
kept-append [] gs (b ∷ bs) cs e = absurd (omega (arith, e))
kept-append (f ∷ fs) gs [] cs e = absurd (omega (arith, e))
kept-append (f ∷ fs) gs (b ∷ bs) cs e = ap (λ ds. cond f (b ∷ []) [] ++ ds) (kept-append fs gs bs cs (less _ _ e)) ∙ sym (append_assoc (cond f (b ∷ []) []) (kept fs bs) (kept gs cs))

module _ (known : KnownNames ℕ) where
  abbrev told_closed : Bool → Option ℕ → ℕ → Told ℕ → List (Bound ℕ)
  told_closed named func scope t = kept (flags nat_eq known t) (bindings nat_eq known named func scope t)

  reached_long : (k : Region ℕ) (i : Told ℕ) (xs : List ℕ) → length (reached nat_eq known k i xs) ≡ length xs
  reached_long k i [] = refl
  reached_long k i (x ∷ xs) = ap suc (reached_long k i xs)

  bound_in_long : (func : Option ℕ) (scope : ℕ) (xs : List ℕ) → length (bound_in func scope xs) ≡ length xs
  bound_in_long func scope [] = refl
  bound_in_long func scope (x ∷ xs) = ap suc (bound_in_long func scope xs)

  bound_by_long : (func : Option ℕ) (scope : ℕ) (xss : List (List ℕ)) → length (bound_by func scope xss) ≡ length (joined xss)
  bound_by_long func scope [] = refl
  bound_by_long func scope (xs ∷ xss) =
      length-append (bound_in func scope xs) (bound_by func (scope + 1) xss)
      ∙ (ap₂ (λ (m n : ℕ). m + n) (bound_in_long func scope xs) (bound_by_long func (scope + 1) xss) ∙ sym (length-append xs (joined xss)))

  region_long : (k : Region ℕ) (i : Told ℕ) (func : Option ℕ) (scope : ℕ) → length (reached nat_eq known k i (names nat_eq known k i)) ≡ length (bound_by func scope (scopes nat_eq known k i))
  region_long k i func scope = reached_long k i (names nat_eq known k i) ∙ sym (bound_by_long func scope (scopes nat_eq known k i))

  both_long : {A B : Type 0} (us vs : List A) (cs ds : List B) → length us ≡ length cs → length vs ≡ length ds → length (us ++ vs) ≡ length (cs ++ ds)
  both_long us vs cs ds e f = length-append us vs ∙ (ap₂ (λ (m n : ℕ). m + n) e f ∙ sym (length-append cs ds))

  flags_long : (named : Bool) (func : Option ℕ) (scope : ℕ) (t : Told ℕ) → length (flags nat_eq known t) ≡ length (bindings nat_eq known named func scope t)
  flags_long named func scope nothing = refl
  flags_long named func scope (leaf l t) = flags_long named func scope t
  flags_long named func scope (inner k at i t) =
      both_long (reached nat_eq known k i (names nat_eq known k i)) (flags nat_eq known i ++ flags nat_eq known t) _ _
      (region_long k i _ _)
      (both_long (flags nat_eq known i) (flags nat_eq known t) _ _ (flags_long (is_lambda k) _ _ i) (flags_long named func _ t))

  -- a region, what is in it, and what is after it
  abbrev region_closed : Option ℕ → ℕ → Region ℕ → Told ℕ → List (Bound ℕ)
  region_closed func scope k i = kept (reached nat_eq known k i (names nat_eq known k i)) (bound_by func scope (scopes nat_eq known k i))

  abbrev own_func : Bool → ℕ → Option ℕ → Option ℕ
  own_func b start func = cond b (Some start) func

  abbrev behind_in : Bool → ℕ → Region ℕ → Told ℕ → ℕ
  behind_in b scope k i = scope + cond b 0 (length (scopes nat_eq known k i) + scope_count nat_eq known (is_lambda k) i)

  closed_split : (named : Bool) (func : Option ℕ) (scope : ℕ) (k : Region ℕ) (at : ℕ) (i t : Told ℕ)
      → told_closed named func scope (inner k at i t)
      ≡ region_closed (own_func (begins named k) (at_of k at i) func) (cond (begins named k) 0 scope) k i
      ++ (told_closed (is_lambda k) (own_func (begins named k) (at_of k at i) func) (cond (begins named k) 0 scope + length (scopes nat_eq known k i)) i ++ told_closed named func (behind_in (begins named k) scope k i) t)
  closed_split named func scope k at i t =
      kept-append (reached nat_eq known k i (names nat_eq known k i)) (flags nat_eq known i ++ flags nat_eq known t) _ _ (region_long k i _ _)
      ∙ ap (λ bs. region_closed (own_func (begins named k) (at_of k at i) func) (cond (begins named k) 0 scope) k i ++ bs)
      (kept-append (flags nat_eq known i) (flags nat_eq known t) _ _ (flags_long (is_lambda k) _ _ i))

  -- where no function begins in a region, none of its names is closed over
  none_reached : (k : Region ℕ) (i : Told ℕ) (xs : List ℕ) (bs : List (Bound ℕ)) → lone i ≡ true → kept (reached nat_eq known k i xs) bs ≡ []
  none_reached k i [] bs e = refl
  none_reached k i (x ∷ xs) [] e = refl
  none_reached k i (x ∷ xs) (b ∷ bs) e =
      ap (λ (f : Bool). cond (not (has nat_eq x xs) && f) (b ∷ []) [] ++ kept (reached nat_eq known k i xs) bs) (none_reaches known i (is_lambda k) x e)
      ∙ (ap (λ (f : Bool). cond f (b ∷ []) [] ++ kept (reached nat_eq known k i xs) bs) (and_no (not (has nat_eq x xs))) ∙ none_reached k i xs bs e)

  lone_closed : (t : Told ℕ) (named : Bool) (func : Option ℕ) (scope : ℕ) → lone t ≡ true → told_closed named func scope t ≡ []
  lone_closed nothing named func scope e = refl
  lone_closed (leaf l t) named func scope e = lone_closed t named func scope e
  lone_closed (inner k at i t) named func scope e =
      let rest = and_right (not (is_functional k)) (lone i && lone t) e in
      closed_split named func scope k at i t
      ∙ (ap (λ bs. bs ++ (told_closed (is_lambda k) (own_func (begins named k) (at_of k at i) func) (cond (begins named k) 0 scope + length (scopes nat_eq known k i)) i ++ told_closed named func (behind_in (begins named k) scope k i) t))
      (none_reached k i (names nat_eq known k i) _ (and_left (lone i) (lone t) rest))
      ∙ (ap (λ bs. bs ++ told_closed named func (behind_in (begins named k) scope k i) t)
      (lone_closed i (is_lambda k) _ _ (and_left (lone i) (lone t) rest))
      ∙ lone_closed t named func _ (and_right (lone i) (lone t) rest)))

  -- a function in which none begins is left out
  left_out : (named : Bool) (func : Option ℕ) (scope : ℕ) (k : Region ℕ) (at : ℕ) (i t : Told ℕ) → is_plain named k ≡ true → lone i ≡ true
      → told_closed named func scope (inner k at i t) ≡ told_closed named func (scope + 0) t
  left_out named func scope k at i t p l =
      closed_split named func scope k at i t
      ∙ (ap (λ bs. bs ++ (told_closed (is_lambda k) (own_func (begins named k) (at_of k at i) func) (cond (begins named k) 0 scope + length (scopes nat_eq known k i)) i ++ told_closed named func (behind_in (begins named k) scope k i) t))
      (none_reached k i (names nat_eq known k i) _ l)
      ∙ (ap (λ bs. bs ++ told_closed named func (behind_in (begins named k) scope k i) t) (lone_closed i (is_lambda k) _ _ l)
      ∙ ap (λ (b : Bool). told_closed named func (behind_in b scope k i) t) (plain_begins named k p)))

  -- the arrow in its place closes over nothing
  arrow_closed : (named : Bool) (func : Option ℕ) (scope : ℕ) (at : ℕ) (bound : List ℕ) (i t : Told ℕ) → not named ≡ true
      → told_closed named func scope (inner Arrow at (free_uses known bound i nothing) t) ≡ told_closed named func (scope + 0) t
  arrow_closed named func scope at bound i t p =
      closed_split named func scope Arrow at u t
      ∙ (ap (λ (xs : List ℕ). kept (reached nat_eq known Arrow u xs) (bound_by own from (scopes nat_eq known Arrow u)) ++ (told_closed false own (from + length (scopes nat_eq known Arrow u)) u ++ told_closed named func (behind_in (begins {A = ℕ} named Arrow) scope Arrow u) t))
      (free_names known i bound)
      ∙ (ap (λ (fs : List Bool). kept fs (bindings nat_eq known false own (from + length (scopes nat_eq known Arrow u)) u) ++ told_closed named func (behind_in (begins {A = ℕ} named Arrow) scope Arrow u) t) (free_flags known i bound nothing)
      ∙ ap (λ (b : Bool). told_closed named func (behind_in b scope Arrow u) t) (arrow_begins named p)))
    where
      u : Told ℕ
      u = free_uses known bound i nothing

      own : Option ℕ
      own = own_func (begins {A = ℕ} named Arrow) at func

      from : ℕ
      from = cond (begins {A = ℕ} named Arrow) 0 scope

  reached_same : (k : Region ℕ) (i : Told ℕ) (xs : List ℕ) → reached nat_eq known k (pruned known (is_lambda k) i) xs ≡ reached nat_eq known k i xs
  reached_same k i [] = refl
  reached_same k i (x ∷ xs) =
      ap (λ (b : Bool). (not (has nat_eq x xs) && b) ∷ reached nat_eq known k (pruned known (is_lambda k) i) xs) (pruned_reaches known i (is_lambda k) false x)
      ∙ ap (λ (bs : List Bool). (not (has nat_eq x xs) && reaches nat_eq known (is_lambda k) false x i) ∷ bs) (reached_same k i xs)

  region_same : (func : Option ℕ) (scope : ℕ) (k : Region ℕ) (i : Told ℕ) → region_closed func scope k (pruned known (is_lambda k) i) ≡ region_closed func scope k i
  region_same func scope k i =
      ap (λ (xs : List ℕ). kept (reached nat_eq known k (pruned known (is_lambda k) i) xs) (bound_by func scope (scopes nat_eq known k (pruned known (is_lambda k) i)))) (pruned_names known (is_lambda k) i k)
      ∙ (ap (λ (xss : List (List ℕ)). kept (reached nat_eq known k (pruned known (is_lambda k) i) (names nat_eq known k i)) (bound_by func scope xss)) (pruned_scopes known (is_lambda k) i k)
      ∙ ap (λ (fs : List Bool). kept fs (bound_by func scope (scopes nat_eq known k i))) (reached_same k i (names nat_eq known k i)))

  module _ (named : Bool) (func : Option ℕ) (scope : ℕ) (k : Region ℕ) (at : ℕ) (i t : Told ℕ) where
    abbrev u : Told ℕ
    u = free_uses known (names nat_eq known k i) i nothing

    abbrev j : Told ℕ
    j = pruned known (is_lambda k) i

    abbrev own : Option ℕ
    own = own_func (begins named k) (at_of k at i) func

    abbrev from : ℕ
    from = cond (begins named k) 0 scope

    told_there : told_closed (is_lambda k) own (from + length (scopes nat_eq known k i)) j ≡ told_closed (is_lambda k) own (from + length (scopes nat_eq known k i)) i
        → ((next : ℕ) → told_closed named func next (pruned known named t) ≡ told_closed named func next t)
        → told_closed named func scope (pruned known named (inner k at i t)) ≡ told_closed named func scope (inner k at i t)
    told_there f g =
        either_by (told_closed named func scope) (is_plain named k && lone i) (inner Arrow at u (pruned known named t)) (inner k at j (pruned known named t)) (told_closed named func scope (inner k at i t))
        (λ e.
        let p = and_left (is_plain named k) (lone i) e in
        arrow_closed named func scope at (names nat_eq known k i) i (pruned known named t) (plain_apart named k p)
        ∙ (g (scope + 0)
        ∙ sym (left_out named func scope k at i t p (and_right (is_plain named k) (lone i) e))))
        (λ e.
        closed_split named func scope k at j (pruned known named t)
        ∙ (ap (λ (n : ℕ). region_closed (own_func (begins named k) n func) from k j ++ (told_closed (is_lambda k) (own_func (begins named k) n func) (from + length (scopes nat_eq known k j)) j ++ told_closed named func (behind_in (begins named k) scope k j) (pruned known named t)))
        (pruned_at known k at i (is_lambda k))
        ∙ (ap (λ bs. bs ++ (told_closed (is_lambda k) own (from + length (scopes nat_eq known k j)) j ++ told_closed named func (behind_in (begins named k) scope k j) (pruned known named t))) (region_same own from k i)
        ∙ (ap (λ (xss : List (List ℕ)). region_closed own from k i ++ (told_closed (is_lambda k) own (from + length xss) j ++ told_closed named func (scope + cond (begins named k) 0 (length xss + scope_count nat_eq known (is_lambda k) j)) (pruned known named t))) (pruned_scopes known (is_lambda k) i k)
        ∙ (ap (λ (n : ℕ). region_closed own from k i ++ (told_closed (is_lambda k) own (from + length (scopes nat_eq known k i)) j ++ told_closed named func (scope + cond (begins named k) 0 (length (scopes nat_eq known k i) + n)) (pruned known named t))) (pruned_count known i (is_lambda k))
        ∙ (ap (λ bs. region_closed own from k i ++ (bs ++ told_closed named func (behind_in (begins named k) scope k i) (pruned known named t))) f
        ∙ (ap (λ bs. region_closed own from k i ++ (told_closed (is_lambda k) own (from + length (scopes nat_eq known k i)) i ++ bs)) (g (behind_in (begins named k) scope k i))
        ∙ sym (closed_split named func scope k at i t))))))))

  pub pruned_told : (t : Told ℕ) (named : Bool) (func : Option ℕ) (scope : ℕ) → told_closed named func scope (pruned known named t) ≡ told_closed named func scope t
  pruned_told nothing named func scope = refl
  pruned_told (leaf l t) named func scope = pruned_told t named func scope
  pruned_told (inner k at i t) named func scope =
      told_there named func scope k at i t
      (pruned_told i (is_lambda k) (own_func (begins named k) (at_of k at i) func) (cond (begins named k) 0 scope + length (scopes nat_eq known k i)))
      (λ next. pruned_told t named func next)

pub pruned_closed : (known : KnownNames ℕ) (t : Told ℕ) → closed nat_eq known (pruned known false t) ≡ closed nat_eq known t
pruned_closed known t = pruned_told known t false None 0
