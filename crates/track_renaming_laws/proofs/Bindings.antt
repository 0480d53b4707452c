-- The bindings of what is told, with its names renamed.
use Rattle.std.proofs.Common.{◌≡◌, ℕ, ◌+◌, Bool, true, false, cond, Option, Some, List, [], ◌∷◌, ◌++◌, map, length, refl, ap, ◌∙◌}
use Rattle.std.proofs.lemmas.List.{length-map}
use Rattle.parse_track.specs.Told.{Region, Function, Arrow, Lambda, Told, nothing, leaf, inner, KnownNames}
use Rattle.parse_track.specs.RegionNames.{is_lambda}
use Rattle.parse_track.specs.ClosedNames.{Bound, scopes, begins, bound_in, bound_by, scope_count, at_of, bindings}
use Rattle.track_renaming_laws.specs.Renaming.{renamed_region, rewritten, renamed_known, renamed_bound, same_by}
use Rattle.track_renaming_laws.specs.Starts.{KeepsStarts}
use Rattle.track_renaming_laws.proofs.Lists.{append_both}
use Rattle.track_renaming_laws.proofs.Names.{is_lambda-renamed}
use Rattle.track_renaming_laws.proofs.Scopes.{scopes-renamed}
use Rattle.track_renaming_laws.proofs.Reached.{begins-renamed}

bound_in-renamed : {A B : Type 0} (f : A → B) (func : Option ℕ) (scope : ℕ) (xs : List A) → bound_in func scope (map f xs) ≡ map (renamed_bound f) (bound_in func scope xs)
bound_in-renamed f func scope [] = refl
bound_in-renamed f func scope (x ∷ xs) = ap (λ bs. record { func = func; scope = scope; name = f x } ∷ bs) (bound_in-renamed f func scope xs)

bound_by-renamed : {A B : Type 0} (f : A → B) (func : Option ℕ) (scope : ℕ) (xss : List (List A)) → bound_by func scope (map (map f) xss) ≡ map (renamed_bound f) (bound_by func scope xss)
bound_by-renamed f func scope [] = refl
bound_by-renamed f func scope (xs ∷ xss) =
    append_both (renamed_bound f) (bound_in func scope xs) (bound_by func (scope + 1) xss) (bound_in func scope (map f xs)) (bound_by func (scope + 1) (map (map f) xss))
    (bound_in-renamed f func scope xs) (bound_by-renamed f func (scope + 1) xss)

-- how many scopes
scopes_long : {A B : Type 0} (f : A → B) (place : Region A → ℕ → ℕ) (same : B → B → Bool) (known : KnownNames A) (k : Region A) (i : Told A)
    → length (scopes same (renamed_known f known) (renamed_region f k) (rewritten f place i)) ≡ length (scopes (same_by f same) known k i)
scopes_long f place same known k i = ap length (scopes-renamed f place same known k i) ∙ length-map (scopes (same_by f same) known k i) (map f)

counted : (b b' : Bool) (n n' m m' : ℕ) → b' ≡ b → n' ≡ n → m' ≡ m → cond b' 0 (n' + m') ≡ cond b 0 (n + m)
counted b b' n n' m m' e f h = ap (λ c. cond c 0 (n' + m')) e ∙ (ap (λ x. cond b 0 (x + m')) f ∙ ap (λ x. cond b 0 (n + x)) h)

sum_of : (n n' m m' : ℕ) → n' ≡ n → m' ≡ m → n' + m' ≡ n + m
sum_of n n' m m' e f = ap (λ x. x + m') e ∙ ap (λ x. n + x) f

scope_count-renamed : {A B : Type 0} (f : A → B) (place : Region A → ℕ → ℕ) (same : B → B → Bool) (known : KnownNames A) (named : Bool) (t : Told A)
    → scope_count same (renamed_known f known) named (rewritten f place t) ≡ scope_count (same_by f same) known named t
scope_count-renamed f place same known named nothing = refl
scope_count-renamed f place same known named (leaf l t) = scope_count-renamed f place same known named t
scope_count-renamed {A} {B} f place same known named (inner k at i t) =
    sum_of (cond (begins named k) 0 (length (scopes (same_by f same) known k i) + scope_count (same_by f same) known (is_lambda k) i))
    (cond (begins named (renamed_region f k)) 0 (length (scopes same known' (renamed_region f k) (rewritten f place i)) + scope_count same known' (is_lambda (renamed_region f k)) (rewritten f place i)))
    (scope_count (same_by f same) known named t) (scope_count same known' named (rewritten f place t))
    (counted (begins named k) (begins named (renamed_region f k))
    (length (scopes (same_by f same) known k i)) (length (scopes same known' (renamed_region f k) (rewritten f place i)))
    (scope_count (same_by f same) known (is_lambda k) i) (scope_count same known' (is_lambda (renamed_region f k)) (rewritten f place i))
    (begins-renamed f named k) (scopes_long f place same known k i)
    (ap (λ b. scope_count same known' b (rewritten f place i)) (is_lambda-renamed f k) ∙ scope_count-renamed f place same known (is_lambda k) i))
    (scope_count-renamed f place same known named t)
  where
    known' : KnownNames B
    known' = renamed_known f known

-- where a function begins
begins_also : {A : Type 0} (named : Bool) (k : Region A) → begins named k ≡ true → begins false k ≡ true
begins_also named (Lambda _) e = refl
begins_also named Function e = refl
begins_also named Arrow e = refl
begins_also named _ e = e

own_start : (b b' : Bool) (at at' : ℕ) (func : Option ℕ) → b' ≡ b → (b ≡ true → at' ≡ at) → cond b' (Some at') func ≡ cond b (Some at) func
own_start true b' at at' func e h = ap (λ c. cond c (Some at') func) e ∙ ap Some (h refl)
own_start false b' at at' func e h = ap (λ c. cond c (Some at') func) e

bound_as : {A B : Type 0} (f : A → B) (func func' : Option ℕ) (scope scope' : ℕ) (xss : List (List A)) (uss : List (List B)) → func' ≡ func → scope' ≡ scope → uss ≡ map (map f) xss
    → bound_by func' scope' uss ≡ map (renamed_bound f) (bound_by func scope xss)
bound_as f func func' scope scope' xss uss e h g =
    ap (λ o. bound_by o scope' uss) e ∙ (ap (λ n. bound_by func n uss) h ∙ (ap (bound_by func scope) g ∙ bound_by-renamed f func scope xss))

bindings_as : {B : Type 0} (same : B → B → Bool) (known : KnownNames B) (named named' : Bool) (func func' : Option ℕ) (scope scope' : ℕ) (u : Told B) (bs : List (Bound B))
    → named' ≡ named → func' ≡ func → scope' ≡ scope → bindings same known named func scope u ≡ bs → bindings same known named' func' scope' u ≡ bs
bindings_as same known named named' func func' scope scope' u bs e h g r =
    ap (λ b. bindings same known b func' scope' u) e ∙ (ap (λ o. bindings same known named o scope' u) h ∙ (ap (λ n. bindings same known named func n u) g ∙ r))

pub bindings-renamed : {A B : Type 0} (f : A → B) (place : Region A → ℕ → ℕ) (same : B → B → Bool) (known : KnownNames A) (named : Bool) (func : Option ℕ) (scope : ℕ) (t : Told A)
    → KeepsStarts f place t
    → bindings same (renamed_known f known) named func scope (rewritten f place t) ≡ map (renamed_bound f) (bindings (same_by f same) known named func scope t)
bindings-renamed f place same known named func scope nothing h = refl
bindings-renamed f place same known named func scope (leaf l t) h = bindings-renamed f place same known named func scope t h
bindings-renamed {A} {B} f place same known named func scope (inner k at i t) h =
    append_both (renamed_bound f) (bound_by own from (scopes (same_by f same) known k i))
    (bindings (same_by f same) known (is_lambda k) own (from + length (scopes (same_by f same) known k i)) i ++ bindings (same_by f same) known named func behind t)
    (bound_by own' from' (scopes same known' (renamed_region f k) (rewritten f place i)))
    (bindings same known' (is_lambda (renamed_region f k)) own' (from' + length (scopes same known' (renamed_region f k) (rewritten f place i))) (rewritten f place i)
    ++ bindings same known' named func behind' (rewritten f place t))
    (bound_as f own own' from from' (scopes (same_by f same) known k i) (scopes same known' (renamed_region f k) (rewritten f place i)) same_own same_from (scopes-renamed f place same known k i))
    (append_both (renamed_bound f)
    (bindings (same_by f same) known (is_lambda k) own (from + length (scopes (same_by f same) known k i)) i) (bindings (same_by f same) known named func behind t)
    (bindings same known' (is_lambda (renamed_region f k)) own' (from' + length (scopes same known' (renamed_region f k) (rewritten f place i))) (rewritten f place i))
    (bindings same known' named func behind' (rewritten f place t))
    (bindings_as same known' (is_lambda k) (is_lambda (renamed_region f k)) own own'
    (from + length (scopes (same_by f same) known k i)) (from' + length (scopes same known' (renamed_region f k) (rewritten f place i))) (rewritten f place i)
    (map (renamed_bound f) (bindings (same_by f same) known (is_lambda k) own (from + length (scopes (same_by f same) known k i)) i))
    (is_lambda-renamed f k) same_own
    (sum_of from from' (length (scopes (same_by f same) known k i)) (length (scopes same known' (renamed_region f k) (rewritten f place i))) same_from (scopes_long f place same known k i))
    (bindings-renamed f place same known (is_lambda k) own (from + length (scopes (same_by f same) known k i)) i h.1.0))
    (ap (λ n. bindings same known' named func n (rewritten f place t)) same_behind ∙ bindings-renamed f place same known named func behind t h.1.1))
  where
    known' : KnownNames B
    known' = renamed_known f known

    own : Option ℕ
    own = cond (begins named k) (Some (at_of k at i)) func

    own' : Option ℕ
    own' = cond (begins named (renamed_region f k)) (Some (at_of (renamed_region f k) (place k at) (rewritten f place i))) func

    same_own : own' ≡ own
    same_own =
        own_start (begins named k) (begins named (renamed_region f k)) (at_of k at i) (at_of (renamed_region f k) (place k at) (rewritten f place i)) func
        (begins-renamed f named k) (λ e. h.0 (begins_also named k e))

    from : ℕ
    from = cond (begins named k) 0 scope

    from' : ℕ
    from' = cond (begins named (renamed_region f k)) 0 scope

    same_from : from' ≡ from
    same_from = ap (λ b. cond b 0 scope) (begins-renamed f named k)

    behind : ℕ
    behind = scope + cond (begins named k) 0 (length (scopes (same_by f same) known k i) + scope_count (same_by f same) known (is_lambda k) i)

    behind' : ℕ
    behind' = scope + cond (begins named (renamed_region f k)) 0
        (length (scopes same known' (renamed_region f k) (rewritten f place i)) + scope_count same known' (is_lambda (renamed_region f k)) (rewritten f place i))

    same_behind : behind' ≡ behind
    same_behind =
        ap (λ n. scope + n)
        (counted (begins named k) (begins named (renamed_region f k))
        (length (scopes (same_by f same) known k i)) (length (scopes same known' (renamed_region f k) (rewritten f place i)))
        (scope_count (same_by f same) known (is_lambda k) i) (scope_count same known' (is_lambda (renamed_region f k)) (rewritten f place i))
        (begins-renamed f named k) (scopes_long f place same known k i)
        (ap (λ b. scope_count same known' b (rewritten f place i)) (is_lambda-renamed f k) ∙ scope_count-renamed f place same known (is_lambda k) i))
