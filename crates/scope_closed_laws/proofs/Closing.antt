-- The closed names of what is told, by the function that binds them.
use Rattle.std.proofs.Common.{◌≡◌, ℕ, ◌+◌, Bool, true, false, cond, bytes_eq, Option, None, Some, List, [], ◌∷◌, ◌++◌, map, length, filter, refl, sym, ap, ap₂, ◌∙◌, suc, arith, append_assoc}
use Rattle.std.proofs.lemmas.List.{map-append, length-append}
use Rattle.std.proofs.lemmas.List.Elements.{filter-append}
use Rattle.stencil_data.specs.Named.{NamedClosed}
use Rattle.parse_track.specs.Told.{Region, Told, nothing, leaf, inner}
use Rattle.parse_track.specs.RegionNames.{is_lambda}
use Rattle.parse_track.specs.ClosedNames.{Bound, begins, reached, flags, joined, bound_in, bound_by, at_of, bindings, kept}
use Rattle.parse_track.specs.Tells.{Text, known_texts}
use Rattle.scope_closed_laws.specs.Handed.{placed_name}
use Rattle.scope_closed_laws.proofs.Own.{scopes_in, names_in, count_in, picked_in, own, starts}

abbrev pub told_closed : Bool → Option ℕ → ℕ → Told Text → List (Bound Text)
told_closed named func scope t = kept (flags bytes_eq known_texts t) (bindings bytes_eq known_texts named func scope t)

-- those of the functions that pass a test
abbrev pub picked : (Option ℕ → Bool) → List (Bound Text) → List NamedClosed
picked passes bs = map placed_name (filter (λ (b : Bound Text). passes b.func) bs)

pub picked-append : (passes : Option ℕ → Bool) (bs cs : List (Bound Text)) → picked passes (bs ++ cs) ≡ picked passes bs ++ picked passes cs
picked-append passes bs cs =
    ap (map placed_name) (filter-append (λ (b : Bound Text). passes b.func) bs cs)
    ∙ map-append placed_name (filter (λ (b : Bound Text). passes b.func) bs) (filter (λ (b : Bound Text). passes b.func) cs)

-- ---- flags and bindings go side by side

less : (m n : ℕ) → suc m ≡ suc n → m ≡ n
less m n e = omega (arith, e)

kept-append : {B : Type 0} (fs gs : List Bool) (bs cs : List B) → length fs ≡ length bs → kept (fs ++ gs) (bs ++ cs) ≡ kept fs bs ++ kept gs cs
kept-append [] gs [] cs e = refl
kept-append [] gs (b ∷ bs) cs e = absurd (omega (arith, e))
kept-append (f ∷ fs) gs [] cs e = absurd (omega (arith, e))
kept-append (f ∷ fs) gs (b ∷ bs) cs e = ap (λ ds. cond f (b ∷ []) [] ++ ds) (kept-append fs gs bs cs (less _ _ e)) ∙ sym (append_assoc (cond f (b ∷ []) []) (kept fs bs) (kept gs cs))

reached_long : (k : Region Text) (i : Told Text) (xs : List Text) → length (reached bytes_eq known_texts k i xs) ≡ length xs
reached_long k i [] = refl
reached_long k i (x ∷ xs) = ap suc (reached_long k i xs)

bound_in_long : (func : Option ℕ) (scope : ℕ) (xs : List Text) → length (bound_in func scope xs) ≡ length xs
bound_in_long func scope [] = refl
bound_in_long func scope (x ∷ xs) = ap suc (bound_in_long func scope xs)

bound_by_long : (func : Option ℕ) (scope : ℕ) (xss : List (List Text)) → length (bound_by func scope xss) ≡ length (joined xss)
bound_by_long func scope [] = refl
bound_by_long func scope (xs ∷ xss) =
    length-append (bound_in func scope xs) (bound_by func (scope + 1) xss)
    ∙ (ap₂ (λ (m n : ℕ). m + n) (bound_in_long func scope xs) (bound_by_long func (scope + 1) xss) ∙ sym (length-append xs (joined xss)))

region_long : (k : Region Text) (i : Told Text) (func : Option ℕ) (scope : ℕ) → length (reached bytes_eq known_texts k i (names_in k i)) ≡ length (bound_by func scope (scopes_in k i))
region_long k i func scope = reached_long k i (names_in k i) ∙ sym (bound_by_long func scope (scopes_in k i))

both_long : {A B : Type 0} (us vs : List A) (cs ds : List B) → length us ≡ length cs → length vs ≡ length ds → length (us ++ vs) ≡ length (cs ++ ds)
both_long us vs cs ds e f = length-append us vs ∙ (ap₂ (λ (m n : ℕ). m + n) e f ∙ sym (length-append cs ds))

flags_long : (named : Bool) (func : Option ℕ) (scope : ℕ) (t : Told Text) → length (flags bytes_eq known_texts t) ≡ length (bindings bytes_eq known_texts named func scope t)
flags_long named func scope nothing = refl
flags_long named func scope (leaf l t) = flags_long named func scope t
flags_long named func scope (inner k at i t) =
    both_long (reached bytes_eq known_texts k i (names_in k i)) (flags bytes_eq known_texts i ++ flags bytes_eq known_texts t) _ _
    (region_long k i _ _)
    (both_long (flags bytes_eq known_texts i) (flags bytes_eq known_texts t) _ _ (flags_long (is_lambda k) _ _ i) (flags_long named func _ t))

-- a region, what is in it, and what is after it
abbrev pub region_closed : Option ℕ → ℕ → Region Text → Told Text → List (Bound Text)
region_closed func scope k i = kept (reached bytes_eq known_texts k i (names_in k i)) (bound_by func scope (scopes_in k i))

abbrev pub own_func : Bool → ℕ → Option ℕ → Option ℕ
own_func b start func = cond b (Some start) func

abbrev pub behind_in : Bool → ℕ → Region Text → Told Text → ℕ
behind_in b scope k i = scope + cond b 0 (length (scopes_in k i) + count_in (is_lambda k) i)

pub closed_split : (named : Bool) (func : Option ℕ) (scope : ℕ) (k : Region Text) (at : ℕ) (i t : Told Text)
    → told_closed named func scope (inner k at i t)
    ≡ region_closed (own_func (begins named k) (at_of k at i) func) (cond (begins named k) 0 scope) k i
    ++ (told_closed (is_lambda k) (own_func (begins named k) (at_of k at i) func) (cond (begins named k) 0 scope + length (scopes_in k i)) i ++ told_closed named func (behind_in (begins named k) scope k i) t)
closed_split named func scope k at i t =
    kept-append (reached bytes_eq known_texts k i (names_in k i)) (flags bytes_eq known_texts i ++ flags bytes_eq known_texts t) _ _ (region_long k i _ _)
    ∙ ap (λ bs. region_closed (own_func (begins named k) (at_of k at i) func) (cond (begins named k) 0 scope) k i ++ bs)
    (kept-append (flags bytes_eq known_texts i) (flags bytes_eq known_texts t) _ _ (flags_long (is_lambda k) _ _ i))

-- ---- the bindings of one region are of one function

abbrev with_func : Option ℕ → Bound Text → Bound Text
with_func func b = record { func = func; scope = b.scope; name = b.name }

bound_in_of : (func : Option ℕ) (scope : ℕ) (xs : List Text) → bound_in func scope xs ≡ map (with_func func) (bound_in None scope xs)
bound_in_of func scope [] = refl
bound_in_of func scope (x ∷ xs) = ap (λ bs. record { func = func; scope = scope; name = x } ∷ bs) (bound_in_of func scope xs)

bound_by_of : (func : Option ℕ) (scope : ℕ) (xss : List (List Text)) → bound_by func scope xss ≡ map (with_func func) (bound_by None scope xss)
bound_by_of func scope [] = refl
bound_by_of func scope (xs ∷ xss) =
    ap₂ (λ bs cs. bs ++ cs) (bound_in_of func scope xs) (bound_by_of func (scope + 1) xss) ∙ sym (map-append (with_func func) (bound_in None scope xs) (bound_by None (scope + 1) xss))

kept_map : (g : Bound Text → Bound Text) (fs : List Bool) (bs : List (Bound Text)) → kept fs (map g bs) ≡ map g (kept fs bs)
kept_map g [] bs = refl
kept_map g (f ∷ fs) [] = refl
kept_map g (true ∷ fs) (b ∷ bs) = ap (λ cs. g b ∷ cs) (kept_map g fs bs)
kept_map g (false ∷ fs) (b ∷ bs) = kept_map g fs bs

one_func : (passes : Option ℕ → Bool) (func : Option ℕ) (bs : List (Bound Text)) → passes func ≡ true → picked passes (map (with_func func) bs) ≡ map placed_name bs
one_func passes func [] e = refl
one_func passes func (b ∷ bs) e =
    ap (λ (c : Bool). map placed_name (cond c (with_func func b ∷ filter (λ (d : Bound Text). passes d.func) (map (with_func func) bs)) (filter (λ (d : Bound Text). passes d.func) (map (with_func func) bs)))) e
    ∙ ap (λ cs. placed_name b ∷ cs) (one_func passes func bs e)

other_func : (passes : Option ℕ → Bool) (func : Option ℕ) (bs : List (Bound Text)) → passes func ≡ false → picked passes (map (with_func func) bs) ≡ []
other_func passes func [] e = refl
other_func passes func (b ∷ bs) e =
    ap (λ (c : Bool). map placed_name (cond c (with_func func b ∷ filter (λ (d : Bound Text). passes d.func) (map (with_func func) bs)) (filter (λ (d : Bound Text). passes d.func) (map (with_func func) bs)))) e
    ∙ other_func passes func bs e

region_of_func : (func : Option ℕ) (scope : ℕ) (k : Region Text) (i : Told Text) → region_closed func scope k i ≡ map (with_func func) (region_closed None scope k i)
region_of_func func scope k i = ap (kept (reached bytes_eq known_texts k i (names_in k i))) (bound_by_of func scope (scopes_in k i)) ∙ kept_map (with_func func) (reached bytes_eq known_texts k i (names_in k i)) (bound_by None scope (scopes_in k i))

pub region_picked : (passes : Option ℕ → Bool) (func : Option ℕ) (scope : ℕ) (k : Region Text) (i : Told Text) → passes func ≡ true → picked passes (region_closed func scope k i) ≡ picked_in scope k i
region_picked passes func scope k i e = ap (picked passes) (region_of_func func scope k i) ∙ one_func passes func (region_closed None scope k i) e

pub region_none : (passes : Option ℕ → Bool) (func : Option ℕ) (scope : ℕ) (k : Region Text) (i : Told Text) → passes func ≡ false → picked passes (region_closed func scope k i) ≡ []
region_none passes func scope k i e = ap (picked passes) (region_of_func func scope k i) ∙ other_func passes func (region_closed None scope k i) e

-- ---- functions that do not pass

abbrev pub Avoids : (Option ℕ → Bool) → List ℕ → Type 0
Avoids passes [] = Unit {0}
Avoids passes (n ∷ ns) = (passes (Some n) ≡ false) × Avoids passes ns

avoids_left : (passes : Option ℕ → Bool) (ms ns : List ℕ) → Avoids passes (ms ++ ns) → Avoids passes ms
avoids_left passes [] ns a = tt
avoids_left passes (m ∷ ms) ns a = (a.0, avoids_left passes ms ns a.1)

avoids_right : (passes : Option ℕ → Bool) (ms ns : List ℕ) → Avoids passes (ms ++ ns) → Avoids passes ns
avoids_right passes [] ns a = a
avoids_right passes (m ∷ ms) ns a = avoids_right passes ms ns a.1

avoids_func : (passes : Option ℕ → Bool) (b : Bool) (n : ℕ) (ns : List ℕ) (func : Option ℕ) → Avoids passes (cond b (n ∷ []) [] ++ ns) → passes func ≡ false → passes (own_func b n func) ≡ false
avoids_func passes true n ns func a e = a.0
avoids_func passes false n ns func a e = e

pub three_picked : (passes : Option ℕ → Bool) (ds bs cs : List (Bound Text)) (x y z : List NamedClosed) → picked passes ds ≡ x → picked passes bs ≡ y → picked passes cs ≡ z → picked passes (ds ++ (bs ++ cs)) ≡ x ++ (y ++ z)
three_picked passes ds bs cs x y z e f g =
    picked-append passes ds (bs ++ cs) ∙ ap₂ (λ us vs. us ++ vs) e (picked-append passes bs cs ∙ ap₂ (λ us vs. us ++ vs) f g)

pub none_picked : (passes : Option ℕ → Bool) (named : Bool) (func : Option ℕ) (scope : ℕ) (t : Told Text) → passes func ≡ false → Avoids passes (starts named t) → picked passes (told_closed named func scope t) ≡ []
none_picked passes named func scope nothing e a = refl
none_picked passes named func scope (leaf l t) e a = none_picked passes named func scope t e a
none_picked passes named func scope (inner k at i t) e a =
    let behind = avoids_right passes (cond (begins named k) (at_of k at i ∷ []) []) (starts (is_lambda k) i ++ starts named t) a in
    let fails = avoids_func passes (begins named k) (at_of k at i) (starts (is_lambda k) i ++ starts named t) func a e in
    ap (picked passes) (closed_split named func scope k at i t)
    ∙ three_picked passes _ _ _ [] [] [] (region_none passes _ _ k i fails)
    (none_picked passes (is_lambda k) _ _ i fails (avoids_left passes (starts (is_lambda k) i) (starts named t) behind))
    (none_picked passes named func _ t e (avoids_right passes (starts (is_lambda k) i) (starts named t) behind))

-- the script, or a function, whose closed names alone pass
own_step : (passes : Option ℕ → Bool) (named : Bool) (func : Option ℕ) (scope : ℕ) (k : Region Text) (n : ℕ) (i t : Told Text) (b : Bool) → passes func ≡ true
    → Avoids passes (cond b (n ∷ []) [] ++ (starts (is_lambda k) i ++ starts named t))
    → (Avoids passes (starts (is_lambda k) i) → (from : ℕ) → picked passes (told_closed (is_lambda k) func from i) ≡ own (is_lambda k) from i)
    → (Avoids passes (starts named t) → (from : ℕ) → picked passes (told_closed named func from t) ≡ own named from t)
    → picked passes (region_closed (own_func b n func) (cond b 0 scope) k i ++ (told_closed (is_lambda k) (own_func b n func) (cond b 0 scope + length (scopes_in k i)) i ++ told_closed named func (behind_in b scope k i) t))
    ≡ cond b [] (picked_in scope k i ++ own (is_lambda k) (scope + length (scopes_in k i)) i) ++ own named (behind_in b scope k i) t
own_step passes named func scope k n i t true e a h g =
    three_picked passes _ _ _ [] [] _ (region_none passes _ _ k i a.0)
    (none_picked passes (is_lambda k) _ _ i a.0 (avoids_left passes (starts (is_lambda k) i) (starts named t) a.1))
    (g (avoids_right passes (starts (is_lambda k) i) (starts named t) a.1) _)
own_step passes named func scope k n i t false e a h g =
    three_picked passes _ _ _ _ _ _ (region_picked passes _ _ k i e)
    (h (avoids_left passes (starts (is_lambda k) i) (starts named t) a) _)
    (g (avoids_right passes (starts (is_lambda k) i) (starts named t) a) _)
    ∙ sym (append_assoc (picked_in scope k i) (own (is_lambda k) (scope + length (scopes_in k i)) i) (own named (behind_in false scope k i) t))

pub own_picked : (passes : Option ℕ → Bool) (named : Bool) (func : Option ℕ) (scope : ℕ) (t : Told Text) → passes func ≡ true → Avoids passes (starts named t) → picked passes (told_closed named func scope t) ≡ own named scope t
own_picked passes named func scope nothing e a = refl
own_picked passes named func scope (leaf l t) e a = own_picked passes named func scope t e a
own_picked passes named func scope (inner k at i t) e a =
    ap (picked passes) (closed_split named func scope k at i t)
    ∙ own_step passes named func scope k (at_of k at i) i t (begins named k) e a (λ c from. own_picked passes (is_lambda k) func from i e c) (λ c from. own_picked passes named func from t e c)
