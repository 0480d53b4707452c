-- One step of binding each name once, and where there is a name to bind.
use Rattle.std.proofs.Common.{◌≡◌, ℕ, ◌+◌, ◌<◌, ◌++◌, ◌∷◌, [], Option, List, Bool, true, false, not, ◌||◌, cond, refl, nat_eq, length, take, drop, get_or, ap, subst, sym, ◌∙◌, append_assoc, add-one, drop-cons}
use Rattle.std.proofs.lemmas.List.{take_more, get_or-map, length-map}
use Rattle.std.specs.Bool.{◌==◌}
use Rattle.std.specs.List.{list_any}
use Rattle.script_grammar.specs.declared.tree.Ident.{Ident}
use Rattle.parse_track.specs.ClosedNames.{Bound, without, distinct, scope_if_any, bound_in}
use Rattle.parse_track.specs.Scopes.{names_in}
use Rattle.parse_track.proofs.Walk.{or_first, or_assoc, false_is_true}
use Rattle.parse_track.proofs.Clashes.{seen_at}
use Rattle.parse_track.proofs.Items.{names_atoms}

snoc : (q x : ℕ) (xs : List ℕ) → list_any (nat_eq q) (xs ++ x ∷ []) ≡ (list_any (nat_eq q) xs || nat_eq q x)
snoc q x [] = or_first (nat_eq q x) false refl
snoc q x (y ∷ ys) = ap (λ (b : Bool). nat_eq q y || b) (snoc q x ys) ∙ or_assoc (nat_eq q y) (list_any (nat_eq q) ys) (nat_eq q x)

-- the name at a place
name_at : (names : List Ident) (i : ℕ) (d : Ident) → i < length names → get_or (names_in names) i 0 ≡ (get_or names i d).atom
name_at names i d l = ap (λ (xs : List ℕ). get_or xs i 0) (names_atoms names) ∙ get_or-map (λ (name : Ident). name.atom) names i d 0 l

few : (names : List Ident) (i : ℕ) → i < length names → i < length (names_in names)
few names i l = subst (λ (n : ℕ). i < n) (sym (ap length (names_atoms names) ∙ length-map names (λ (name : Ident). name.atom))) l

names_taken : (names : List Ident) (i : ℕ) (d : Ident) → i < length names → take (i + 1) (names_in names) ≡ take i (names_in names) ++ (get_or names i d).atom ∷ []
names_taken names i d l =
    take_more (names_in names) i 0 (few names i l) ∙ ap (λ (x : ℕ). take i (names_in names) ++ x ∷ []) (name_at names i d l)

names_left : (names : List Ident) (i : ℕ) (d : Ident) → i < length names → drop i (names_in names) ≡ (get_or names i d).atom ∷ drop (i + 1) (names_in names)
names_left names i d l =
    let e : drop i (names_in names) ≡ get_or (names_in names) i 0 ∷ drop (i + 1) (names_in names) = rw add-one (drop-cons (names_in names) i 0 (few names i l)) in
    e ∙ ap (λ (x : ℕ). x ∷ drop (i + 1) (names_in names)) (name_at names i d l)

-- one name more was seen
pub seen_more : (names : List Ident) (d : Ident) (i : ℕ) (old now : ℕ → Bool) → i < length names
    → ((q : ℕ) → now q ≡ cond (nat_eq (get_or names i d).atom q) true (old q)) → ((q : ℕ) → old q ≡ list_any (nat_eq q) (take i (names_in names)))
    → (q : ℕ) → now q ≡ list_any (nat_eq q) (take (i + 1) (names_in names))
seen_more names d i old now l e h q =
    seen_at (get_or names i d).atom q (old q) (now q) (nat_eq (get_or names i d).atom q) refl (e q)
    ∙ (ap (λ (b : Bool). b || nat_eq q (get_or names i d).atom) (h q)
    ∙ (sym (snoc q (get_or names i d).atom (take i (names_in names))) ∙ ap (list_any (nat_eq q)) (sym (names_taken names i d l))))

bound_append : (func : Option ℕ) (scope : ℕ) (xs ys : List ℕ) → bound_in func scope (xs ++ ys) ≡ bound_in func scope xs ++ bound_in func scope ys
bound_append func scope [] ys = refl
bound_append func scope (x ∷ xs) ys = ap (λ (bs : List (Bound ℕ)). record { func = func; scope = scope; name = x } ∷ bs) (bound_append func scope xs ys)

-- it is bound where it was not seen before
pub bound_step : (names : List Ident) (d : Ident) (i : ℕ) (func : Option ℕ) (scope : ℕ) (found : Bool) (bound now all : List (Bound ℕ)) → i < length names
    → list_any (nat_eq (get_or names i d).atom) (take i (names_in names)) ≡ found
    → now ≡ bound ++ bound_in func scope (cond found [] ((get_or names i d).atom ∷ []))
    → bound ++ bound_in func scope (without nat_eq (take i (names_in names)) (drop i (names_in names))) ≡ all
    → now ++ bound_in func scope (without nat_eq (take (i + 1) (names_in names)) (drop (i + 1) (names_in names))) ≡ all
bound_step names d i func scope found bound now all l f n h =
    let x : ℕ = (get_or names i d).atom in
    let left : List ℕ = drop (i + 1) (names_in names) in
    ap (λ (bs : List (Bound ℕ)). bs ++ bound_in func scope (without nat_eq (take (i + 1) (names_in names)) left)) n
    ∙ (append_assoc bound (bound_in func scope (cond found [] (x ∷ []))) (bound_in func scope (without nat_eq (take (i + 1) (names_in names)) left))
    ∙ (ap (λ (bs : List (Bound ℕ)). bound ++ bs) (sym (bound_append func scope (cond found [] (x ∷ [])) (without nat_eq (take (i + 1) (names_in names)) left)))
    ∙ (ap (λ (xs : List ℕ). bound ++ bound_in func scope (cond found [] (x ∷ []) ++ without nat_eq xs left)) (names_taken names i d l)
    ∙ (ap (λ (b : Bool). bound ++ bound_in func scope (cond b [] (x ∷ []) ++ without nat_eq (take i (names_in names) ++ x ∷ []) left)) (sym f)
    ∙ (ap (λ (xs : List ℕ). bound ++ bound_in func scope (without nat_eq (take i (names_in names)) xs)) (sym (names_left names i d l)) ∙ h)))))

pub not_true : (b : Bool) → not b ≡ true → b ≡ false
not_true true e = cc
not_true false e = cc

pub not_false : (b : Bool) → not b ≡ false → b ≡ true
not_false true e = cc
not_false false e = cc

-- a scope with names is one that binds some
pub some_names : (names : List Ident) → false ≡ (length names == 0) → distinct nat_eq (names_in names) ∷ [] ≡ scope_if_any (distinct nat_eq (names_in names))
some_names [] e = absurd (false_is_true e)
some_names (x ∷ xs) e = refl
