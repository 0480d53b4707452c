-- Loops over names: which were seen, and the smallest offset of those that clash.
use Rattle.std.proofs.Common.{◌≡◌, ℕ, ◌+◌, ◌<◌, Bool, true, false, cond, not, ◌||◌, Option, Some, List, [], ◌∷◌, ◌++◌, length, take, drop, get_or, map, refl, sym, ap, ◌∙◌, nat_eq, add-one, drop-cons}
use Rattle.std.proofs.lemmas.List.{take_more, map-append}
use Rattle.std.proofs.lemmas.Bool.{eqb-true, eq-eqb}
use Rattle.script_grammar.specs.declared.tree.Ident.{Ident}
use Rattle.parse_track.specs.Told.{Name}
use Rattle.parse_track.specs.EarlyErrors.{has_name, smaller, smallest, repeated, also_in}
use Rattle.parse_track.specs.Log.{name_of}
use Rattle.parse_track.proofs.Walk.{false_is_true, or_true, or_assoc, or_first}
use Rattle.parse_track.proofs.Smallest.{one_more}

has_name-snoc : (q : ℕ) (xs : List (Name ℕ)) (x : Name ℕ) → has_name nat_eq q (xs ++ x ∷ []) ≡ (has_name nat_eq q xs || nat_eq q x.name)
has_name-snoc q [] x = or_first (nat_eq q x.name) false refl
has_name-snoc q (y ∷ ys) x = ap (λ (b : Bool). nat_eq q y.name || b) (has_name-snoc q ys x) ∙ or_assoc (nat_eq q y.name) (has_name nat_eq q ys) (nat_eq q x.name)

pub seen_at : (x q : ℕ) (old now : Bool) (b : Bool) → nat_eq x q ≡ b → now ≡ cond b true old → now ≡ (old || nat_eq q x)
seen_at x q old now true e f = f ∙ (sym (or_true old) ∙ ap (λ (b : Bool). old || b) (sym (eq-eqb q x (sym (eqb-true x q e)))))
seen_at x q old now false e f = f ∙ (sym (or_first old false refl) ∙ ap (λ (b : Bool). old || b) (sym (other (nat_eq q x) refl)))
  where
    other : (b : Bool) → nat_eq q x ≡ b → nat_eq q x ≡ false
    other true g = absurd (false_is_true (sym e ∙ eq-eqb x q (sym (eqb-true q x g))))
    other false g = g

pub seen_step : (names : List Ident) (i : ℕ) (d : Ident) (old now : ℕ → Bool) → i < length names
    → ((q : ℕ) → now q ≡ cond (nat_eq (get_or names i d).atom q) true (old q))
    → ((q : ℕ) → old q ≡ has_name nat_eq q (map name_of (take i names)))
    → (q : ℕ) → now q ≡ has_name nat_eq q (map name_of (take (i + 1) names))
seen_step names i d old now l e h q =
    seen_at (get_or names i d).atom q (old q) (now q) (nat_eq (get_or names i d).atom q) refl (e q)
    ∙ (ap (λ (b : Bool). b || nat_eq q (get_or names i d).atom) (h q)
    ∙ (sym (has_name-snoc q (map name_of (take i names)) (name_of (get_or names i d)))
    ∙ ap (has_name nat_eq q) (sym (ap (map name_of) (take_more names i d l) ∙ map-append name_of (take i names) (get_or names i d ∷ [])))))

pub repeated_step : (names : List Ident) (i : ℕ) (d : Ident) (first now all : Option ℕ) (clash : Bool) → i < length names
    → now ≡ cond clash (smaller first (Some (get_or names i d).at)) first
    → clash ≡ has_name nat_eq (get_or names i d).atom (map name_of (take i names))
    → smaller first (smallest (repeated nat_eq (map name_of (take i names)) (map name_of (drop i names)))) ≡ all
    → smaller now (smallest (repeated nat_eq (map name_of (take (i + 1) names)) (map name_of (drop (i + 1) names)))) ≡ all
repeated_step names i d first now all clash l n c h =
    let x : Ident = get_or names i d in
    let e : drop i names ≡ x ∷ drop (i + 1) names = rw add-one (drop-cons names i d l) in
    let t : map name_of (take (i + 1) names) ≡ map name_of (take i names) ++ name_of x ∷ [] = ap (map name_of) (take_more names i d l) ∙ map-append name_of (take i names) (x ∷ []) in
    ap (λ (xs : List (Name ℕ)). smaller now (smallest (repeated nat_eq xs (map name_of (drop (i + 1) names))))) t
    ∙ one_more first now clash x.at (repeated nat_eq (map name_of (take i names) ++ name_of x ∷ []) (map name_of (drop (i + 1) names))) all n
    (ap (λ (b : Bool). smaller first (smallest (cond b (x.at ∷ []) [] ++ repeated nat_eq (map name_of (take i names) ++ name_of x ∷ []) (map name_of (drop (i + 1) names))))) c
    ∙ (ap (λ (ys : List Ident). smaller first (smallest (repeated nat_eq (map name_of (take i names)) (map name_of ys)))) (sym e) ∙ h))

pub also_step : (xs : List (Name ℕ)) (names : List Ident) (i : ℕ) (d : Ident) (first now all : Option ℕ) (clash : Bool) → i < length names
    → now ≡ cond clash (smaller first (Some (get_or names i d).at)) first
    → clash ≡ has_name nat_eq (get_or names i d).atom xs
    → smaller first (smallest (also_in nat_eq xs (map name_of (drop i names)))) ≡ all
    → smaller now (smallest (also_in nat_eq xs (map name_of (drop (i + 1) names)))) ≡ all
also_step xs names i d first now all clash l n c h =
    let x : Ident = get_or names i d in
    let e : drop i names ≡ x ∷ drop (i + 1) names = rw add-one (drop-cons names i d l) in
    one_more first now clash x.at (also_in nat_eq xs (map name_of (drop (i + 1) names))) all n
    (ap (λ (b : Bool). smaller first (smallest (cond b (x.at ∷ []) [] ++ also_in nat_eq xs (map name_of (drop (i + 1) names))))) c
    ∙ (ap (λ (ys : List Ident). smaller first (smallest (also_in nat_eq xs (map name_of ys)))) (sym e) ∙ h))

pub not_not : (b : Bool) → not (not b) ≡ b
not_not true = refl
not_not false = refl
