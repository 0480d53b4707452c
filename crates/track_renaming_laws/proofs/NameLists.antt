-- Equal names in lists of names, renamed: at the same offsets.
use Rattle.std.proofs.Common.{◌≡◌, max, Bool, cond, ◌||◌, List, [], ◌∷◌, ◌++◌, map, refl, sym, ap, ◌∙◌}
use Rattle.std.proofs.lemmas.List.{map-append}
use Rattle.parse_track.specs.Told.{Name, KnownNames}
use Rattle.parse_track.specs.EarlyErrors.{has_name, has, repeated, also_in, later_of, later, reserved}
use Rattle.track_renaming_laws.specs.Renaming.{renamed_name, renamed_known, same_by}
use Rattle.track_renaming_laws.proofs.Lists.{appended}

has_name-renamed : {A B : Type 0} (f : A → B) (same : B → B → Bool) (x : A) (ys : List (Name A))
    → has_name same (f x) (map (renamed_name f) ys) ≡ has_name (same_by f same) x ys
has_name-renamed f same x [] = refl
has_name-renamed f same x (y ∷ ys) = ap (λ b. same (f x) (f y.name) || b) (has_name-renamed f same x ys)

pub has-renamed : {A B : Type 0} (f : A → B) (same : B → B → Bool) (x : A) (ys : List A) → has same (f x) (map f ys) ≡ has (same_by f same) x ys
has-renamed f same x [] = refl
has-renamed f same x (y ∷ ys) = ap (λ b. same (f x) (f y) || b) (has-renamed f same x ys)

pub repeated-renamed : {A B : Type 0} (f : A → B) (same : B → B → Bool) (before xs : List (Name A))
    → repeated same (map (renamed_name f) before) (map (renamed_name f) xs) ≡ repeated (same_by f same) before xs
repeated-renamed f same before [] = refl
repeated-renamed f same before (x ∷ xs) =
    appended (cond (has_name (same_by f same) x.name before) (x.at ∷ []) []) (repeated (same_by f same) (before ++ x ∷ []) xs)
    (cond (has_name same (f x.name) (map (renamed_name f) before)) (x.at ∷ []) [])
    (repeated same (map (renamed_name f) before ++ renamed_name f x ∷ []) (map (renamed_name f) xs))
    (ap (λ b. cond b (x.at ∷ []) []) (has_name-renamed f same x.name before))
    (ap (λ ys. repeated same ys (map (renamed_name f) xs)) (sym (map-append (renamed_name f) before (x ∷ []))) ∙ repeated-renamed f same (before ++ x ∷ []) xs)

pub also_in-renamed : {A B : Type 0} (f : A → B) (same : B → B → Bool) (xs ys : List (Name A))
    → also_in same (map (renamed_name f) xs) (map (renamed_name f) ys) ≡ also_in (same_by f same) xs ys
also_in-renamed f same xs [] = refl
also_in-renamed f same xs (y ∷ ys) =
    appended (cond (has_name (same_by f same) y.name xs) (y.at ∷ []) []) (also_in (same_by f same) xs ys)
    (cond (has_name same (f y.name) (map (renamed_name f) xs)) (y.at ∷ []) []) (also_in same (map (renamed_name f) xs) (map (renamed_name f) ys))
    (ap (λ b. cond b (y.at ∷ []) []) (has_name-renamed f same y.name xs)) (also_in-renamed f same xs ys)

later_of-renamed : {A B : Type 0} (f : A → B) (same : B → B → Bool) (x : Name A) (ys : List (Name A))
    → later_of same (renamed_name f x) (map (renamed_name f) ys) ≡ later_of (same_by f same) x ys
later_of-renamed f same x [] = refl
later_of-renamed f same x (y ∷ ys) = ap (λ zs. cond (same (f x.name) (f y.name)) (max x.at y.at ∷ []) [] ++ zs) (later_of-renamed f same x ys)

pub later-renamed : {A B : Type 0} (f : A → B) (same : B → B → Bool) (xs ys : List (Name A))
    → later same (map (renamed_name f) xs) (map (renamed_name f) ys) ≡ later (same_by f same) xs ys
later-renamed f same [] ys = refl
later-renamed f same (x ∷ xs) ys =
    appended (later_of (same_by f same) x ys) (later (same_by f same) xs ys)
    (later_of same (renamed_name f x) (map (renamed_name f) ys)) (later same (map (renamed_name f) xs) (map (renamed_name f) ys))
    (later_of-renamed f same x ys) (later-renamed f same xs ys)

pub reserved-renamed : {A B : Type 0} (f : A → B) (same : B → B → Bool) (known : KnownNames A) (xs : List (Name A))
    → reserved same (renamed_known f known) (map (renamed_name f) xs) ≡ reserved (same_by f same) known xs
reserved-renamed f same known [] = refl
reserved-renamed f same known (x ∷ xs) =
    ap (λ ys. cond (same (f x.name) (f known.eval) || same (f x.name) (f known.arguments)) (x.at ∷ []) [] ++ ys) (reserved-renamed f same known xs)
