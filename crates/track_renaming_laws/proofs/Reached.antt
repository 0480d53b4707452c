-- Which bindings are closed over, where names are renamed: the same ones.
use Rattle.std.proofs.Common.{◌≡◌, ℕ, Bool, false, not, ◌||◌, ◌&&◌, List, [], ◌∷◌, ◌++◌, map, refl, ap, ◌∙◌}
use Rattle.parse_track.specs.Told.{Region, Lambda, Declared, Used, Jumped, Told, nothing, leaf, inner, KnownNames}
use Rattle.parse_track.specs.RegionNames.{is_lambda}
use Rattle.parse_track.specs.EarlyErrors.{has}
use Rattle.parse_track.specs.ClosedNames.{names, begins, reaches, reached, flags}
use Rattle.track_renaming_laws.specs.Renaming.{renamed_region, rewritten, renamed_known, same_by}
use Rattle.track_renaming_laws.proofs.Lists.{appended, either}
use Rattle.track_renaming_laws.proofs.Names.{is_lambda-renamed}
use Rattle.track_renaming_laws.proofs.NameLists.{has-renamed}
use Rattle.track_renaming_laws.proofs.Scopes.{names-renamed}

pub begins-renamed : {A B : Type 0} (f : A → B) (named : Bool) (k : Region A) → begins named (renamed_region f k) ≡ begins named k
begins-renamed f named (Lambda _) = refl
begins-renamed f named _ = refl

unless : (a b c d : Bool) → c ≡ a → d ≡ b → (not c && d) ≡ (not a && b)
unless a b c d e h = ap (λ x. not x && d) e ∙ ap (λ x. not a && x) h

has_as : {A B : Type 0} (f : A → B) (same : B → B → Bool) (x : A) (xs : List A) (us : List B) → us ≡ map f xs → has same (f x) us ≡ has (same_by f same) x xs
has_as f same x xs us e = ap (has same (f x)) e ∙ has-renamed f same x xs

pub reaches-renamed : {A B : Type 0} (f : A → B) (place : Region A → ℕ → ℕ) (same : B → B → Bool) (known : KnownNames A) (named inside : Bool) (x : A) (t : Told A)
    → reaches same (renamed_known f known) named inside (f x) (rewritten f place t) ≡ reaches (same_by f same) known named inside x t
reaches-renamed f place same known named inside x nothing = refl
reaches-renamed f place same known named inside x (leaf (Used y) t) = ap (λ b. (inside && same (f x) (f y)) || b) (reaches-renamed f place same known named inside x t)
reaches-renamed f place same known named inside x (leaf (Declared _ _) t) = reaches-renamed f place same known named inside x t
reaches-renamed f place same known named inside x (leaf (Jumped _ _ _) t) = reaches-renamed f place same known named inside x t
reaches-renamed {A} {B} f place same known named inside x (inner k at i t) =
    either (not (has (same_by f same) x (names (same_by f same) known k i)) && reaches (same_by f same) known (is_lambda k) (inside || begins named k) x i)
    (reaches (same_by f same) known named inside x t)
    (not (has same (f x) (names same known' (renamed_region f k) (rewritten f place i))) && reaches same known' (is_lambda (renamed_region f k)) (inside || begins named (renamed_region f k)) (f x) (rewritten f place i))
    (reaches same known' named inside (f x) (rewritten f place t))
    (unless (has (same_by f same) x (names (same_by f same) known k i)) (reaches (same_by f same) known (is_lambda k) (inside || begins named k) x i)
    (has same (f x) (names same known' (renamed_region f k) (rewritten f place i))) (reaches same known' (is_lambda (renamed_region f k)) (inside || begins named (renamed_region f k)) (f x) (rewritten f place i))
    (has_as f same x (names (same_by f same) known k i) (names same known' (renamed_region f k) (rewritten f place i)) (names-renamed f place same known k i))
    (ap (λ b. reaches same known' b (inside || begins named (renamed_region f k)) (f x) (rewritten f place i)) (is_lambda-renamed f k)
    ∙ (ap (λ b. reaches same known' (is_lambda k) (inside || b) (f x) (rewritten f place i)) (begins-renamed f named k)
    ∙ reaches-renamed f place same known (is_lambda k) (inside || begins named k) x i)))
    (reaches-renamed f place same known named inside x t)
  where
    known' : KnownNames B
    known' = renamed_known f known

reached-renamed : {A B : Type 0} (f : A → B) (place : Region A → ℕ → ℕ) (same : B → B → Bool) (known : KnownNames A) (k : Region A) (i : Told A) (xs : List A)
    → reached same (renamed_known f known) (renamed_region f k) (rewritten f place i) (map f xs) ≡ reached (same_by f same) known k i xs
reached-renamed f place same known k i [] = refl
reached-renamed {A} {B} f place same known k i (x ∷ xs) =
    appended ((not (has (same_by f same) x xs) && reaches (same_by f same) known (is_lambda k) false x i) ∷ []) (reached (same_by f same) known k i xs)
    ((not (has same (f x) (map f xs)) && reaches same known' (is_lambda (renamed_region f k)) false (f x) (rewritten f place i)) ∷ [])
    (reached same known' (renamed_region f k) (rewritten f place i) (map f xs))
    (ap (λ b. b ∷ [])
    (unless (has (same_by f same) x xs) (reaches (same_by f same) known (is_lambda k) false x i)
    (has same (f x) (map f xs)) (reaches same known' (is_lambda (renamed_region f k)) false (f x) (rewritten f place i))
    (has-renamed f same x xs)
    (ap (λ b. reaches same known' b false (f x) (rewritten f place i)) (is_lambda-renamed f k) ∙ reaches-renamed f place same known (is_lambda k) false x i)))
    (reached-renamed f place same known k i xs)
  where
    known' : KnownNames B
    known' = renamed_known f known

pub flags-renamed : {A B : Type 0} (f : A → B) (place : Region A → ℕ → ℕ) (same : B → B → Bool) (known : KnownNames A) (t : Told A)
    → flags same (renamed_known f known) (rewritten f place t) ≡ flags (same_by f same) known t
flags-renamed f place same known nothing = refl
flags-renamed f place same known (leaf l t) = flags-renamed f place same known t
flags-renamed {A} {B} f place same known (inner k at i t) =
    appended (reached (same_by f same) known k i (names (same_by f same) known k i)) (flags (same_by f same) known i ++ flags (same_by f same) known t)
    (reached same known' (renamed_region f k) (rewritten f place i) (names same known' (renamed_region f k) (rewritten f place i)))
    (flags same known' (rewritten f place i) ++ flags same known' (rewritten f place t))
    (ap (reached same known' (renamed_region f k) (rewritten f place i)) (names-renamed f place same known k i)
    ∙ reached-renamed f place same known k i (names (same_by f same) known k i))
    (appended (flags (same_by f same) known i) (flags (same_by f same) known t) (flags same known' (rewritten f place i)) (flags same known' (rewritten f place t))
    (flags-renamed f place same known i) (flags-renamed f place same known t))
  where
    known' : KnownNames B
    known' = renamed_known f known
