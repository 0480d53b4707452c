-- The rules on one region, at regions whose names are renamed.
use Rattle.std.proofs.Common.{◌≡◌, ℕ, Bool, true, cond, List, [], ◌++◌, map, refl, ap, ◌∙◌}
use Rattle.parse_track.specs.Told.{Name, Region, Lambda, Told, nothing, leaf, inner, KnownNames}
use Rattle.parse_track.specs.RegionNames.{is_lexical, is_param, is_catch_param, is_head, is_block, is_body, directly, vars, lexical_below}
use Rattle.parse_track.specs.EarlyErrors.{repeated, also_in, later, reserved, at_regions, twice_lexical, lexical_and_var, head_and_var, catch_and_lexical, param_and_lexical, twice_param, lambda_name, binds_reserved}
use Rattle.track_renaming_laws.specs.Renaming.{renamed_name, renamed_region, rewritten, renamed_known, same_by}
use Rattle.track_renaming_laws.proofs.Lists.{append_both, appended}
use Rattle.track_renaming_laws.proofs.Names.{is_head-renamed, is_block-renamed, is_body-renamed, directly-renamed, vars-renamed, lexical_below-renamed}
use Rattle.track_renaming_laws.proofs.NameLists.{repeated-renamed, also_in-renamed, later-renamed, reserved-renamed}

-- rules on lists, at lists that are renamed
repeated_as : {A B : Type 0} (f : A → B) (same : B → B → Bool) (xs : List (Name A)) (us : List (Name B)) → us ≡ map (renamed_name f) xs
    → repeated same [] us ≡ repeated (same_by f same) [] xs
repeated_as f same xs us e = ap (repeated same []) e ∙ repeated-renamed f same [] xs

also_as : {A B : Type 0} (f : A → B) (same : B → B → Bool) (xs ys : List (Name A)) (us vs : List (Name B)) → us ≡ map (renamed_name f) xs → vs ≡ map (renamed_name f) ys
    → also_in same us vs ≡ also_in (same_by f same) xs ys
also_as f same xs ys us vs e h = ap (λ ws. also_in same ws vs) e ∙ (ap (also_in same (map (renamed_name f) xs)) h ∙ also_in-renamed f same xs ys)

later_as : {A B : Type 0} (f : A → B) (same : B → B → Bool) (xs ys : List (Name A)) (us vs : List (Name B)) → us ≡ map (renamed_name f) xs → vs ≡ map (renamed_name f) ys
    → later same us vs ≡ later (same_by f same) xs ys
later_as f same xs ys us vs e h = ap (λ ws. later same ws vs) e ∙ (ap (later same (map (renamed_name f) xs)) h ∙ later-renamed f same xs ys)

pub twice_lexical-renamed : {A B : Type 0} (f : A → B) (place : Region A → ℕ → ℕ) (same : B → B → Bool) (k : Region A) (i : Told A)
    → twice_lexical same (renamed_region f k) (rewritten f place i) ≡ twice_lexical (same_by f same) k i
twice_lexical-renamed f place same k i = repeated_as f same (directly is_lexical i) (directly is_lexical (rewritten f place i)) (directly-renamed f place is_lexical i)

pub lexical_and_var-renamed : {A B : Type 0} (f : A → B) (place : Region A → ℕ → ℕ) (same : B → B → Bool) (k : Region A) (i : Told A)
    → lexical_and_var same (renamed_region f k) (rewritten f place i) ≡ lexical_and_var (same_by f same) k i
lexical_and_var-renamed f place same k i =
    ap (λ b. cond b [] (later same (directly is_lexical (rewritten f place i)) (vars (rewritten f place i)))) (is_head-renamed f k)
    ∙ ap (cond (is_head k) [])
    (later_as f same (directly is_lexical i) (vars i) (directly is_lexical (rewritten f place i)) (vars (rewritten f place i)) (directly-renamed f place is_lexical i) (vars-renamed f place i))

pub head_and_var-renamed : {A B : Type 0} (f : A → B) (place : Region A → ℕ → ℕ) (same : B → B → Bool) (k : Region A) (i : Told A)
    → head_and_var same (renamed_region f k) (rewritten f place i) ≡ head_and_var (same_by f same) k i
head_and_var-renamed f place same k i =
    ap (λ b. cond b (also_in same (directly is_lexical (rewritten f place i)) (vars (rewritten f place i))) []) (is_head-renamed f k)
    ∙ ap (λ xs. cond (is_head k) xs [])
    (also_as f same (directly is_lexical i) (vars i) (directly is_lexical (rewritten f place i)) (vars (rewritten f place i)) (directly-renamed f place is_lexical i) (vars-renamed f place i))

pub catch_and_lexical-renamed : {A B : Type 0} (f : A → B) (place : Region A → ℕ → ℕ) (same : B → B → Bool) (k : Region A) (i : Told A)
    → catch_and_lexical same (renamed_region f k) (rewritten f place i) ≡ catch_and_lexical (same_by f same) k i
catch_and_lexical-renamed f place same k i =
    also_as f same (directly is_catch_param i) (lexical_below is_block i) (directly is_catch_param (rewritten f place i)) (lexical_below is_block (rewritten f place i))
    (directly-renamed f place is_catch_param i) (lexical_below-renamed f place is_block is_block (is_block-renamed f) i)

pub param_and_lexical-renamed : {A B : Type 0} (f : A → B) (place : Region A → ℕ → ℕ) (same : B → B → Bool) (k : Region A) (i : Told A)
    → param_and_lexical same (renamed_region f k) (rewritten f place i) ≡ param_and_lexical (same_by f same) k i
param_and_lexical-renamed f place same k i =
    also_as f same (directly is_param i) (directly is_lexical i ++ lexical_below is_body i)
    (directly is_param (rewritten f place i)) (directly is_lexical (rewritten f place i) ++ lexical_below is_body (rewritten f place i))
    (directly-renamed f place is_param i)
    (append_both (renamed_name f) (directly is_lexical i) (lexical_below is_body i) (directly is_lexical (rewritten f place i)) (lexical_below is_body (rewritten f place i))
    (directly-renamed f place is_lexical i) (lexical_below-renamed f place is_body is_body (is_body-renamed f) i))

pub twice_param-renamed : {A B : Type 0} (f : A → B) (place : Region A → ℕ → ℕ) (same : B → B → Bool) (k : Region A) (i : Told A)
    → twice_param same (renamed_region f k) (rewritten f place i) ≡ twice_param (same_by f same) k i
twice_param-renamed f place same k i = repeated_as f same (directly is_param i) (directly is_param (rewritten f place i)) (directly-renamed f place is_param i)

lambda_name-renamed : {A B : Type 0} (f : A → B) (k : Region A) → lambda_name (renamed_region f k) ≡ map (renamed_name f) (lambda_name k)
lambda_name-renamed f (Lambda x) = refl
lambda_name-renamed f _ = refl

pub binds_reserved-renamed : {A B : Type 0} (f : A → B) (place : Region A → ℕ → ℕ) (same : B → B → Bool) (known : KnownNames A) (k : Region A) (i : Told A)
    → binds_reserved same (renamed_known f known) (renamed_region f k) (rewritten f place i) ≡ binds_reserved (same_by f same) known k i
binds_reserved-renamed f place same known k i =
    ap (reserved same (renamed_known f known))
    (append_both (renamed_name f) (lambda_name k) (directly (λ _. true) i) (lambda_name (renamed_region f k)) (directly (λ _. true) (rewritten f place i))
    (lambda_name-renamed f k) (directly-renamed f place (λ _. true) i))
    ∙ reserved-renamed f same known (lambda_name k ++ directly (λ _. true) i)

-- a rule at each region
pub at_regions-renamed : {A B : Type 0} (f : A → B) (place : Region A → ℕ → ℕ) (rule : Region A → Told A → List ℕ) (rule' : Region B → Told B → List ℕ)
    → ((k : Region A) (i : Told A) → rule' (renamed_region f k) (rewritten f place i) ≡ rule k i) → (t : Told A) → at_regions rule' (rewritten f place t) ≡ at_regions rule t
at_regions-renamed f place rule rule' e nothing = refl
at_regions-renamed f place rule rule' e (leaf l t) = at_regions-renamed f place rule rule' e t
at_regions-renamed f place rule rule' e (inner k at i t) =
    appended (rule k i) (at_regions rule i ++ at_regions rule t)
    (rule' (renamed_region f k) (rewritten f place i)) (at_regions rule' (rewritten f place i) ++ at_regions rule' (rewritten f place t))
    (e k i)
    (appended (at_regions rule i) (at_regions rule t) (at_regions rule' (rewritten f place i)) (at_regions rule' (rewritten f place t))
    (at_regions-renamed f place rule rule' e i) (at_regions-renamed f place rule rule' e t))
