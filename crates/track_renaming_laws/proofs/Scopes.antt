-- The scopes of a region, with its names renamed.
use Rattle.std.proofs.Common.{◌≡◌, ℕ, Bool, true, false, cond, List, [], ◌∷◌, ◌++◌, map, refl, sym, ap, ◌∙◌}
use Rattle.std.proofs.lemmas.List.{map-append}
use Rattle.parse_track.specs.Told.{Name, Region, Script, Function, Arrow, Lambda, Block, Switch, ForHead, Catch, Loop, Label, VarBody, Told, nothing, leaf, inner, KnownNames}
use Rattle.parse_track.specs.RegionNames.{is_lexical, is_param, is_catch_param, is_body, directly, vars}
use Rattle.parse_track.specs.EarlyErrors.{has}
use Rattle.parse_track.specs.ClosedNames.{names_of, without, distinct, scope_if_any, has_body, function_scopes, scopes, joined, names}
use Rattle.track_renaming_laws.specs.Renaming.{renamed_name, renamed_region, rewritten, renamed_known, same_by}
use Rattle.track_renaming_laws.proofs.Lists.{map_cond, append_both, either}
use Rattle.track_renaming_laws.proofs.Names.{is_body-renamed, directly-renamed, vars-renamed}
use Rattle.track_renaming_laws.proofs.NameLists.{has-renamed}

names_of-renamed : {A B : Type 0} (f : A → B) (xs : List (Name A)) → names_of (map (renamed_name f) xs) ≡ map f (names_of xs)
names_of-renamed f [] = refl
names_of-renamed f (x ∷ xs) = ap (λ ys. f x.name ∷ ys) (names_of-renamed f xs)

without-renamed : {A B : Type 0} (f : A → B) (same : B → B → Bool) (seen xs : List A) → without same (map f seen) (map f xs) ≡ map f (without (same_by f same) seen xs)
without-renamed f same seen [] = refl
without-renamed f same seen (x ∷ xs) =
    append_both f (cond (has (same_by f same) x seen) [] (x ∷ [])) (without (same_by f same) (seen ++ x ∷ []) xs)
    (cond (has same (f x) (map f seen)) [] (f x ∷ [])) (without same (map f seen ++ f x ∷ []) (map f xs))
    (ap (λ b. cond b [] (f x ∷ [])) (has-renamed f same x seen) ∙ map_cond f (has (same_by f same) x seen) [] (x ∷ []))
    (ap (λ ys. without same ys (map f xs)) (sym (map-append f seen (x ∷ []))) ∙ without-renamed f same (seen ++ x ∷ []) xs)

-- each name once, of a list that is renamed
distinct_as : {A B : Type 0} (f : A → B) (same : B → B → Bool) (xs : List A) (us : List B) → us ≡ map f xs → distinct same us ≡ map f (distinct (same_by f same) xs)
distinct_as f same xs us e = ap (distinct same) e ∙ without-renamed f same [] xs

scope_if_any-renamed : {A B : Type 0} (f : A → B) (xs : List A) → scope_if_any (map f xs) ≡ map (map f) (scope_if_any xs)
scope_if_any-renamed f [] = refl
scope_if_any-renamed f (x ∷ xs) = refl

scope_as : {A B : Type 0} (f : A → B) (same : B → B → Bool) (xs : List A) (us : List B) → us ≡ map f xs
    → scope_if_any (distinct same us) ≡ map (map f) (scope_if_any (distinct (same_by f same) xs))
scope_as f same xs us e = ap scope_if_any (distinct_as f same xs us e) ∙ scope_if_any-renamed f (distinct (same_by f same) xs)

one_scope_as : {A B : Type 0} (f : A → B) (same : B → B → Bool) (xs : List A) (us : List B) → us ≡ map f xs
    → distinct same us ∷ [] ≡ map (map f) (distinct (same_by f same) xs ∷ [])
one_scope_as f same xs us e = ap (λ ys. ys ∷ []) (distinct_as f same xs us e)

has_body-renamed : {A B : Type 0} (f : A → B) (place : Region A → ℕ → ℕ) (t : Told A) → has_body (rewritten f place t) ≡ has_body t
has_body-renamed f place nothing = refl
has_body-renamed f place (leaf l t) = has_body-renamed f place t
has_body-renamed f place (inner k at i t) =
    either (is_body k) (has_body t) (is_body (renamed_region f k)) (has_body (rewritten f place t)) (is_body-renamed f k) (has_body-renamed f place t)

-- the names of a kind, and the var names
named_so : {A B : Type 0} (f : A → B) (xs : List (Name A)) (us : List (Name B)) → us ≡ map (renamed_name f) xs → names_of us ≡ map f (names_of xs)
named_so f xs us e = ap names_of e ∙ names_of-renamed f xs

lexicals : {A B : Type 0} (f : A → B) (place : Region A → ℕ → ℕ) (i : Told A) → names_of (directly is_lexical (rewritten f place i)) ≡ map f (names_of (directly is_lexical i))
lexicals f place i = named_so f (directly is_lexical i) (directly is_lexical (rewritten f place i)) (directly-renamed f place is_lexical i)

params : {A B : Type 0} (f : A → B) (place : Region A → ℕ → ℕ) (i : Told A) → names_of (directly is_param (rewritten f place i)) ≡ map f (names_of (directly is_param i))
params f place i = named_so f (directly is_param i) (directly is_param (rewritten f place i)) (directly-renamed f place is_param i)

var_names : {A B : Type 0} (f : A → B) (place : Region A → ℕ → ℕ) (i : Told A) → names_of (vars (rewritten f place i)) ≡ map f (names_of (vars i))
var_names f place i = named_so f (vars i) (vars (rewritten f place i)) (vars-renamed f place i)

lexical_scope : {A B : Type 0} (f : A → B) (place : Region A → ℕ → ℕ) (same : B → B → Bool) (i : Told A)
    → scope_if_any (distinct same (names_of (directly is_lexical (rewritten f place i)))) ≡ map (map f) (scope_if_any (distinct (same_by f same) (names_of (directly is_lexical i))))
lexical_scope f place same i = scope_as f same (names_of (directly is_lexical i)) (names_of (directly is_lexical (rewritten f place i))) (lexicals f place i)

function_scopes-renamed : {A B : Type 0} (f : A → B) (place : Region A → ℕ → ℕ) (same : B → B → Bool) (implicit : List A) (body : Bool) (i : Told A)
    → function_scopes same (map f implicit) body (rewritten f place i) ≡ map (map f) (function_scopes (same_by f same) implicit body i)
function_scopes-renamed f place same implicit true i =
    one_scope_as f same (names_of (directly is_param i) ++ implicit) (names_of (directly is_param (rewritten f place i)) ++ map f implicit)
    (append_both f (names_of (directly is_param i)) implicit (names_of (directly is_param (rewritten f place i))) (map f implicit) (params f place i) refl)
function_scopes-renamed f place same implicit false i =
    append_both (map f) (distinct (same_by f same) (names_of (directly is_param i) ++ names_of (vars i) ++ implicit) ∷ []) (scope_if_any (distinct (same_by f same) (names_of (directly is_lexical i))))
    (distinct same (names_of (directly is_param (rewritten f place i)) ++ names_of (vars (rewritten f place i)) ++ map f implicit) ∷ [])
    (scope_if_any (distinct same (names_of (directly is_lexical (rewritten f place i)))))
    (one_scope_as f same (names_of (directly is_param i) ++ names_of (vars i) ++ implicit)
    (names_of (directly is_param (rewritten f place i)) ++ names_of (vars (rewritten f place i)) ++ map f implicit)
    (append_both f (names_of (directly is_param i) ++ names_of (vars i)) implicit (names_of (directly is_param (rewritten f place i)) ++ names_of (vars (rewritten f place i))) (map f implicit)
    (append_both f (names_of (directly is_param i)) (names_of (vars i)) (names_of (directly is_param (rewritten f place i))) (names_of (vars (rewritten f place i)))
    (params f place i) (var_names f place i))
    refl))
    (lexical_scope f place same i)

pub scopes-renamed : {A B : Type 0} (f : A → B) (place : Region A → ℕ → ℕ) (same : B → B → Bool) (known : KnownNames A) (k : Region A) (i : Told A)
    → scopes same (renamed_known f known) (renamed_region f k) (rewritten f place i) ≡ map (map f) (scopes (same_by f same) known k i)
scopes-renamed f place same known Script i =
    one_scope_as f same (names_of (vars i) ++ names_of (directly is_lexical i)) (names_of (vars (rewritten f place i)) ++ names_of (directly is_lexical (rewritten f place i)))
    (append_both f (names_of (vars i)) (names_of (directly is_lexical i)) (names_of (vars (rewritten f place i))) (names_of (directly is_lexical (rewritten f place i)))
    (var_names f place i) (lexicals f place i))
scopes-renamed f place same known Function i =
    ap (λ b. function_scopes same (f known.arguments ∷ f known.this ∷ []) b (rewritten f place i)) (has_body-renamed f place i)
    ∙ function_scopes-renamed f place same (known.arguments ∷ known.this ∷ []) (has_body i) i
scopes-renamed f place same known Arrow i =
    ap (λ b. function_scopes same [] b (rewritten f place i)) (has_body-renamed f place i) ∙ function_scopes-renamed f place same [] (has_body i) i
scopes-renamed f place same known (Lambda x) i = refl
scopes-renamed f place same known Block i = lexical_scope f place same i
scopes-renamed f place same known Switch i = lexical_scope f place same i
scopes-renamed f place same known ForHead i = lexical_scope f place same i
scopes-renamed f place same known Catch i =
    scope_as f same (names_of (directly is_catch_param i)) (names_of (directly is_catch_param (rewritten f place i)))
    (named_so f (directly is_catch_param i) (directly is_catch_param (rewritten f place i)) (directly-renamed f place is_catch_param i))
scopes-renamed f place same known VarBody i =
    append_both (map f) (scope_if_any (distinct (same_by f same) (names_of (vars i)))) (scope_if_any (distinct (same_by f same) (names_of (directly is_lexical i))))
    (scope_if_any (distinct same (names_of (vars (rewritten f place i))))) (scope_if_any (distinct same (names_of (directly is_lexical (rewritten f place i)))))
    (scope_as f same (names_of (vars i)) (names_of (vars (rewritten f place i))) (var_names f place i)) (lexical_scope f place same i)
scopes-renamed f place same known Loop i = refl
scopes-renamed f place same known (Label x) i = refl

joined-renamed : {A B : Type 0} (f : A → B) (xss : List (List A)) → joined (map (map f) xss) ≡ map f (joined xss)
joined-renamed f [] = refl
joined-renamed f (xs ∷ xss) = append_both f xs (joined xss) (map f xs) (joined (map (map f) xss)) refl (joined-renamed f xss)

pub names-renamed : {A B : Type 0} (f : A → B) (place : Region A → ℕ → ℕ) (same : B → B → Bool) (known : KnownNames A) (k : Region A) (i : Told A)
    → names same (renamed_known f known) (renamed_region f k) (rewritten f place i) ≡ map f (names (same_by f same) known k i)
names-renamed f place same known k i = ap joined (scopes-renamed f place same known k i) ∙ joined-renamed f (scopes (same_by f same) known k i)
