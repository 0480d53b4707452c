-- The scopes of a region with their names, and which names are closed over: those that a use inside an inner function
-- finds.
use Rattle.std.specs.Prelude.{ℕ, ◌+◌, Bool, true, false, cond, not, ◌||◌, ◌&&◌, Option, None, Some, List, [], ◌∷◌, ◌++◌, map, length}
use Rattle.parse_track.specs.Told.{Name, Region, Script, Function, Arrow, Lambda, Block, Switch, ForHead, Catch, Loop, Label, VarBody}
use Rattle.parse_track.specs.Told.{Declared, Used, Jumped, Told, nothing, leaf, inner, KnownNames}
use Rattle.parse_track.specs.RegionNames.{is_lexical, is_param, is_catch_param, is_lambda, is_function, is_body, directly, vars}
use Rattle.parse_track.specs.EarlyErrors.{has}

abbrev pub names_of : {A : Type 0} → List (Name A) → List A
names_of xs = map (λ x. x.name) xs

-- of these names those that stand for the first time, after some that were seen
abbrev pub without : {A : Type 0} → (A → A → Bool) → List A → List A → List A
without same seen [] = []
without same seen (x ∷ xs) = cond (has same x seen) [] (x ∷ []) ++ without same (seen ++ x ∷ []) xs

-- each name once, where it stands first
abbrev pub distinct : {A : Type 0} → (A → A → Bool) → List A → List A
distinct same xs = without same [] xs

-- a scope is left out where it binds nothing
abbrev pub scope_if_any : {A : Type 0} → List A → List (List A)
scope_if_any [] = []
scope_if_any (x ∷ xs) = (x ∷ xs) ∷ []

-- whether a body of its own is directly inside
abbrev pub has_body : {A : Type 0} → Told A → Bool
has_body nothing = false
has_body (leaf _ t) = has_body t
has_body (inner k _ _ t) = is_body k || has_body t

-- The scopes of a function, which are those of FunctionDeclarationInstantiation, ECMA-262, 10.2.11: the parameters and the
-- var names, with what is implicit after them, then the lexical names. Where the body is a region of its own it has the
-- var names and the lexical names.
abbrev pub function_scopes : {A : Type 0} → (A → A → Bool) → List A → Bool → Told A → List (List A)
function_scopes same implicit true i = distinct same (names_of (directly is_param i) ++ implicit) ∷ []
function_scopes same implicit false i =
    distinct same (names_of (directly is_param i) ++ names_of (vars i) ++ implicit) ∷ scope_if_any (distinct same (names_of (directly is_lexical i)))

-- The scopes of a region from the outermost in, each with its names in the order of its bindings. `this` is bound by
-- each function that is no arrow, and so is `arguments`; where no use finds them nothing closes over them.
abbrev pub scopes : {A : Type 0} → (A → A → Bool) → KnownNames A → Region A → Told A → List (List A)
scopes same known Script i = distinct same (names_of (vars i) ++ names_of (directly is_lexical i)) ∷ []
scopes same known Function i = function_scopes same (known.arguments ∷ known.this ∷ []) (has_body i) i
scopes same known Arrow i = function_scopes same [] (has_body i) i
scopes same known (Lambda name) i = (name.name ∷ []) ∷ []
scopes same known Block i = scope_if_any (distinct same (names_of (directly is_lexical i)))
scopes same known Switch i = scope_if_any (distinct same (names_of (directly is_lexical i)))
scopes same known ForHead i = scope_if_any (distinct same (names_of (directly is_lexical i)))
scopes same known Catch i = scope_if_any (distinct same (names_of (directly is_catch_param i)))
scopes same known VarBody i =
    scope_if_any (distinct same (names_of (vars i))) ++ scope_if_any (distinct same (names_of (directly is_lexical i)))
scopes same known Loop i = []
scopes same known (Label _) i = []

abbrev pub joined : {A : Type 0} → List (List A) → List A
joined [] = []
joined (xs ∷ xss) = xs ++ joined xss

-- the names that a region binds, in the order of its scopes
abbrev pub names : {A : Type 0} → (A → A → Bool) → KnownNames A → Region A → Told A → List A
names same known k i = joined (scopes same known k i)

-- A function begins at its region, or at the region of its name where it has one: `named` says that the region stands
-- directly in that of the name.
abbrev pub begins : {A : Type 0} → Bool → Region A → Bool
begins named k = is_lambda k || (is_function k && not named)

-- Whether a use of a name, in what is told, leaves it unbound there and stands in a function inside. `inside` says that
-- what is told stands in such a function.
abbrev pub reaches : {A : Type 0} → (A → A → Bool) → KnownNames A → Bool → Bool → A → Told A → Bool
reaches same known named inside x nothing = false
reaches same known named inside x (leaf (Used y) t) = (inside && same x y) || reaches same known named inside x t
reaches same known named inside x (leaf (Declared _ _) t) = reaches same known named inside x t
reaches same known named inside x (leaf (Jumped _ _ _) t) = reaches same known named inside x t
reaches same known named inside x (inner k at i t) =
    (not (has same x (names same known k i)) && reaches same known (is_lambda k) (inside || begins named k) x i)
    || reaches same known named inside x t

-- Of each name that a region binds whether it is closed over. Of equal names in two scopes of one region the last hides
-- the others.
abbrev pub reached : {A : Type 0} → (A → A → Bool) → KnownNames A → Region A → Told A → List A → List Bool
reached same known k i [] = []
reached same known k i (x ∷ xs) = (not (has same x xs) && reaches same known (is_lambda k) false x i) ∷ reached same known k i xs

-- of each binding, in the order of the source, whether it is closed over
abbrev pub flags : {A : Type 0} → (A → A → Bool) → KnownNames A → Told A → List Bool
flags same known nothing = []
flags same known (leaf l t) = flags same known t
flags same known (inner k at i t) = reached same known k i (names same known k i) ++ (flags same known i ++ flags same known t)

-- A binding: the offset where the parameters of its function start, which the script has not; the number of its scope in
-- its function; and its name.
pub record Bound (A : Type 0) : Type 0 where
  pub func : Option ℕ
  pub scope : ℕ
  pub name : A

abbrev pub bound_in : {A : Type 0} → Option ℕ → ℕ → List A → List (Bound A)
bound_in func scope [] = []
bound_in func scope (x ∷ xs) = record { func = func; scope = scope; name = x } ∷ bound_in func scope xs

abbrev pub bound_by : {A : Type 0} → Option ℕ → ℕ → List (List A) → List (Bound A)
bound_by func scope [] = []
bound_by func scope (xs ∷ xss) = bound_in func scope xs ++ bound_by func (scope + 1) xss

-- how many scopes of the function itself are in what is told
abbrev pub scope_count : {A : Type 0} → (A → A → Bool) → KnownNames A → Bool → Told A → ℕ
scope_count same known named nothing = 0
scope_count same known named (leaf l t) = scope_count same known named t
scope_count same known named (inner k at i t) =
    cond (begins named k) 0 (length (scopes same known k i) + scope_count same known (is_lambda k) i) + scope_count same known named t

-- the offset of the function that begins at a region
abbrev pub first_at : {A : Type 0} → ℕ → Told A → ℕ
first_at at nothing = at
first_at at (leaf _ t) = first_at at t
first_at at (inner _ there _ _) = there

abbrev pub at_of : {A : Type 0} → Region A → ℕ → Told A → ℕ
at_of (Lambda _) at i = first_at at i
at_of _ at i = at

-- each binding, in the order of the source; scopes are numbered from 0 in each function
abbrev pub bindings : {A : Type 0} → (A → A → Bool) → KnownNames A → Bool → Option ℕ → ℕ → Told A → List (Bound A)
bindings same known named func scope nothing = []
bindings same known named func scope (leaf l t) = bindings same known named func scope t
bindings same known named func scope (inner k at i t) =
    let own = cond (begins named k) (Some (at_of k at i)) func in
    let from = cond (begins named k) 0 scope in
    bound_by own from (scopes same known k i)
    ++ (bindings same known (is_lambda k) own (from + length (scopes same known k i)) i
    ++ bindings same known named func
    (scope + cond (begins named k) 0 (length (scopes same known k i) + scope_count same known (is_lambda k) i)) t)

-- those whose flag is true
abbrev pub kept : {B : Type 0} → List Bool → List B → List B
kept [] bs = []
kept (f ∷ fs) [] = []
kept (f ∷ fs) (b ∷ bs) = cond f (b ∷ []) [] ++ kept fs bs

-- the bindings that are closed over, in the order of the source
abbrev pub closed : {A : Type 0} → (A → A → Bool) → KnownNames A → Told A → List (Bound A)
closed same known t = kept (flags same known t) (bindings same known false None 0 t)
