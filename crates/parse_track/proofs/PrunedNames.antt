-- What is told pruned declares what is told, and its uses reach what those reach.
use Rattle.std.proofs.Common.{◌≡◌, ℕ, ◌+◌, Bool, true, false, cond, not, ◌||◌, ◌&&◌, nat_eq, Option, List, [], ◌∷◌, ◌++◌, length, refl, sym, ap, ◌∙◌}
use Rattle.parse_track.specs.declared.region.Declare.{Declare}
use Rattle.parse_track.specs.Told.{Name, Region, Script, Function, Arrow, Lambda, Block, Switch, ForHead, Catch, Loop, Label, VarBody, Declared, Used, Jumped, Told, nothing, leaf, inner, KnownNames}
use Rattle.parse_track.specs.RegionNames.{is_lambda, is_function, is_lexical, is_param, is_catch_param, is_var, is_body, stops_vars, declared_by, directly, vars}
use Rattle.parse_track.specs.EarlyErrors.{has}
use Rattle.parse_track.specs.ClosedNames.{names_of, distinct, scope_if_any, has_body, function_scopes, scopes, names, joined, begins, reaches, flags, bindings, scope_count, first_at, at_of}
use Rattle.parse_track.specs.Pruned.{is_plain, lone, free_uses, pruned}
use Rattle.parse_track.proofs.Walk.{false_is_true}
use Rattle.parse_track.proofs.LoneFunctions.{and_left, and_right, either_same, either_by, plain_begins, plain_function, plain_apart, free_reaches}

-- the free uses declare nothing, and nothing is bound among them
pub free_directly : (how : Declare → Bool) (known : KnownNames ℕ) (t : Told ℕ) (bound : List ℕ) (rest : Told ℕ) → directly how (free_uses known bound t rest) ≡ directly how rest
free_directly how known nothing bound rest = refl
free_directly how known (leaf (Declared _ _) t) bound rest = free_directly how known t bound rest
free_directly how known (leaf (Jumped _ _ _) t) bound rest = free_directly how known t bound rest
free_directly how known (leaf (Used y) t) bound rest =
    either_same (directly how) (has nat_eq y bound) (free_uses known bound t rest) (leaf (Used y) (free_uses known bound t rest)) (directly how rest) (free_directly how known t bound rest) (free_directly how known t bound rest)
free_directly how known (inner k at i t) bound rest = free_directly how known i (names nat_eq known k i ++ bound) (free_uses known bound t rest) ∙ free_directly how known t bound rest

pub free_vars : (known : KnownNames ℕ) (t : Told ℕ) (bound : List ℕ) (rest : Told ℕ) → vars (free_uses known bound t rest) ≡ vars rest
free_vars known nothing bound rest = refl
free_vars known (leaf (Declared _ _) t) bound rest = free_vars known t bound rest
free_vars known (leaf (Jumped _ _ _) t) bound rest = free_vars known t bound rest
free_vars known (leaf (Used y) t) bound rest =
    either_same (λ (x : Told ℕ). vars x) (has nat_eq y bound) (free_uses known bound t rest) (leaf (Used y) (free_uses known bound t rest)) (vars rest) (free_vars known t bound rest) (free_vars known t bound rest)
free_vars known (inner k at i t) bound rest = free_vars known i (names nat_eq known k i ++ bound) (free_uses known bound t rest) ∙ free_vars known t bound rest

pub free_body : (known : KnownNames ℕ) (t : Told ℕ) (bound : List ℕ) (rest : Told ℕ) → has_body (free_uses known bound t rest) ≡ has_body rest
free_body known nothing bound rest = refl
free_body known (leaf (Declared _ _) t) bound rest = free_body known t bound rest
free_body known (leaf (Jumped _ _ _) t) bound rest = free_body known t bound rest
free_body known (leaf (Used y) t) bound rest =
    either_same (λ (x : Told ℕ). has_body x) (has nat_eq y bound) (free_uses known bound t rest) (leaf (Used y) (free_uses known bound t rest)) (has_body rest) (free_body known t bound rest) (free_body known t bound rest)
free_body known (inner k at i t) bound rest = free_body known i (names nat_eq known k i ++ bound) (free_uses known bound t rest) ∙ free_body known t bound rest

pub free_flags : (known : KnownNames ℕ) (t : Told ℕ) (bound : List ℕ) (rest : Told ℕ) → flags nat_eq known (free_uses known bound t rest) ≡ flags nat_eq known rest
free_flags known nothing bound rest = refl
free_flags known (leaf (Declared _ _) t) bound rest = free_flags known t bound rest
free_flags known (leaf (Jumped _ _ _) t) bound rest = free_flags known t bound rest
free_flags known (leaf (Used y) t) bound rest =
    either_same (flags nat_eq known) (has nat_eq y bound) (free_uses known bound t rest) (leaf (Used y) (free_uses known bound t rest)) (flags nat_eq known rest) (free_flags known t bound rest) (free_flags known t bound rest)
free_flags known (inner k at i t) bound rest = free_flags known i (names nat_eq known k i ++ bound) (free_uses known bound t rest) ∙ free_flags known t bound rest

module _ (named : Bool) (func : Option ℕ) (scope : ℕ) where
  pub free_bindings : (known : KnownNames ℕ) (t : Told ℕ) (bound : List ℕ) (rest : Told ℕ)
      → bindings nat_eq known named func scope (free_uses known bound t rest) ≡ bindings nat_eq known named func scope rest
  free_bindings known nothing bound rest = refl
  free_bindings known (leaf (Declared _ _) t) bound rest = free_bindings known t bound rest
  free_bindings known (leaf (Jumped _ _ _) t) bound rest = free_bindings known t bound rest
  free_bindings known (leaf (Used y) t) bound rest =
      either_same (bindings nat_eq known named func scope) (has nat_eq y bound) (free_uses known bound t rest) (leaf (Used y) (free_uses known bound t rest)) (bindings nat_eq known named func scope rest) (free_bindings known t bound rest) (free_bindings known t bound rest)
  free_bindings known (inner k at i t) bound rest = free_bindings known i (names nat_eq known k i ++ bound) (free_uses known bound t rest) ∙ free_bindings known t bound rest

-- an arrow with free uses alone has one scope, without a name
pub free_scopes : (known : KnownNames ℕ) (t : Told ℕ) (bound : List ℕ) → scopes nat_eq known Arrow (free_uses known bound t nothing) ≡ [] ∷ []
free_scopes known t bound =
    ap (λ (b : Bool). function_scopes nat_eq [] b u) (free_body known t bound nothing)
    ∙ (ap (λ (xs : List (Name ℕ)). distinct nat_eq (names_of xs ++ names_of (vars u) ++ []) ∷ scope_if_any (distinct nat_eq (names_of (directly is_lexical u)))) (free_directly is_param known t bound nothing)
    ∙ (ap (λ (xs : List (Name ℕ)). distinct nat_eq (names_of xs ++ []) ∷ scope_if_any (distinct nat_eq (names_of (directly is_lexical u)))) (free_vars known t bound nothing)
    ∙ ap (λ (xs : List (Name ℕ)). [] ∷ scope_if_any (distinct nat_eq (names_of xs))) (free_directly is_lexical known t bound nothing)))
  where
    u : Told ℕ
    u = free_uses known bound t nothing

pub free_names : (known : KnownNames ℕ) (t : Told ℕ) (bound : List ℕ) → names nat_eq known Arrow (free_uses known bound t nothing) ≡ []
free_names known t bound = ap (λ (xss : List (List ℕ)). joined xss) (free_scopes known t bound)

-- what is told pruned
pub pruned_directly : (how : Declare → Bool) (known : KnownNames ℕ) (t : Told ℕ) (named : Bool) → directly how (pruned known named t) ≡ directly how t
pruned_directly how known nothing named = refl
pruned_directly how known (leaf l t) named = ap (λ (xs : List (Name ℕ)). declared_by how l ++ xs) (pruned_directly how known t named)
pruned_directly how known (inner k at i t) named =
    either_same (directly how) (is_plain named k && lone i) (inner Arrow at (free_uses known (names nat_eq known k i) i nothing) (pruned known named t)) (inner k at (pruned known (is_lambda k) i) (pruned known named t)) (directly how t) (pruned_directly how known t named) (pruned_directly how known t named)

function_stops : (k : Region ℕ) → is_function k ≡ true → stops_vars k ≡ true
function_stops Script e = refl
function_stops Function e = refl
function_stops Arrow e = refl
function_stops VarBody e = refl
function_stops (Lambda _) e = absurd (false_is_true e)
function_stops Block e = absurd (false_is_true e)
function_stops Switch e = absurd (false_is_true e)
function_stops ForHead e = absurd (false_is_true e)
function_stops Catch e = absurd (false_is_true e)
function_stops Loop e = absurd (false_is_true e)
function_stops (Label _) e = absurd (false_is_true e)

function_no_body : (k : Region ℕ) → is_function k ≡ true → is_body k ≡ false
function_no_body Script e = refl
function_no_body Function e = refl
function_no_body Arrow e = refl
function_no_body VarBody e = absurd (false_is_true e)
function_no_body (Lambda _) e = refl
function_no_body Block e = refl
function_no_body Switch e = refl
function_no_body ForHead e = refl
function_no_body Catch e = refl
function_no_body Loop e = refl
function_no_body (Label _) e = refl

vars_there : (known : KnownNames ℕ) (named : Bool) (k : Region ℕ) (at : ℕ) (i t : Told ℕ) → vars (pruned known (is_lambda k) i) ≡ vars i → vars (pruned known named t) ≡ vars t
    → vars (pruned known named (inner k at i t)) ≡ cond (stops_vars k) [] (vars i) ++ vars t
vars_there known named k at i t f g =
    either_by (λ (x : Told ℕ). vars x) (is_plain named k && lone i) (inner Arrow at (free_uses known (names nat_eq known k i) i nothing) (pruned known named t)) (inner k at (pruned known (is_lambda k) i) (pruned known named t)) (cond (stops_vars k) [] (vars i) ++ vars t)
    (λ e. g ∙ ap (λ (b : Bool). cond b [] (vars i) ++ vars t) (sym (function_stops k (plain_function named k (and_left (is_plain named k) (lone i) e)))))
    (λ e. ap (λ (xs : List (Name ℕ)). cond (stops_vars k) [] xs ++ vars (pruned known named t)) f ∙ ap (λ (xs : List (Name ℕ)). cond (stops_vars k) [] (vars i) ++ xs) g)

pub pruned_vars : (known : KnownNames ℕ) (t : Told ℕ) (named : Bool) → vars (pruned known named t) ≡ vars t
pruned_vars known nothing named = refl
pruned_vars known (leaf l t) named = ap (λ (xs : List (Name ℕ)). declared_by is_var l ++ xs) (pruned_vars known t named)
pruned_vars known (inner k at i t) named =
    vars_there known named k at i t (pruned_vars known i (is_lambda k)) (pruned_vars known t named)

body_there : (known : KnownNames ℕ) (named : Bool) (k : Region ℕ) (at : ℕ) (i t : Told ℕ) → has_body (pruned known named t) ≡ has_body t
    → has_body (pruned known named (inner k at i t)) ≡ (is_body k || has_body t)
body_there known named k at i t g =
    either_by (λ (x : Told ℕ). has_body x) (is_plain named k && lone i) (inner Arrow at (free_uses known (names nat_eq known k i) i nothing) (pruned known named t)) (inner k at (pruned known (is_lambda k) i) (pruned known named t)) (is_body k || has_body t)
    (λ e. g ∙ ap (λ (b : Bool). b || has_body t) (sym (function_no_body k (plain_function named k (and_left (is_plain named k) (lone i) e)))))
    (λ e. ap (λ (b : Bool). is_body k || b) g)

pub pruned_body : (known : KnownNames ℕ) (t : Told ℕ) (named : Bool) → has_body (pruned known named t) ≡ has_body t
pruned_body known nothing named = refl
pruned_body known (leaf l t) named = pruned_body known t named
pruned_body known (inner k at i t) named = body_there known named k at i t (pruned_body known t named)

pub pruned_first : (known : KnownNames ℕ) (t : Told ℕ) (named : Bool) (at : ℕ) → first_at at (pruned known named t) ≡ first_at at t
pruned_first known nothing named at = refl
pruned_first known (leaf l t) named at = pruned_first known t named at
pruned_first known (inner k there i t) named at =
    either_same (first_at at) (is_plain named k && lone i) (inner Arrow there (free_uses known (names nat_eq known k i) i nothing) (pruned known named t)) (inner k there (pruned known (is_lambda k) i) (pruned known named t)) there refl refl

pub pruned_at : (known : KnownNames ℕ) (k : Region ℕ) (at : ℕ) (i : Told ℕ) (named : Bool) → at_of k at (pruned known named i) ≡ at_of k at i
pruned_at known (Lambda _) at i named = pruned_first known i named at
pruned_at known Script at i named = refl
pruned_at known Function at i named = refl
pruned_at known Arrow at i named = refl
pruned_at known Block at i named = refl
pruned_at known Switch at i named = refl
pruned_at known ForHead at i named = refl
pruned_at known Catch at i named = refl
pruned_at known Loop at i named = refl
pruned_at known (Label _) at i named = refl
pruned_at known VarBody at i named = refl

module _ (known : KnownNames ℕ) (named : Bool) (i : Told ℕ) where
  lexical_same : scope_if_any (distinct nat_eq (names_of (directly is_lexical (pruned known named i)))) ≡ scope_if_any (distinct nat_eq (names_of (directly is_lexical i)))
  lexical_same = ap (λ (xs : List (Name ℕ)). scope_if_any (distinct nat_eq (names_of xs))) (pruned_directly is_lexical known i named)

  function_same : (implicit : List ℕ) (b : Bool) → function_scopes nat_eq implicit b (pruned known named i) ≡ function_scopes nat_eq implicit b i
  function_same implicit true = ap (λ (xs : List (Name ℕ)). distinct nat_eq (names_of xs ++ implicit) ∷ []) (pruned_directly is_param known i named)
  function_same implicit false =
      ap (λ (xs : List (Name ℕ)). distinct nat_eq (names_of xs ++ names_of (vars (pruned known named i)) ++ implicit) ∷ scope_if_any (distinct nat_eq (names_of (directly is_lexical (pruned known named i))))) (pruned_directly is_param known i named)
      ∙ (ap (λ (xs : List (Name ℕ)). distinct nat_eq (names_of (directly is_param i) ++ names_of xs ++ implicit) ∷ scope_if_any (distinct nat_eq (names_of (directly is_lexical (pruned known named i))))) (pruned_vars known i named)
      ∙ ap (λ (xss : List (List ℕ)). distinct nat_eq (names_of (directly is_param i) ++ names_of (vars i) ++ implicit) ∷ xss) lexical_same)

  function_scopes_same : (implicit : List ℕ) → function_scopes nat_eq implicit (has_body (pruned known named i)) (pruned known named i) ≡ function_scopes nat_eq implicit (has_body i) i
  function_scopes_same implicit = ap (λ (b : Bool). function_scopes nat_eq implicit b (pruned known named i)) (pruned_body known i named) ∙ function_same implicit (has_body i)

  pub pruned_scopes : (k : Region ℕ) → scopes nat_eq known k (pruned known named i) ≡ scopes nat_eq known k i
  pruned_scopes Script =
      ap (λ (xs : List (Name ℕ)). distinct nat_eq (names_of xs ++ names_of (directly is_lexical (pruned known named i))) ∷ []) (pruned_vars known i named)
      ∙ ap (λ (xs : List (Name ℕ)). distinct nat_eq (names_of (vars i) ++ names_of xs) ∷ []) (pruned_directly is_lexical known i named)
  pruned_scopes Function = function_scopes_same (known.arguments ∷ known.this ∷ [])
  pruned_scopes Arrow = function_scopes_same []
  pruned_scopes (Lambda _) = refl
  pruned_scopes Block = lexical_same
  pruned_scopes Switch = lexical_same
  pruned_scopes ForHead = lexical_same
  pruned_scopes Catch = ap (λ (xs : List (Name ℕ)). scope_if_any (distinct nat_eq (names_of xs))) (pruned_directly is_catch_param known i named)
  pruned_scopes VarBody =
      ap (λ (xs : List (Name ℕ)). scope_if_any (distinct nat_eq (names_of xs)) ++ scope_if_any (distinct nat_eq (names_of (directly is_lexical (pruned known named i))))) (pruned_vars known i named)
      ∙ ap (λ (xss : List (List ℕ)). scope_if_any (distinct nat_eq (names_of (vars i))) ++ xss) lexical_same
  pruned_scopes Loop = refl
  pruned_scopes (Label _) = refl

  pub pruned_names : (k : Region ℕ) → names nat_eq known k (pruned known named i) ≡ names nat_eq known k i
  pruned_names k = ap (λ (xss : List (List ℕ)). joined xss) (pruned_scopes k)

-- how many scopes of the function itself
behind_function : (b c : Bool) (n m : ℕ) → b ≡ true → c ≡ true → cond b 0 n ≡ cond c 0 m
behind_function true true n m e f = refl
behind_function false c n m e f = absurd (false_is_true e)
behind_function true false n m e f = absurd (false_is_true f)

pub arrow_begins : (named : Bool) → not named ≡ true → begins {A = ℕ} named Arrow ≡ true
arrow_begins true e = absurd (false_is_true e)
arrow_begins false e = refl

module _ (known : KnownNames ℕ) (named : Bool) (k : Region ℕ) (at : ℕ) (i t : Told ℕ) where
  abbrev uses_of : Told ℕ
  uses_of = free_uses known (names nat_eq known k i) i nothing

  count_there : scope_count nat_eq known (is_lambda k) (pruned known (is_lambda k) i) ≡ scope_count nat_eq known (is_lambda k) i → scope_count nat_eq known named (pruned known named t) ≡ scope_count nat_eq known named t
      → scope_count nat_eq known named (pruned known named (inner k at i t))
      ≡ cond (begins named k) 0 (length (scopes nat_eq known k i) + scope_count nat_eq known (is_lambda k) i) + scope_count nat_eq known named t
  count_there f g =
      either_by (scope_count nat_eq known named) (is_plain named k && lone i) (inner Arrow at uses_of (pruned known named t)) (inner k at (pruned known (is_lambda k) i) (pruned known named t))
      (cond (begins named k) 0 (length (scopes nat_eq known k i) + scope_count nat_eq known (is_lambda k) i) + scope_count nat_eq known named t)
      (λ e.
      let p = and_left (is_plain named k) (lone i) e in
      ap (λ (n : ℕ). cond (begins {A = ℕ} named Arrow) 0 (length (scopes nat_eq known Arrow uses_of) + scope_count nat_eq known false uses_of) + n) g
      ∙ ap (λ (n : ℕ). n + scope_count nat_eq known named t)
      (behind_function (begins {A = ℕ} named Arrow) (begins named k) (length (scopes nat_eq known Arrow uses_of) + scope_count nat_eq known false uses_of) (length (scopes nat_eq known k i) + scope_count nat_eq known (is_lambda k) i)
      (arrow_begins named (plain_apart named k p)) (plain_begins named k p)))
      (λ e.
      ap (λ (xss : List (List ℕ)). cond (begins named k) 0 (length xss + scope_count nat_eq known (is_lambda k) (pruned known (is_lambda k) i)) + scope_count nat_eq known named (pruned known named t)) (pruned_scopes known (is_lambda k) i k)
      ∙ (ap (λ (n : ℕ). cond (begins named k) 0 (length (scopes nat_eq known k i) + n) + scope_count nat_eq known named (pruned known named t)) f
      ∙ ap (λ (n : ℕ). cond (begins named k) 0 (length (scopes nat_eq known k i) + scope_count nat_eq known (is_lambda k) i) + n) g))

pub pruned_count : (known : KnownNames ℕ) (t : Told ℕ) (named : Bool) → scope_count nat_eq known named (pruned known named t) ≡ scope_count nat_eq known named t
pruned_count known nothing named = refl
pruned_count known (leaf l t) named = pruned_count known t named
pruned_count known (inner k at i t) named = count_there known named k at i t (pruned_count known i (is_lambda k)) (pruned_count known t named)

-- which uses reach a name
or_none : (b : Bool) → (b || false) ≡ b
or_none true = refl
or_none false = refl

or_yes : (b : Bool) → (b || true) ≡ true
or_yes true = refl
or_yes false = refl

module _ (known : KnownNames ℕ) (named : Bool) (k : Region ℕ) (at : ℕ) (i t : Told ℕ) (inside : Bool) (x : ℕ) where
  abbrev uses_in : Told ℕ
  uses_in = free_uses known (names nat_eq known k i) i nothing

  reaches_there : reaches nat_eq known (is_lambda k) (inside || begins named k) x (pruned known (is_lambda k) i) ≡ reaches nat_eq known (is_lambda k) (inside || begins named k) x i
      → reaches nat_eq known named inside x (pruned known named t) ≡ reaches nat_eq known named inside x t
      → reaches nat_eq known named inside x (pruned known named (inner k at i t))
      ≡ ((not (has nat_eq x (names nat_eq known k i)) && reaches nat_eq known (is_lambda k) (inside || begins named k) x i) || reaches nat_eq known named inside x t)
  reaches_there f g =
      either_by (reaches nat_eq known named inside x) (is_plain named k && lone i) (inner Arrow at uses_in (pruned known named t)) (inner k at (pruned known (is_lambda k) i) (pruned known named t))
      ((not (has nat_eq x (names nat_eq known k i)) && reaches nat_eq known (is_lambda k) (inside || begins named k) x i) || reaches nat_eq known named inside x t)
      (λ e.
      let p = and_left (is_plain named k) (lone i) e in
      let l = and_right (is_plain named k) (lone i) e in
      ap (λ (b : Bool). (not (has nat_eq x (names nat_eq known Arrow uses_in)) && reaches nat_eq known false (inside || begins {A = ℕ} named Arrow) x uses_in) || b) g
      ∙ ap (λ (b : Bool). b || reaches nat_eq known named inside x t)
      (ap (λ (xs : List ℕ). not (has nat_eq x xs) && reaches nat_eq known false (inside || begins {A = ℕ} named Arrow) x uses_in) (free_names known i (names nat_eq known k i))
      ∙ (ap (λ (b : Bool). reaches nat_eq known false (inside || b) x uses_in) (arrow_begins named (plain_apart named k p))
      ∙ (ap (λ (b : Bool). reaches nat_eq known false b x uses_in) (or_yes inside)
      ∙ (free_reaches known i (is_lambda k) false (names nat_eq known k i) x nothing l
      ∙ (or_none (not (has nat_eq x (names nat_eq known k i)) && reaches nat_eq known (is_lambda k) true x i)
      ∙ (ap (λ (b : Bool). not (has nat_eq x (names nat_eq known k i)) && reaches nat_eq known (is_lambda k) b x i) (sym (or_yes inside))
      ∙ ap (λ (b : Bool). not (has nat_eq x (names nat_eq known k i)) && reaches nat_eq known (is_lambda k) (inside || b) x i) (sym (plain_begins named k p)))))))))
      (λ e.
      ap (λ (b : Bool). (not (has nat_eq x (names nat_eq known k (pruned known (is_lambda k) i))) && reaches nat_eq known (is_lambda k) (inside || begins named k) x (pruned known (is_lambda k) i)) || b) g
      ∙ (ap (λ (xs : List ℕ). (not (has nat_eq x xs) && reaches nat_eq known (is_lambda k) (inside || begins named k) x (pruned known (is_lambda k) i)) || reaches nat_eq known named inside x t) (pruned_names known (is_lambda k) i k)
      ∙ ap (λ (b : Bool). (not (has nat_eq x (names nat_eq known k i)) && b) || reaches nat_eq known named inside x t) f))

pub pruned_reaches : (known : KnownNames ℕ) (t : Told ℕ) (named inside : Bool) (x : ℕ) → reaches nat_eq known named inside x (pruned known named t) ≡ reaches nat_eq known named inside x t
pruned_reaches known nothing named inside x = refl
pruned_reaches known (leaf (Used y) t) named inside x = ap (λ (b : Bool). (inside && nat_eq x y) || b) (pruned_reaches known t named inside x)
pruned_reaches known (leaf (Declared _ _) t) named inside x = pruned_reaches known t named inside x
pruned_reaches known (leaf (Jumped _ _ _) t) named inside x = pruned_reaches known t named inside x
pruned_reaches known (inner k at i t) named inside x =
    reaches_there known named k at i t inside x (pruned_reaches known i (is_lambda k) (inside || begins named k) x) (pruned_reaches known t named inside x)
