-- The early errors of ECMA-262's static semantics that speak of names, regions and jumps, each as the list of
-- the offsets where a script has it, and the first early error.
use Rattle.std.specs.Prelude.{ℕ, max, min, Bool, true, false, cond, ◌||◌, ◌&&◌, nat_eq, nat_lt, Option, None, Some, List, [], ◌∷◌, ◌++◌}
use Rattle.std.specs.List.{list_any}
use Rattle.parse_track.specs.declared.region.Early.{Early}
use Rattle.parse_track.specs.declared.region.Jump.TheVariants.{Break, Continue}
use Rattle.parse_track.specs.Told.{Name, Region, Script, Function, Arrow, Lambda, Block, Switch, ForHead, Catch, Loop, Label, VarBody}
use Rattle.parse_track.specs.Told.{Leaf, Declared, Used, Jumped, Told, nothing, leaf, inner, KnownNames}
use Rattle.parse_track.specs.RegionNames.{is_lexical, is_param, is_catch_param, is_head, is_block, is_body, directly, vars, lexical_below}

-- whether a name is among these
abbrev pub has_name : {A : Type 0} → (A → A → Bool) → A → List (Name A) → Bool
has_name same x ys = list_any (λ y. same x y.name) ys

abbrev pub has : {A : Type 0} → (A → A → Bool) → A → List A → Bool
has same x ys = list_any (same x) ys

-- the offset of each name that stands before it too, or in the list in front of all
abbrev pub repeated : {A : Type 0} → (A → A → Bool) → List (Name A) → List (Name A) → List ℕ
repeated same before [] = []
repeated same before (x ∷ xs) = cond (has_name same x.name before) (x.at ∷ []) [] ++ repeated same (before ++ x ∷ []) xs

-- the offset of each name of the second list that the first has
abbrev pub also_in : {A : Type 0} → (A → A → Bool) → List (Name A) → List (Name A) → List ℕ
also_in same xs [] = []
also_in same xs (y ∷ ys) = cond (has_name same y.name xs) (y.at ∷ []) [] ++ also_in same xs ys

-- of each pair of equal names of the two lists, the offset of the later one
abbrev pub later_of : {A : Type 0} → (A → A → Bool) → Name A → List (Name A) → List ℕ
later_of same x [] = []
later_of same x (y ∷ ys) = cond (same x.name y.name) (max x.at y.at ∷ []) [] ++ later_of same x ys

abbrev pub later : {A : Type 0} → (A → A → Bool) → List (Name A) → List (Name A) → List ℕ
later same [] ys = []
later same (x ∷ xs) ys = later_of same x ys ++ later same xs ys

-- a rule on one region, at each region
abbrev pub at_regions : {A : Type 0} → (Region A → Told A → List ℕ) → Told A → List ℕ
at_regions rule nothing = []
at_regions rule (leaf l t) = at_regions rule t
at_regions rule (inner k at i t) = rule k i ++ (at_regions rule i ++ at_regions rule t)

-- Rule 1: two equal lexical names of one region; at the later name. ECMA-262, 14.2.1, 14.12.1, 14.7.4.1, 15.2.1, 16.1.1.
abbrev pub twice_lexical : {A : Type 0} → (A → A → Bool) → Region A → Told A → List ℕ
twice_lexical same k i = repeated same [] (directly is_lexical i)

-- Rule 2: a lexical name that equals a var name of the same region, which is no head of a for statement; at the
-- later name. ECMA-262, 14.2.1, 14.12.1, 15.2.1, 16.1.1.
abbrev pub lexical_and_var : {A : Type 0} → (A → A → Bool) → Region A → Told A → List ℕ
lexical_and_var same k i = cond (is_head k) [] (later same (directly is_lexical i) (vars i))

-- Rule 3: a name that `let` or `const` declares in the head of a for statement and that equals a var name of the
-- loop's body; at the var name. ECMA-262, 14.7.4.1, 14.7.5.1.
abbrev pub head_and_var : {A : Type 0} → (A → A → Bool) → Region A → Told A → List ℕ
head_and_var same k i = cond (is_head k) (also_in same (directly is_lexical i) (vars i)) []

-- Rule 4: a parameter of a catch clause that equals a lexical name of its block; at the lexical name.
-- ECMA-262, 14.15.1; that a var name may equal it is B.3.5.
abbrev pub catch_and_lexical : {A : Type 0} → (A → A → Bool) → Region A → Told A → List ℕ
catch_and_lexical same k i = also_in same (directly is_catch_param i) (lexical_below is_block i)

-- Rule 5: a parameter that equals a lexical name of the function's body; at the lexical name. ECMA-262, 15.2.1, 15.3.1.
abbrev pub param_and_lexical : {A : Type 0} → (A → A → Bool) → Region A → Told A → List ℕ
param_and_lexical same k i = also_in same (directly is_param i) (directly is_lexical i ++ lexical_below is_body i)

-- Rule 6: two equal parameters; at the later one. ECMA-262, 15.1.1 for strict code, 15.3.1, 15.4.1.
abbrev pub twice_param : {A : Type 0} → (A → A → Bool) → Region A → Told A → List ℕ
twice_param same k i = repeated same [] (directly is_param i)

-- Rule 9: a name that is bound is `eval` or `arguments`; at the name. ECMA-262, 13.1.1.
abbrev pub reserved : {A : Type 0} → (A → A → Bool) → KnownNames A → List (Name A) → List ℕ
reserved same known [] = []
reserved same known (x ∷ xs) = cond (same x.name known.eval || same x.name known.arguments) (x.at ∷ []) [] ++ reserved same known xs

abbrev pub lambda_name : {A : Type 0} → Region A → List (Name A)
lambda_name (Lambda name) = name ∷ []
lambda_name _ = []

abbrev pub binds_reserved : {A : Type 0} → (A → A → Bool) → KnownNames A → Region A → Told A → List ℕ
binds_reserved same known k i = reserved same known (lambda_name k ++ directly (λ _. true) i)

-- What a jump finds around it in its function: whether a loop, whether a loop or a switch, the labels, and those
-- of them that label a loop.
pub record JumpContext (A : Type 0) : Type 0 where
  pub loop : Bool
  pub leaves : Bool
  pub labels : List A
  pub loops : List A

abbrev pub nothing_around : {A : Type 0} → JumpContext A
nothing_around = record { loop = false; leaves = false; labels = []; loops = [] }

-- a label labels a loop where the statement after it is one, also through further labels: LabelSet of ECMA-262, 14.13.4
abbrev pub is_loop : {A : Type 0} → Told A → Bool
is_loop nothing = false
is_loop (leaf _ _) = false
is_loop (inner Loop _ _ _) = true
is_loop (inner (Label _) _ i _) = is_loop i
is_loop (inner _ _ _ _) = false

-- what is around inside a region
abbrev pub within : {A : Type 0} → Region A → Told A → JumpContext A → JumpContext A
within Script i around = nothing_around
within Function i around = nothing_around
within Arrow i around = nothing_around
within Loop i around = record around { loop = true; leaves = true }
within Switch i around = record around { leaves = true }
within (Label name) i around = record around {
  labels = around.labels ++ name.name ∷ [];
  loops = around.loops
      ++ cond (is_loop i) (name.name ∷ []) [];
}
within (Lambda _) i around = around
within Block i around = around
within ForHead i around = around
within Catch i around = around
within VarBody i around = around

-- Rule 11: at the keyword, a `break` without a label outside loop and switch, and a `continue` outside a loop; at the
-- label's name, a `break` whose label is not around and a `continue` whose label is that of no loop around; and a label
-- inside the same label, at the inner name. ECMA-262, 14.8.1, 14.9.1, 14.13.1.
abbrev pub wrong_jump : {A : Type 0} → (A → A → Bool) → JumpContext A → Leaf A → List ℕ
wrong_jump same around (Declared _ _) = []
wrong_jump same around (Used _) = []
wrong_jump same around (Jumped Break at None) = cond around.leaves [] (at ∷ [])
wrong_jump same around (Jumped Continue at None) = cond around.loop [] (at ∷ [])
wrong_jump same around (Jumped Break at (Some label)) = cond (has same label.name around.labels) [] (label.at ∷ [])
wrong_jump same around (Jumped Continue at (Some label)) = cond around.loop [] (at ∷ []) ++ cond (has same label.name around.loops) [] (label.at ∷ [])

abbrev pub wrong_label : {A : Type 0} → (A → A → Bool) → JumpContext A → Region A → List ℕ
wrong_label same around (Label name) = cond (has same name.name around.labels) (name.at ∷ []) []
wrong_label same around _ = []

abbrev pub wrong_jumps : {A : Type 0} → (A → A → Bool) → JumpContext A → Told A → List ℕ
wrong_jumps same around nothing = []
wrong_jumps same around (leaf l t) = wrong_jump same around l ++ wrong_jumps same around t
wrong_jumps same around (inner k at i t) =
    wrong_label same around k ++ (wrong_jumps same (within k i around) i ++ wrong_jumps same around t)

-- the smallest of some offsets
abbrev pub smaller : Option ℕ → Option ℕ → Option ℕ
smaller None y = y
smaller (Some x) None = Some x
smaller (Some x) (Some y) = Some (min x y)

abbrev pub smallest : List ℕ → Option ℕ
smallest [] = None
smallest (x ∷ xs) = smaller (Some x) (smallest xs)

-- of two early errors the one of smaller offset, of equal offsets the one of smaller rule
abbrev pub is_sooner : Early → Early → Bool
is_sooner x y = nat_lt x.offset y.offset || (nat_eq x.offset y.offset && nat_lt x.rule y.rule)

abbrev pub sooner : Option Early → Option Early → Option Early
sooner None y = y
sooner (Some x) None = Some x
sooner (Some x) (Some y) = cond (is_sooner y x) (Some y) (Some x)

-- an early error of a rule, at an offset where there is one
abbrev pub error_of : ℕ → Option ℕ → Option Early
error_of rule None = None
error_of rule (Some offset) = Some (record { offset = offset; rule = rule })

-- The first early error: the one of smallest offset, then of smallest rule. Rules 7, 8, 10, 12, 13 and 14 look at
-- no region; the first of those that were noted is handed in.
abbrev pub first_error : {A : Type 0} → (A → A → Bool) → KnownNames A → Option Early → Told A → Option Early
first_error same known noted t =
    sooner noted (
    sooner (error_of 1 (smallest (at_regions (twice_lexical same) t))) (
    sooner (error_of 2 (smallest (at_regions (lexical_and_var same) t))) (
    sooner (error_of 3 (smallest (at_regions (head_and_var same) t))) (
    sooner (error_of 4 (smallest (at_regions (catch_and_lexical same) t))) (
    sooner (error_of 5 (smallest (at_regions (param_and_lexical same) t))) (
    sooner (error_of 6 (smallest (at_regions (twice_param same) t))) (
    sooner (error_of 9 (smallest (at_regions (binds_reserved same known) t)))
    (error_of 11 (smallest (wrong_jumps same nothing_around t))))))))))
