-- A walk over a list, item by item: of what was found and of what the rest has, the first is that of the whole.
use Rattle.std.proofs.Common.{◌≡◌, ℕ, ◌+◌, ◌<◌, Bool, true, false, cond, ◌||◌, Option, None, List, ◌∷◌, map, length, drop, get_or, refl, sym, ap, ◌∙◌, add-one}
use Rattle.std.proofs.Math.Seq.{drop-cons}
use Rattle.script_grammar.specs.declared.node.NodeParam.{NodeParam}
use Rattle.parse_track.specs.declared.region.Early.{Early}
use Rattle.parse_track.specs.EarlyErrors.{smaller, sooner}
use Rattle.parse_track.specs.Notes.{first_note, is_proto, proto_error}
use Rattle.parse_track.proofs.Smallest.{smaller_assoc}
use Rattle.parse_early_handler.specs.declared.nodes.PropErrors.{PropErrors}
use Rattle.parse_early_handler.specs.declared.nodes.StmtErrors.{StmtErrors}
use Rattle.parse_early_handler.specs.Directives.{ends, strict_at}
use Rattle.parse_early_handler.specs.Firsts.{are_more, first_of, is_more, protos_first, strict_first}
use Rattle.parse_early_handler.proofs.Sooner.{sooner_assoc}

-- the item at an index, and those after it; `none` is any item
pub next_at : {A : Type 0} (xs : List A) (k : ℕ) (none : A) → k < length xs → drop k xs ≡ get_or xs k none ∷ drop (k + 1) xs
next_at xs k none lt = drop-cons xs k none lt ∙ ap (λ (n : ℕ). get_or xs k none ∷ drop n xs) (sym (add-one k))

pub next_of : {A : Type 0} (xs : List A) (k : ℕ) (x : A) → k < length xs → x ≡ get_or xs k x → drop k xs ≡ x ∷ drop (k + 1) xs
next_of {A} xs k x lt is = next_at xs k x lt ∙ ap (λ (y : A). y ∷ drop (k + 1) xs) (sym is)

-- the first early error of several parts
pub first_on : {A : Type 0} (first : A → Option Early) (xs : List A) (k : ℕ) (x : A) (before error now all : Option Early) → drop k xs ≡ x ∷ drop (k + 1) xs
    → error ≡ first x → now ≡ sooner before error → sooner before (first_of (map first (drop k xs))) ≡ all → sooner now (first_of (map first (drop (k + 1) xs))) ≡ all
first_on {A} first xs k x before error now all next e n h =
    let rest : Option Early = first_of (map first (drop (k + 1) xs)) in
    ap (λ (o : Option Early). sooner o rest) (n ∙ ap (sooner before) e)
    ∙ (sym (sooner_assoc before (first x) rest) ∙ (ap (λ (ys : List A). sooner before (first_of (map first ys))) (sym next) ∙ h))

-- properties that set the prototype
pub protos_on : (xs : List PropErrors) (k : ℕ) (x : PropErrors) (seen later : Bool) (before error now all : Option Early) → drop k xs ≡ x ∷ drop (k + 1) xs
    → error ≡ first_note (proto_error seen x.proto) → now ≡ sooner before error → later ≡ seen || is_proto x.proto
    → sooner before (protos_first seen (drop k xs)) ≡ all → sooner now (protos_first later (drop (k + 1) xs)) ≡ all
protos_on xs k x seen later before error now all next e n l h =
    let rest : Option Early = protos_first (seen || is_proto x.proto) (drop (k + 1) xs) in
    ap (λ (b : Bool). sooner now (protos_first b (drop (k + 1) xs))) l
    ∙ (ap (λ (o : Option Early). sooner o rest) (n ∙ ap (sooner before) e)
    ∙ (sym (sooner_assoc before (first_note (proto_error seen x.proto)) rest) ∙ (ap (λ (ys : List PropErrors). sooner before (protos_first seen ys)) (sym next) ∙ h)))

-- directives
strict_step : (b : Bool) (o rest : Option ℕ) → b ≡ false → cond b None (smaller o rest) ≡ smaller o rest
strict_step true o rest e = absurd (cc)
strict_step false o rest e = refl

strict_stop : (b : Bool) (o : Option ℕ) → b ≡ true → cond b None o ≡ None
strict_stop true o e = refl
strict_stop false o e = absurd (cc)

pub strict_on : (xs : List StmtErrors) (k : ℕ) (x : StmtErrors) (b : Bool) (before at now all : Option ℕ) → drop k xs ≡ x ∷ drop (k + 1) xs
    → b ≡ ends x.directive → b ≡ false → at ≡ strict_at x.directive → now ≡ smaller before at
    → smaller before (strict_first (drop k xs)) ≡ all → smaller now (strict_first (drop (k + 1) xs)) ≡ all
strict_on xs k x b before at now all next d f e n h =
    let rest : Option ℕ = strict_first (drop (k + 1) xs) in
    ap (λ (o : Option ℕ). smaller o rest) (n ∙ ap (smaller before) e)
    ∙ (sym (smaller_assoc before (strict_at x.directive) rest)
    ∙ (ap (smaller before) (sym (strict_step (ends x.directive) (strict_at x.directive) rest (sym d ∙ f)))
    ∙ (ap (λ (ys : List StmtErrors). smaller before (strict_first ys)) (sym next) ∙ h)))

pub strict_ends : (xs : List StmtErrors) (k : ℕ) (x : StmtErrors) (b : Bool) → drop k xs ≡ x ∷ drop (k + 1) xs → b ≡ ends x.directive → b ≡ true → strict_first (drop k xs) ≡ None
strict_ends xs k x b next d t =
    ap strict_first next ∙ strict_stop (ends x.directive) (smaller (strict_at x.directive) (strict_first (drop (k + 1) xs))) (sym d ∙ t)

-- parameters that are more than names
or_found : (b c : Bool) → b ≡ true → b || c ≡ true
or_found true c e = refl
or_found false c e = absurd (cc)

or_passed : (b c : Bool) → b ≡ false → b || c ≡ c
or_passed true c e = absurd (cc)
or_passed false c e = refl

pub more_found : {E : Type 0} (xs : List (NodeParam E)) (k : ℕ) (x : NodeParam E) (b : Bool) → drop k xs ≡ x ∷ drop (k + 1) xs → b ≡ is_more x → b ≡ true → are_more (drop k xs) ≡ true
more_found xs k x b next e t = ap are_more next ∙ or_found (is_more x) (are_more (drop (k + 1) xs)) (sym e ∙ t)

pub more_passed : {E : Type 0} (xs : List (NodeParam E)) (k : ℕ) (x : NodeParam E) (b : Bool) → drop k xs ≡ x ∷ drop (k + 1) xs → b ≡ is_more x → b ≡ false → are_more (drop k xs) ≡ are_more (drop (k + 1) xs)
more_passed xs k x b next e f = ap are_more next ∙ or_passed (is_more x) (are_more (drop (k + 1) xs)) (sym e ∙ f)
