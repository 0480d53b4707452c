-- A loop over a list of parts: whether the name is used in one of them.
use Rattle.std.proofs.Common.{◌≡◌, ℕ, ◌+◌, ◌<◌, ◌≤◌, suc, Bool, true, false, ◌||◌, bytes_eq, List, [], ◌∷◌, drop, length, get_or, refl, sym, ◌∙◌, ap, arith, drop-cons}
use Rattle.std.proofs.lemmas.List.{drop_all}
use Rattle.scope_analysis.specs.DeclaredNames.{Text, has_text}

split_at : {A : Type 0} (xs : List A) (k : ℕ) (x : A) → k < length xs → x ≡ get_or xs k x → drop k xs ≡ x ∷ drop (k + 1) xs
split_at {A = A} xs k x lt is =
    let one : k + 1 ≡ suc k = omega arith in
    drop-cons xs k x lt ∙ (ap (λ (y : A). y ∷ drop (suc k) xs) (sym is) ∙ ap (λ (n : ℕ). x ∷ drop n xs) (sym one))

-- what the parts from this one on have, is what this one has and what those after it have
step : {A : Type 0} (all : List A → List Text) (one : A → List Text) (t : Text) → ((x : A) (xs : List A) → has_text (all (x ∷ xs)) t ≡ (has_text (one x) t || has_text (all xs) t))
    → (xs : List A) (k : ℕ) (x : A) (b : Bool) → k < length xs → x ≡ get_or xs k x → b ≡ has_text (one x) t → has_text (all (drop k xs)) t ≡ has_text (all xs) t
    → (b || has_text (all (drop (k + 1) xs)) t) ≡ has_text (all xs) t
step {A = A} all one t cons xs k x b lt is h so_far =
    ap (λ (y : Bool). y || has_text (all (drop (k + 1) xs)) t) h ∙ (sym (cons x (drop (k + 1) xs)) ∙ (sym (ap (λ (ys : List A). has_text (all ys) t) (split_at xs k x lt is)) ∙ so_far))

pub turn_found : {A : Type 0} (all : List A → List Text) (one : A → List Text) (t : Text) → ((x : A) (xs : List A) → has_text (all (x ∷ xs)) t ≡ (has_text (one x) t || has_text (all xs) t))
    → (xs : List A) (k : ℕ) (x : A) (b : Bool) → k < length xs → x ≡ get_or xs k x → b ≡ has_text (one x) t → has_text (all (drop k xs)) t ≡ has_text (all xs) t → b ≡ true → true ≡ has_text (all xs) t
turn_found {A = A} all one t cons xs k x b lt is h so_far found =
    sym (ap (λ (y : Bool). y || has_text (all (drop (k + 1) xs)) t) found) ∙ step all one t cons xs k x b lt is h so_far

pub turn_on : {A : Type 0} (all : List A → List Text) (one : A → List Text) (t : Text) → ((x : A) (xs : List A) → has_text (all (x ∷ xs)) t ≡ (has_text (one x) t || has_text (all xs) t))
    → (xs : List A) (k : ℕ) (x : A) (b : Bool) → k < length xs → x ≡ get_or xs k x → b ≡ has_text (one x) t → has_text (all (drop k xs)) t ≡ has_text (all xs) t → b ≡ false
    → has_text (all (drop (k + 1) xs)) t ≡ has_text (all xs) t
turn_on {A = A} all one t cons xs k x b lt is h so_far missed =
    sym (ap (λ (y : Bool). y || has_text (all (drop (k + 1) xs)) t) missed) ∙ step all one t cons xs k x b lt is h so_far

pub turns_end : {A : Type 0} (all : List A → List Text) (t : Text) → all [] ≡ [] → (xs : List A) (k : ℕ) → length xs ≤ k → has_text (all (drop k xs)) t ≡ has_text (all xs) t → false ≡ has_text (all xs) t
turns_end {A = A} all t none xs k past so_far =
    sym (ap (λ (ys : List A). has_text (all ys) t) (drop_all k xs past) ∙ ap (λ (ts : List Text). has_text ts t) none) ∙ so_far

or_false : (b : Bool) → b ≡ (b || false)
or_false true = refl
or_false false = refl

-- one text
pub one_text : (y t : Text) (b : Bool) → b ≡ bytes_eq y t → b ≡ has_text (y ∷ []) t
one_text y t b h = h ∙ or_false (bytes_eq y t)
