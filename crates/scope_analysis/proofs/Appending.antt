-- Lists that a loop appends to, with what it makes of each item.
use Rattle.std.proofs.Common.{◌≡◌, ℕ, ◌+◌, ◌<◌, ◌≤◌, List, [], ◌∷◌, ◌++◌, map, drop, length, get_or, suc, sym, ◌∙◌, ap, append_assoc, drop-cons, add-one}
use Rattle.std.proofs.lemmas.List.{append-nil, map-append, drop_all}

-- what is left of a list begins with the item that the loop has reached
pub next_of : {A : Type 0} (xs : List A) (k : ℕ) (x : A) → k < length xs → x ≡ get_or xs k x → drop k xs ≡ x ∷ drop (k + 1) xs
next_of {A} xs k x lt is = drop-cons xs k x lt ∙ (ap (λ (y : A). y ∷ drop (suc k) xs) (sym is) ∙ ap (λ (n : ℕ). x ∷ drop n xs) (sym (add-one k)))

-- nothing was appended
pub nothing_new : {B : Type 0} (old none : List B) → [] ≡ none → old ≡ old ++ none
nothing_new {B} old none is = sym (append-nil old) ∙ ap (λ (l : List B). old ++ l) is

-- one thing was appended to the list that is mapped
pub one_more : {A B : Type 0} (f : A → B) (old new : List A) (x : A) → new ≡ old ++ x ∷ [] → map f new ≡ map f old ++ f x ∷ []
one_more f old new x is = ap (map f) is ∙ map-append f old (x ∷ [])

-- two parts were appended, one after the other
pub both_new : {B : Type 0} (old between new one two : List B) → between ≡ old ++ one → new ≡ between ++ two → new ≡ old ++ (one ++ two)
both_new {B} old between new one two first second = second ∙ (ap (λ (l : List B). l ++ two) first ∙ append_assoc old one two)

-- an item's part was appended: the rest of the whole is still to come
pub step_on : {A B : Type 0} (made : List A → List B) (xs : List A) (k : ℕ) (x : A) (old new one whole : List B)
    → k < length xs → x ≡ get_or xs k x → made (x ∷ drop (k + 1) xs) ≡ one ++ made (drop (k + 1) xs) → new ≡ old ++ one
    → old ++ made (drop k xs) ≡ whole → new ++ made (drop (k + 1) xs) ≡ whole
step_on {A} {B} made xs k x old new one whole lt is parts appended so_far =
    ap (λ (l : List B). l ++ made (drop (k + 1) xs)) appended
    ∙ (append_assoc old one (made (drop (k + 1) xs))
    ∙ (ap (λ (l : List B). old ++ l) (sym parts ∙ ap made (sym (next_of xs k x lt is))) ∙ so_far))

-- no item is left: the whole was appended
pub all_done : {A B : Type 0} (made : List A → List B) (xs : List A) (k : ℕ) (old whole : List B)
    → length xs ≤ k → made [] ≡ [] → old ++ made (drop k xs) ≡ whole → old ≡ whole
all_done {A} {B} made xs k old whole le none so_far =
    sym (append-nil old) ∙ (ap (λ (l : List B). old ++ l) (sym none ∙ ap made (sym (drop_all k xs le))) ∙ so_far)
