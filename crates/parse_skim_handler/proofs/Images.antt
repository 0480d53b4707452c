-- A walk over a list of images, item by item.
use Rattle.std.proofs.Common.{List, [], ap, drop, get_or, length, map, sym, ℕ, ◌+◌, ◌<◌, ◌∙◌, ◌∷◌, ◌≡◌, ◌≤◌}
use Rattle.std.proofs.Math.ListN.{drop_of_length-le}
use Rattle.std.proofs.lemmas.List.{drop-map}
use Rattle.parse_early_handler.proofs.Turns.{next_of}

-- the image of the item at an index, and those after it
pub next_image : {A B : Type 0} (f : A → B) (xs : List A) (k : ℕ) (x : A) → k < length xs → x ≡ get_or xs k x → drop k (map f xs) ≡ f x ∷ drop (k + 1) (map f xs)
next_image f xs k x lt is = drop-map f k xs ∙ (ap (map f) (next_of xs k x lt is) ∙ ap (λ ys. f x ∷ ys) (sym (drop-map f (k + 1) xs)))

-- none is left
pub ended_image : {A B : Type 0} (f : A → B) (xs : List A) (k : ℕ) → length xs ≤ k → drop k (map f xs) ≡ []
ended_image f xs k le = drop-map f k xs ∙ ap (map f) (drop_of_length-le xs le)
