-- Closed names by their functions, with their texts.
use Rattle.std.proofs.Common.{◌≡◌, ℕ, Bool, true, false, cond, List, [], ◌∷◌, map, filter, refl, sym, ◌∙◌, ap, ap₂, Option}
use Rattle.stencil_data.specs.Named.{NamedClosed}
use Rattle.stencil_data.specs.StandsFor.{named_closed}
use Rattle.parse_track.specs.declared.region.ClosedAt.{ClosedAt}
use Rattle.parse_track.specs.ClosedNames.{Bound}
use Rattle.parse_track.specs.Scopes.{bound_of, bounds_of}
use Rattle.track_renaming_laws.specs.Renaming.{renamed_bound}
use Rattle.track_renaming_laws.specs.Texts.{text_at}
use Rattle.compile_specs.specs.Shown.{is_start, closed_of}
use Rattle.scope_closed_laws.specs.Handed.{is_top, closed_at_top}
use Rattle.compile_numbers.specs.Sorted.{name_of, names_at_top, names_at}

map_filtered_by : {A B C : Type 0} (f : A → C) (g : B → C) (h : A → B) (keep : Bool) (x : A) (xs : List A) (ys : List B) → f x ≡ g (h x) → map f xs ≡ map g ys → map f (cond keep (x ∷ xs) xs) ≡ map g (cond keep (h x ∷ ys) ys)
map_filtered_by {C} f g h true x xs ys one rest = ap₂ (λ (y : C) (l : List C). y ∷ l) one rest
map_filtered_by f g h false x xs ys one rest = rest

map_filtered : {A B C : Type 0} (f : A → C) (g : B → C) (h : A → B) (q : B → Bool) → ((x : A) → f x ≡ g (h x)) → (xs : List A) → map f (filter (λ (x : A). q (h x)) xs) ≡ map g (filter q (map h xs))
map_filtered f g h q same [] = refl
map_filtered {A} f g h q same (x ∷ xs) = map_filtered_by f g h (q (h x)) x (filter (λ (y : A). q (h y)) xs) (filter q (map h xs)) (same x) (map_filtered f g h q same xs)

mapped_twice : {A B C : Type 0} (f : A → B) (g : B → C) (xs : List A) → map g (map f xs) ≡ map (λ (x : A). g (f x)) xs
mapped_twice f g [] = refl
mapped_twice {C} f g (x ∷ xs) = ap (λ (l : List C). g (f x) ∷ l) (mapped_twice f g xs)

bound_with : List (List ℕ) → ClosedAt → Bound (List ℕ)
bound_with texts at = record { func = at.func; scope = at.scope; name = text_at texts at.atom }

named : List (List ℕ) → Bound (List ℕ) → NamedClosed
named texts b = record { scope = b.scope; text = b.name }

bounds_with : (texts : List (List ℕ)) (closed : List ClosedAt) (bound : List (Bound (List ℕ))) → map (renamed_bound (text_at texts)) (bounds_of closed) ≡ bound → map (bound_with texts) closed ≡ bound
unfolding bound_with
bounds_with texts closed bound is = sym (mapped_twice bound_of (renamed_bound (text_at texts)) closed) ∙ is

picked_texts : (texts : List (List ℕ)) (q : Option ℕ → Bool) (closed : List ClosedAt) → map (named_closed texts) (map name_of (filter (λ (at : ClosedAt). q at.func) closed)) ≡ map (named texts) (filter (λ (b : Bound (List ℕ)). q b.func) (map (bound_with texts) closed))
unfolding bound_with named
picked_texts texts q closed =
    mapped_twice name_of (named_closed texts) (filter (λ (at : ClosedAt). q at.func) closed)
    ∙ map_filtered (λ (at : ClosedAt). named_closed texts (name_of at)) (named texts) (bound_with texts) (λ (b : Bound (List ℕ)). q b.func) (λ at. refl) closed

-- the names of the script, with their texts
pub closed_top : (texts : List (List ℕ)) (closed : List ClosedAt) (bound : List (Bound (List ℕ))) → map (renamed_bound (text_at texts)) (bounds_of closed) ≡ bound → map (named_closed texts) (names_at_top closed) ≡ closed_at_top bound
unfolding named
closed_top texts closed bound is = picked_texts texts is_top closed ∙ ap closed_at_top (bounds_with texts closed bound is)

-- the names of a function, with their texts
pub closed_inside : (texts : List (List ℕ)) (closed : List ClosedAt) (bound : List (Bound (List ℕ))) (start : ℕ) → map (renamed_bound (text_at texts)) (bounds_of closed) ≡ bound → map (named_closed texts) (names_at closed start) ≡ closed_of bound start
unfolding named
closed_inside texts closed bound start is = picked_texts texts (λ (f : Option ℕ). is_start f start) closed ∙ ap (λ (b : List (Bound (List ℕ))). closed_of b start) (bounds_with texts closed bound is)
