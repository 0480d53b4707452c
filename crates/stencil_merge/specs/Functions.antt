-- The numbers of functions: of those that are in no other, and of those directly in one. This project's own choice.
use Rattle.std.specs.Prelude.{ℕ, ◌+◌, ◌-◌, Bool, nat_eq, if◌then◌else◌, List, [], ◌∷◌, map, slice_index_or}
use Rattle.std.specs.List.{list_any}
use Rattle.stencil_data.specs.Named.{NamedRecord}
use Rattle.stencil_data.specs.Views.{RecordView}

-- of each function, the numbers of those directly in it
abbrev pub inner_of : List RecordView → List (List ℕ)
inner_of records = map (λ (lazy : RecordView). lazy.inner) records

abbrev pub named_inner_of : List NamedRecord → List (List ℕ)
named_inner_of records = map (λ (lazy : NamedRecord). lazy.inner) records

-- those directly in the function of this number, from 1
abbrev pub numbers_in : List (List ℕ) → ℕ → List ℕ
numbers_in inner number = slice_index_or inner (number - 1) []

-- whether the function of this number is directly in another one
abbrev pub is_inside : List (List ℕ) → ℕ → Bool
is_inside inner number = list_any (λ numbers. list_any (λ n. nat_eq n number) numbers) inner

-- the numbers of functions from this one on that are in no other
abbrev pub outermost_from : List (List ℕ) → ℕ → List (List ℕ) → List ℕ
outermost_from inner number [] = []
outermost_from inner number (f ∷ fs) =
    if is_inside inner number then outermost_from inner (number + 1) fs else number ∷ outermost_from inner (number + 1) fs

-- the numbers of the functions that are in no other, in order: those directly in the script
abbrev pub outermost : List (List ℕ) → List ℕ
outermost inner = outermost_from inner 1 inner
