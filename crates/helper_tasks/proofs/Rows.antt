-- Worked rows of the definitions, computed.
use Rattle.std.proofs.Common.{◌≡◌, ℕ, List, [], ◌∷◌, Some, None, refl}
use Rattle.helper_tasks.specs.Count.{times, once_below}
use Rattle.helper_tasks.specs.Jobs.{Gain}
use Rattle.helper_tasks.specs.Crew.{placed, empty_slots}

counts : times 2 (2 ∷ 0 ∷ 2 ∷ []) ≡ 2
counts = refl

counts_none : times 5 (2 ∷ 0 ∷ 2 ∷ []) ≡ 0
counts_none = refl

below : once_below 2 3 ≡ 1
below = refl

not_below : once_below 3 3 ≡ 0
not_below = refl

-- the first share ran task 1, the second tasks 2 and 0, and had run task 7 before
gains : Gain (λ (s : List ℕ). s) ([] ∷ (7 ∷ []) ∷ []) ((1 ∷ []) ∷ (7 ∷ 2 ∷ 0 ∷ []) ∷ []) (1 ∷ 2 ∷ 0 ∷ [])
gains = (1 ∷ [], 2 ∷ 0 ∷ [], refl, (2 ∷ 0 ∷ [], [], refl, refl, refl), refl)

-- the outs of tasks 2 and 0 in three slots
places : placed (empty_slots {O = ℕ} 3) (record { task = 2; out = 40 } ∷ record { task = 0; out = 10 } ∷ []) ≡ Some 10 ∷ None ∷ Some 40 ∷ []
places = refl
