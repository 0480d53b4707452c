-- What `run_tasks` says of a job's shares and outs. It is this project's own choice.
use Rattle.std.specs.Prelude.{◌≡◌, ℕ, ◌<◌, List, [], ◌∷◌, ◌++◌, length, slice_index_or}
use Rattle.helper_tasks.specs.Count.{EachOnceBelow}

-- `gained` is what the shares' lists have gained, the first share's first
abbrev pub Gain : {S : Type 0} → (S → List ℕ) → List S → List S → List ℕ → Type 0
Gain ran [] [] gained = gained ≡ []
Gain ran [] (a ∷ after) gained = ⊥
Gain ran (b ∷ before) [] gained = ⊥
Gain ran (b ∷ before) (a ∷ after) gained = (own : List ℕ) × (others : List ℕ) × (ran a ≡ ran b ++ own) × Gain ran before after others
    × (gained ≡ own ++ others)

-- as many shares came back, and their lists have gained together each task below n once
abbrev pub GainedOnce : {S : Type 0} → (S → List ℕ) → List S → List S → ℕ → Type 0
GainedOnce ran before after n = (gained : List ℕ) × Gain ran before after gained × EachOnceBelow n gained

-- the k-th out is one that task k gives
abbrev pub GivesEach : {O : Type 0} → (ℕ → O → Type 0) → List O → Type 0
GivesEach gives outs = (k : ℕ) (d : _) → k < length outs → gives k (slice_index_or outs k d)

-- an order of n tasks: each of their numbers once
abbrev pub IsOrderOf : ℕ → List ℕ → Type 0
IsOrderOf n order = (length order ≡ n) × EachOnceBelow n order
