-- Which atoms a set of atoms has: those that are marked with its version. What was never marked has the version 0.
use Rattle.std.specs.Prelude.{ℕ, ◌≡◌, Bool, true, cond, List, nat_eq, slice_index}

abbrev pub has_atom : List ℕ → ℕ → ℕ → Bool
has_atom marks version atom = nat_eq (slice_index marks atom) version

-- a set has an atom more
abbrev pub Gains : ℕ → (ℕ → Bool) → (ℕ → Bool) → Type 0
Gains atom before now = (y : ℕ) → now y ≡ cond (nat_eq atom y) true (before y)
