-- Texts of several lengths.
use Rattle.std.proofs.Common.{◌≡◌, ℕ, false, bytes_eq, List, length, inl, inr, sym, ap}
use Rattle.std.specs.Cmp.Lexicographic.{bytes_decides}
use Rattle.std.proofs.lemmas.Bool.{cases_Bool}

pub of_other_length : (one two : List ℕ) → ¬ (length one ≡ length two) → false ≡ bytes_eq one two
of_other_length one two differ = elim (cases_Bool (bytes_eq one two)) as (λ _. false ≡ bytes_eq one two) [
  | inl y ↦ absurd (differ (ap length ((bytes_decides one two).0 y)))
  | inr n ↦ sym n
]
