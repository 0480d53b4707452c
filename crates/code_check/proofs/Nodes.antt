-- The nodes above an offset.
use Rattle.std.proofs.Common.{◌≡◌, ℕ, zero, suc, ◌+◌, ◌-◌, ◌*◌, ◌/◌, ◌%◌, ◌<◌, ◌≤◌, ◌⊎◌, inl, inr, ◌==◌, true, refl, ap, ◌∙◌, arith}
use Rattle.std.proofs.lemmas.Bool.Decides.{eqb_tells}
use Rattle.code_check.specs.NoteIndex.{halved, IsAbove, IsBelowRange}

halved-le : (times n : ℕ) → halved times n ≤ n
halved-le zero n = omega arith
halved-le (suc times) n = let low : halved times n ≤ n = halved-le times n in omega (arith, low)

halved-half : (times n : ℕ) → halved (suc times) n ≡ halved times (n / 2)
halved-half zero n = refl
halved-half (suc times) n = ap (λ (x : ℕ). x / 2) (halved-half times n)

-- ---- the way up

-- the one node is the other or above it
pub record IsFrom (node above : ℕ) : Type 0 where
  pub times : ℕ
  pub is : above ≡ halved times node

pub from_leaf : (size at node : ℕ) → IsAbove size at node → IsFrom (at + size) node
from_leaf size at node a = record { times = a.times; is = a.is }

from_by : (times node above : ℕ) → above ≡ halved times node → (above ≡ node) ⊎ IsFrom (node / 2) above
from_by zero node above is = inl is
from_by (suc times) node above is = inr (record { times = times; is = is ∙ halved-half times node })

pub from_next : (node above : ℕ) → IsFrom node above → (above ≡ node) ⊎ IsFrom (node / 2) above
from_next node above f = from_by f.times node above f.is

pub from_end : (node above : ℕ) → node ≡ 0 → IsFrom node above → above ≡ 0
from_end node above none f = let low : halved f.times node ≤ node = halved-le f.times node in omega (arith, low, f.is, none)

-- ---- the leaves below a range of nodes

leaf_by : (times size at node : ℕ) → at < size → size ≤ node → node ≡ halved times (at + size) → node ≡ at + size
leaf_by zero size at node inside high is = is
leaf_by (suc times) size at node inside high is =
    let low : halved times (at + size) ≤ at + size = halved-le times (at + size) in
    let half : node ≡ halved times (at + size) / 2 = is in
    absurd (omega (arith, low, half))

-- among nodes as high as the leaves only the leaf is above an offset
pub leaf_alone : (size at node : ℕ) → at < size → size ≤ node → IsAbove size at node → node ≡ at + size
leaf_alone size at node inside high a = leaf_by a.times size at node inside high a.is

pub odd_is : (n : ℕ) → n % 2 ≡ 1 → (n % 2 == 1) ≡ true
odd_is n e = ap (λ (x : ℕ). x == 1) e

-- a node of a range is its odd first one, its odd last one, or below one of the range that is half as high
pub half_range : (low high node : ℕ) → low ≤ node → node < high → ((node ≡ low) × (low % 2 ≡ 1)) ⊎ (((node ≡ high - 1) × (high % 2 ≡ 1)) ⊎ (((low + 1) / 2 ≤ node / 2) × (node / 2 < high / 2)))
half_range low high node from to = elim (eqb_tells (low % 2) 1) [
  | inl odd ↦ elim (eqb_tells node low) [
    | inl first ↦ inl (first.1, odd.1)
    | inr later ↦ last (omega (arith, odd.1, later.1))
  ]
  | inr even ↦ last (omega (arith, even.1))
]
  where
    last : (low + 1) / 2 ≤ node / 2 → ((node ≡ low) × (low % 2 ≡ 1)) ⊎ (((node ≡ high - 1) × (high % 2 ≡ 1)) ⊎ (((low + 1) / 2 ≤ node / 2) × (node / 2 < high / 2)))
    last over = elim (eqb_tells (high % 2) 1) [
      | inl odd ↦ elim (eqb_tells node (high - 1)) [
        | inl final ↦ inr (inl (final.1, odd.1))
        | inr earlier ↦ inr (inr (over, omega (arith, odd.1, earlier.1)))
      ]
      | inr even ↦ inr (inr (over, omega (arith, even.1)))
    ]

pub above_next : (size at node : ℕ) → 1 ≤ node / 2 → IsAbove size at node → IsAbove size at (node / 2)
above_next size at node some a = record { positive = omega (arith, some); times = suc a.times; is = ap (λ (x : ℕ). x / 2) a.is }

below_by : (times size low high at node : ℕ) → at < size → 0 < low → high ≤ 2 * size → (low + 1) / 2 ≤ node → node < high / 2 → node ≡ halved times (at + size) → IsBelowRange size low high at
below_by zero size low high at node inside positive fits from to is = absurd (omega (arith, is))
below_by (suc times) size low high at node inside positive fits from to is =
    let half : node ≡ halved times (at + size) / 2 = is in
    record {
      node = halved times (at + size);
      from = omega (arith, half);
      to = omega (arith, half);
      above = record { positive = omega (arith, half); times = times; is = refl };
    }

-- an offset below the range that is half as high is below the range
pub below_range : (size low high at : ℕ) → at < size → 0 < low → high ≤ 2 * size → IsBelowRange size ((low + 1) / 2) (high / 2) at → IsBelowRange size low high at
below_range size low high at inside positive fits b = below_by b.above.times size low high at b.node inside positive fits b.from b.to b.above.is
