-- The function in which a place of the source text is. This project's own choice; an extent is the bytes from its start on, without its end.
use Rattle.std.specs.Prelude.{◌≡◌, ℕ, ◌-◌, ◌≤◌, ◌<◌, List, length, All, HoldsAt, Option, Some, None}
use Rattle.stencil_data.specs.declared.functions.Extent.{Extent}
use Rattle.stencil_data.specs.Views.{RecordView}
use Rattle.holzikra_finding.specs.declared.places.Found.{Found}

abbrev pub Contains : Extent → ℕ → Type 0
Contains extent offset = (extent.start ≤ offset) × (offset < extent.end)

-- the one extent lies inside the other
abbrev pub IsInside : Extent → Extent → Type 0
IsInside inner outer = (outer.start ≤ inner.start) × (inner.end ≤ outer.end) × ¬ (inner ≡ outer)

-- the function of this record contains the offset, and no function inside it does
abbrev pub IsInnermost : List RecordView → ℕ → RecordView → Type 0
IsInnermost records offset lazy =
    Contains lazy.extent offset × All (λ (other : RecordView). IsInside other.extent lazy.extent → ¬ Contains other.extent offset) records

-- the function at this place of the records; where there is none, no function contains the offset
abbrev pub IsInnermostAt : List RecordView → ℕ → Option ℕ → Type 0
IsInnermostAt records offset None = All (λ (lazy : RecordView). ¬ Contains lazy.extent offset) records
IsInnermostAt records offset (Some place) = (place < length records) × HoldsAt (IsInnermost records offset) records place

-- ---- for private clauses

-- an extent has fewer bytes than the one that was found, if one was
abbrev pub IsNarrower : Extent → Option Found → Type 0
IsNarrower extent None = Unit {0}
IsNarrower extent (Some found) = extent.end - extent.start < found.extent.end - found.extent.start

-- none of the functions seen contains the offset; or the one that was found does, and none that does is narrower
abbrev pub IsNarrowestAt : (records seen : List RecordView) → ℕ → Option Found → Type 0
IsNarrowestAt records seen offset None = All (λ (lazy : RecordView). ¬ Contains lazy.extent offset) seen
IsNarrowestAt records seen offset (Some found) =
    (found.place < length records) × HoldsAt (λ (lazy : RecordView). lazy.extent ≡ found.extent) records found.place × Contains found.extent offset
    × All (λ (lazy : RecordView). Contains lazy.extent offset → found.extent.end - found.extent.start ≤ lazy.extent.end - lazy.extent.start) seen
