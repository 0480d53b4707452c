-- The offsets of regions that something looks at: those of functions.
use Rattle.std.specs.Prelude.{◌≡◌, ℕ, Bool, true, false, cond}
use Rattle.parse_track.specs.Told.{Region, Lambda, Told, nothing, leaf, inner}
use Rattle.parse_track.specs.RegionNames.{is_function}
use Rattle.parse_track.specs.ClosedNames.{begins, at_of}
use Rattle.track_renaming_laws.specs.Renaming.{renamed_region, rewritten}

-- Wherever a function begins, its offset is kept when names are renamed and regions put at other offsets.
abbrev pub KeepsStarts : {A B : Type 0} → (A → B) → (Region A → ℕ → ℕ) → Told A → Type 0
KeepsStarts f place nothing = Unit {0}
KeepsStarts f place (leaf l t) = KeepsStarts f place t
KeepsStarts f place (inner k at i t) =
    (begins false k ≡ true → at_of (renamed_region f k) (place k at) (rewritten f place i) ≡ at_of k at i)
    × (KeepsStarts f place i × KeepsStarts f place t)

-- The offset of a function, and 0 of any other region.
abbrev pub if_function : {A : Type 0} → Region A → ℕ → ℕ
if_function k at = cond (is_function k) at 0

-- whether the first region of some is a function
abbrev pub starts_with_function : {A : Type 0} → Told A → Bool
starts_with_function nothing = false
starts_with_function (leaf l t) = starts_with_function t
starts_with_function (inner k at i t) = is_function k

-- The region of a function expression's name is around a function.
abbrev pub IsAroundFunction : {A : Type 0} → Region A → Told A → Type 0
IsAroundFunction (Lambda _) i = starts_with_function i ≡ true
IsAroundFunction _ i = Unit {0}

abbrev pub AreAroundFunctions : {A : Type 0} → Told A → Type 0
AreAroundFunctions nothing = Unit {0}
AreAroundFunctions (leaf l t) = AreAroundFunctions t
AreAroundFunctions (inner k at i t) = IsAroundFunction k i × (AreAroundFunctions i × AreAroundFunctions t)
