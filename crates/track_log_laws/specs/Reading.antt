-- What a log with texts tells: its regions put together, as `told_of` of parse_track does with those of a log with atoms.
use Rattle.std.specs.Prelude.{ℕ, zero, suc, ◌+◌, Option, None, Some, List, [], ◌∷◌, ◌++◌, length, slice_get}
use Rattle.parse_track.specs.Told as told
use Rattle.parse_track.specs.Told.{Told, nothing, leaf, inner}
use Rattle.parse_track.specs.Tells.{Text}
use Rattle.track_log_laws.specs.Spelled.{TextItem, TextLeaf, TextInner, TextPart}

abbrev pub kind_of : Option TextPart → told.Region Text
kind_of None = told.Block
kind_of (Some part) = part.kind

abbrev pub at_of : Option TextPart → ℕ
at_of None = 0
at_of (Some part) = part.at

abbrev pub items_of : Option TextPart → List TextItem
items_of None = []
items_of (Some part) = part.items

-- what items tell, where `inside` is what each region tells
abbrev pub read_items : List TextPart → (ℕ → Told Text) → List TextItem → Told Text
read_items parts inside [] = nothing
read_items parts inside (TextLeaf l ∷ items) = leaf l (read_items parts inside items)
read_items parts inside (TextInner m ∷ items) =
    inner (kind_of (slice_get parts m)) (at_of (slice_get parts m)) (inside m) (read_items parts inside items)

-- what a region tells, with at most n regions one in another
unfoldable pub read_region : ℕ → List TextPart → ℕ → Told Text
read_region zero parts n = nothing
read_region (suc room) parts n = read_items parts (read_region room parts) (items_of (slice_get parts n))

abbrev pub outermost_if : ℕ → Option ℕ → List TextItem
outermost_if n None = TextInner n ∷ []
outermost_if n (Some _) = []

-- the outermost regions, of those from number n on
abbrev pub outermost : ℕ → List TextPart → List TextItem
outermost n [] = []
outermost n (part ∷ parts) = outermost_if n part.around ++ outermost (n + 1) parts

-- what was told of a script: its outermost regions, in the order of entering
abbrev pub read_back : List TextPart → Told Text
read_back parts = read_items parts (read_region (length parts) parts) (outermost 0 parts)

-- Nothing is told outside of all regions.
abbrev pub IsOfRegions : Told Text → Type 0
IsOfRegions nothing = Unit {0}
IsOfRegions (leaf l t) = ⊥
IsOfRegions (inner kind at inside t) = IsOfRegions t
