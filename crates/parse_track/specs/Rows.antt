-- How the rows that a track keeps stand for the parts of its log.
use Rattle.std.specs.Prelude.{ℕ, zero, suc, ◌≡◌, ◌+◌, ◌<◌, ◌≤◌, ◌^◌, ◌⊎◌, Option, None, Some, List, [], ◌∷◌, ◌++◌, length, slice_get}
use Rattle.std.specs.Prelude.{map, IfSome}
use Rattle.script_grammar.specs.declared.tree.Ident.{Ident}
use Rattle.parse_track.specs.declared.track.Item.{Item as Told}
use Rattle.parse_track.specs.declared.track.Item.TheVariants as code
use Rattle.parse_track.specs.declared.track.Items.{Items}
use Rattle.parse_track.specs.declared.track.Items.TheVariants as kept
use Rattle.parse_track.specs.declared.track.RegionRow.{RegionRow}
use Rattle.parse_track.specs.Told as told
use Rattle.parse_track.specs.Log.{Item, Leaf, Inner, Part, name_of, items_of, kind_of, tell, told_items, told_region, told_of, outermost_if}

abbrev pub item_of : Told → Item
item_of (code.Declared how name) = Leaf (told.Declared how (name_of name))
item_of (code.Used atom) = Leaf (told.Used atom)
item_of (code.Jumped word at) = Leaf (told.Jumped word at None)
item_of (code.JumpedTo word at label) = Leaf (told.Jumped word at (Some (name_of label)))
item_of (code.Inner n) = Inner n

-- what stands in a region, as a list
abbrev pub listed : Items → List Told
listed kept.Nothing = []
listed (kept.One item) = item ∷ []
listed (kept.Many items) = items.value.items

abbrev pub row_of : RegionRow → Part
row_of row = record { kind = row.kind; at = row.at; around = row.around; items = map item_of (listed row.items) }

-- A region inside has a higher number than the region around it, and is a region.
abbrev pub IsInside : ℕ → ℕ → Item → Type 0
IsInside n count (Leaf _) = Unit {0}
IsInside n count (Inner m) = (n < m) × (m < count)

abbrev pub AreInside : ℕ → ℕ → List Item → Type 0
AreInside n count [] = Unit {0}
AreInside n count (item ∷ items) = IsInside n count item × AreInside n count items

abbrev pub IsAround : ℕ → Option ℕ → Type 0
IsAround n None = Unit {0}
IsAround n (Some m) = m < n

-- each region from number n on
abbrev pub AreInOrder : ℕ → ℕ → List Part → Type 0
AreInOrder n count [] = Unit {0}
AreInOrder n count (part ∷ parts) = AreInside n count part.items × (IsAround n part.around × AreInOrder (n + 1) count parts)

pub record IsInOrder (parts : List Part) (present : Option ℕ) : Type 0 where
  pub order : AreInOrder 0 (length parts) parts
  pub inside : IfSome present (λ n. n < length parts)
  pub few : length parts ≤ 2 ^ 31

-- what stands in a region, where n regions may stand one in another
abbrev pub items_at : ℕ → List Part → ℕ → List Item
items_at zero parts n = []
items_at (suc room) parts n = items_of (slice_get parts n)

-- the kind of a region
abbrev pub kind_in : List RegionRow → ℕ → told.Region ℕ
kind_in rows region = kind_of (slice_get (map row_of rows) region)

-- what a region tells, where n regions may stand one in another
abbrev pub told_at : ℕ → List RegionRow → ℕ → told.Told ℕ
told_at room rows region = told_region room (map row_of rows) region

-- what an item tells
abbrev pub told_by : ℕ → List RegionRow → Told → told.Told ℕ
told_by room rows item = told_items (map row_of rows) (told_region room (map row_of rows)) (item_of item ∷ [])

-- what a region inside tells, as an item
abbrev pub told_inner : ℕ → List RegionRow → ℕ → told.Told ℕ
told_inner room rows region = told_items (map row_of rows) (told_region room (map row_of rows)) (Inner region ∷ [])

-- what a region tells that has none around it; any other tells nothing by itself
abbrev pub told_outermost : List RegionRow → ℕ → Option ℕ → told.Told ℕ
told_outermost rows region around = told_items (map row_of rows) (told_region (length rows) (map row_of rows)) (outermost_if region around)

-- what all rows tell
abbrev pub told_of_rows : List RegionRow → told.Told ℕ
told_of_rows rows = told_of (map row_of rows)

-- an item more stands in the present region
abbrev pub IsTold : Option ℕ → Told → List RegionRow → List RegionRow → Type 0
IsTold present item before now = map row_of now ≡ tell present (item_of item) (map row_of before)

-- it does, or all is as it was
abbrev pub MayBeTold : Option ℕ → Told → List RegionRow → List RegionRow → Type 0
MayBeTold present item before now = IsTold present item before now ⊎ (map row_of now ≡ map row_of before)

-- these names stand after those that there were
abbrev pub GainsNames : List Ident → List Ident → List (told.Name ℕ) → Type 0
GainsNames before now more = map name_of now ≡ map name_of before ++ more
