-- The log of a track: the regions by number, in the order of entering, each with what was told of it, and the present region.
use Rattle.std.specs.Prelude.{ℕ, ◌+◌, Option, None, Some, List, [], ◌∷◌, ◌++◌, length, zero, suc, slice_get}
use Rattle.script_grammar.specs.declared.tree.Ident.{Ident}
use Rattle.parse_track.specs.declared.region.WellKnownAtoms.{WellKnownAtoms}
use Rattle.parse_track.specs.declared.region.Region.{Region}
use Rattle.parse_track.specs.declared.region.Region.TheVariants as region
use Rattle.parse_track.specs.declared.region.Early.{Early}
use Rattle.parse_track.specs.Told as told
use Rattle.parse_track.specs.EarlyErrors.{sooner}

-- what stands in a region: a leaf, or the number of a region inside
pub data Item : Type 0 where
  Leaf : told.Leaf ℕ → Item
  Inner : ℕ → Item

-- a region: its kind, the offset of its first token, the region around it, and what stands in it
pub record Part : Type 0 where
  pub kind : Region
  pub at : ℕ
  pub around : Option ℕ
  pub items : List Item

pub record Log : Type 0 where
  pub known : WellKnownAtoms
  pub parts : List Part
  pub present : Option ℕ
  pub noted : Option Early

abbrev pub name_of : Ident → told.Name ℕ
name_of ident = record { name = ident.atom; at = ident.at }

abbrev pub label_of : Option Ident → Option (told.Name ℕ)
label_of None = None
label_of (Some ident) = Some (name_of ident)

abbrev pub region_of : Region → told.Region ℕ
region_of region.Script = told.Script
region_of region.Function = told.Function
region_of region.Arrow = told.Arrow
region_of (region.Lambda name) = told.Lambda (name_of name)
region_of region.Block = told.Block
region_of region.Switch = told.Switch
region_of region.ForHead = told.ForHead
region_of region.Catch = told.Catch
region_of region.Loop = told.Loop
region_of (region.Label name) = told.Label (name_of name)
region_of region.VarBody = told.VarBody

-- an item more at the end of a region
abbrev pub add : Item → ℕ → List Part → List Part
add item n [] = []
add item zero (p ∷ ps) = record p { items = p.items ++ item ∷ [] } ∷ ps
add item (suc n) (p ∷ ps) = p ∷ add item n ps

abbrev pub tell : Option ℕ → Item → List Part → List Part
tell None item parts = parts
tell (Some n) item parts = add item n parts

-- the log after a leaf of the present region
abbrev pub with_leaf : Log → told.Leaf ℕ → Log
with_leaf log leaf = record log { parts = tell log.present (Leaf leaf) log.parts }

-- the log after a region is entered, which becomes the present one
abbrev pub entered : Log → Region → ℕ → Log
entered log kind at = record log {
  parts = tell log.present (Inner (length log.parts)) log.parts ++ record { kind = kind; at = at; around = log.present; items = [] } ∷ [];
  present = Some (length log.parts);
}

abbrev pub around_of : Option Part → Option ℕ
around_of None = None
around_of (Some part) = part.around

abbrev pub around_at : Option ℕ → List Part → Option ℕ
around_at None parts = None
around_at (Some n) parts = around_of (slice_get parts n)

-- the log after the present region is left: the one around it is the present one
abbrev pub left : Log → Log
left log = record log { present = around_at log.present log.parts }

-- the log after an early error is noted, of which only the first counts
abbrev pub noting : Log → Early → Log
noting log early = record log { noted = sooner (Some early) log.noted }

-- the names of the code that early errors and closed names ask for
abbrev pub known_names : WellKnownAtoms → told.KnownNames ℕ
known_names known = record { eval = known.eval; arguments = known.arguments; this = known.this }

abbrev pub kind_of : Option Part → told.Region ℕ
kind_of None = told.Block
kind_of (Some part) = region_of part.kind

abbrev pub at_of : Option Part → ℕ
at_of None = 0
at_of (Some part) = part.at

abbrev pub items_of : Option Part → List Item
items_of None = []
items_of (Some part) = part.items

-- what items tell, where `inside` is what each region tells
abbrev pub told_items : List Part → (ℕ → told.Told ℕ) → List Item → told.Told ℕ
told_items parts inside [] = told.nothing
told_items parts inside (Leaf l ∷ items) = told.leaf l (told_items parts inside items)
told_items parts inside (Inner m ∷ items) =
    told.inner (kind_of (slice_get parts m)) (at_of (slice_get parts m)) (inside m) (told_items parts inside items)

-- what a region tells, with at most n regions one in another
unfoldable pub told_region : ℕ → List Part → ℕ → told.Told ℕ
told_region zero parts n = told.nothing
told_region (suc room) parts n = told_items parts (told_region room parts) (items_of (slice_get parts n))

abbrev pub outermost_if : ℕ → Option ℕ → List Item
outermost_if n None = Inner n ∷ []
outermost_if n (Some _) = []

-- the outermost regions, of those from number n on
abbrev pub outermost : ℕ → List Part → List Item
outermost n [] = []
outermost n (part ∷ parts) = outermost_if n part.around ++ outermost (n + 1) parts

-- what was told of a script: its outermost regions, in the order of entering
abbrev pub told_of : List Part → told.Told ℕ
told_of parts = told_items parts (told_region (length parts) parts) (outermost 0 parts)
