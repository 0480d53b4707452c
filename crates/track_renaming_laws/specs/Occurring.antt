-- A fact of each name that occurs in what is told.
use Rattle.std.specs.Prelude.{Option, None, Some}
use Rattle.parse_track.specs.Told.{Name, Region, Lambda, Label, Leaf, Declared, Used, Jumped, Told, nothing, leaf, inner, KnownNames}

abbrev pub OfLabel : {A : Type 0} → (A → Type 0) → Option (Name A) → Type 0
OfLabel Holds None = Unit {0}
OfLabel Holds (Some x) = Holds x.name

abbrev pub OfRegion : {A : Type 0} → (A → Type 0) → Region A → Type 0
OfRegion Holds (Lambda x) = Holds x.name
OfRegion Holds (Label x) = Holds x.name
OfRegion Holds _ = Unit {0}

abbrev pub OfLeaf : {A : Type 0} → (A → Type 0) → Leaf A → Type 0
OfLeaf Holds (Declared how x) = Holds x.name
OfLeaf Holds (Used x) = Holds x
OfLeaf Holds (Jumped word at label) = OfLabel Holds label

abbrev pub OfEachName : {A : Type 0} → (A → Type 0) → Told A → Type 0
OfEachName Holds nothing = Unit {0}
OfEachName Holds (leaf l t) = OfLeaf Holds l × OfEachName Holds t
OfEachName Holds (inner k at i t) = OfRegion Holds k × (OfEachName Holds i × OfEachName Holds t)

abbrev pub OfKnownNames : {A : Type 0} → (A → Type 0) → KnownNames A → Type 0
OfKnownNames Holds known = Holds known.eval × (Holds known.arguments × Holds known.this)
