-- What a script tells, told twice: with names that stand for one another, one written down in one way and one in another.
use Rattle.std.specs.Prelude.{◌≡◌, ℕ, Bool, Option, None, Some, List, [], ◌∷◌}
use Rattle.parse_track.specs.Told.{Name, Region, Script, Function, Arrow, Lambda, Block, Switch, ForHead, Catch, Loop, Label, VarBody, Leaf, Declared}
use Rattle.parse_track.specs.Told.{Used, Jumped, Told, nothing, leaf, inner, KnownNames}
use Rattle.parse_track.specs.ClosedNames.{Bound}

-- names that stand for one another, at the same offset
abbrev pub AreOneName : {A B : Type 0} → (A → B → Type 0) → Name A → Name B → Type 0
AreOneName Means x y = Means x.name y.name × (x.at ≡ y.at)

abbrev pub AreOneLabel : {A B : Type 0} → (A → B → Type 0) → Option (Name A) → Option (Name B) → Type 0
AreOneLabel Means None None = Unit {0}
AreOneLabel Means (Some x) (Some y) = AreOneName Means x y
AreOneLabel Means _ _ = ⊥

-- Regions of the same kind. The offsets of functions are the same; at those of other regions nothing looks.
abbrev pub AreOneRegion : {A B : Type 0} → (A → B → Type 0) → Region A → ℕ → Region B → ℕ → Type 0
AreOneRegion Means Script at Script there = Unit {0}
AreOneRegion Means Function at Function there = at ≡ there
AreOneRegion Means Arrow at Arrow there = at ≡ there
AreOneRegion Means (Lambda x) at (Lambda y) there = AreOneName Means x y
AreOneRegion Means Block at Block there = Unit {0}
AreOneRegion Means Switch at Switch there = Unit {0}
AreOneRegion Means ForHead at ForHead there = Unit {0}
AreOneRegion Means Catch at Catch there = Unit {0}
AreOneRegion Means Loop at Loop there = Unit {0}
AreOneRegion Means (Label x) at (Label y) there = AreOneName Means x y
AreOneRegion Means VarBody at VarBody there = Unit {0}
AreOneRegion Means _ at _ there = ⊥

abbrev pub AreOneLeaf : {A B : Type 0} → (A → B → Type 0) → Leaf A → Leaf B → Type 0
AreOneLeaf Means (Declared how x) (Declared so y) = (how ≡ so) × AreOneName Means x y
AreOneLeaf Means (Used x) (Used y) = Means x y
AreOneLeaf Means (Jumped word at x) (Jumped jump there y) = (word ≡ jump) × ((at ≡ there) × AreOneLabel Means x y)
AreOneLeaf Means _ _ = ⊥

abbrev pub AreToldAlike : {A B : Type 0} → (A → B → Type 0) → Told A → Told B → Type 0
AreToldAlike Means nothing nothing = Unit {0}
AreToldAlike Means (leaf l t) (leaf m u) = AreOneLeaf Means l m × AreToldAlike Means t u
AreToldAlike Means (inner k at i t) (inner j there h u) = AreOneRegion Means k at j there × (AreToldAlike Means i h × AreToldAlike Means t u)
AreToldAlike Means _ _ = ⊥

abbrev pub AreKnownAlike : {A B : Type 0} → (A → B → Type 0) → KnownNames A → KnownNames B → Type 0
AreKnownAlike Means known other = Means known.eval other.eval × (Means known.arguments other.arguments × Means known.this other.this)

-- One name stands for one name: names are the same exactly where those are that they stand for.
abbrev pub IsOneToOne : {A B : Type 0} → (A → B → Type 0) → (A → A → Bool) → (B → B → Bool) → Type 0
IsOneToOne {A} {B} Means same equal = (x y : A) (u v : B) → Means x u → Means y v → equal u v ≡ same x y

-- bindings that are the same but for how their names are written down
abbrev pub AreBoundAlike : {A B : Type 0} → (A → B → Type 0) → List (Bound A) → List (Bound B) → Type 0
AreBoundAlike Means [] [] = Unit {0}
AreBoundAlike Means (b ∷ bs) (c ∷ cs) = (b.func ≡ c.func) × ((b.scope ≡ c.scope) × (Means b.name c.name × AreBoundAlike Means bs cs))
AreBoundAlike Means _ _ = ⊥
