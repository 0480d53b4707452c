-- What one walk keeps of lexical names, for heads of `for` statements and for other regions at once, and the clashes that
-- it has found. Only clauses of private functions cite it.
use Rattle.std.specs.Prelude.{ℕ, ◌≡◌, ◌≤◌, Bool, true, false, cond, nat_eq, Option, None, Some, List, [], ◌∷◌, IfSome}
use Rattle.parse_track.specs.declared.clashing.LexicalOffsets.{LexicalOffsets}
use Rattle.parse_track.specs.declared.clashing.LexicalName.{LexicalName}
use Rattle.parse_track.specs.Told.{Name, Region, Told}
use Rattle.parse_track.specs.EarlyErrors.{smaller}
use Rattle.parse_track.specs.AtomTables.{entry}
use Rattle.parse_track.specs.Clashes.{Firsts, no_firsts, opened_in, clash_all, clashes}

-- the offset for names of heads, or that for others
abbrev pub offset_for : Bool → LexicalOffsets → Option ℕ
offset_for true offsets = offsets.head
offset_for false offsets = offsets.other

abbrev pub no_offsets : LexicalOffsets
no_offsets = record { head = None; other = None }

-- with an offset more
abbrev pub lessened : Bool → ℕ → LexicalOffsets → LexicalOffsets
lessened true at offsets = record { head = smaller (Some at) offsets.head; other = offsets.other }
lessened false at offsets = record { head = offsets.head; other = smaller (Some at) offsets.other }

-- what is kept of each name
abbrev pub Kept : Type 0
Kept = ℕ → Option LexicalName

-- where a name stands first in regions that n functions are around, by what is kept of it
abbrev pub first_in : ℕ → Option LexicalName → LexicalOffsets
first_in depth None = no_offsets
first_in depth (Some name) = cond (nat_eq name.depth depth) name.first no_offsets

abbrev pub firsts_of : Bool → ℕ → Kept → Firsts
firsts_of heads depth kept y = offset_for heads (first_in depth (kept y))

-- what is kept of a name of a head or of another region, after what was kept of it
abbrev pub kept_of : ℕ → Bool → Kept → Name ℕ → LexicalName
kept_of depth is_head kept x = record { depth = depth; first = lessened is_head x.at (first_in depth (kept x.name)) }

-- a name of a head or of another region more, and all names of one
abbrev pub keep : ℕ → Bool → Kept → Name ℕ → Kept
keep depth is_head kept x y = cond (nat_eq x.name y) (Some (kept_of depth is_head kept x)) (kept y)

abbrev pub keep_all : ℕ → Bool → List (Name ℕ) → Kept → Kept
keep_all depth is_head [] kept = kept
keep_all depth is_head (x ∷ xs) kept = keep_all depth is_head xs (keep depth is_head kept x)

-- nothing is kept of regions that more functions are around
abbrev pub AreKeptTo : ℕ → Kept → Type 0
AreKeptTo depth kept = (y : ℕ) → IfSome (kept y) (λ name. name.depth ≤ depth)

-- the offsets so far, each lessened by one of these
abbrev pub AreLessenedBy : (Bool → Option ℕ) → LexicalOffsets → LexicalOffsets → Type 0
AreLessenedBy others before now = (heads : Bool) → offset_for heads now ≡ smaller (offset_for heads before) (others heads)

-- the clashes so far, with those of what is told
abbrev pub AreClashes : ℕ → Kept → LexicalOffsets → LexicalOffsets → Told ℕ → Type 0
AreClashes depth kept before now t = AreLessenedBy (λ heads. clashes heads (firsts_of heads depth kept) t) before now

-- with those of what is told inside a region, whose lexical names are opened
abbrev pub AreClashesInside : ℕ → Kept → LexicalOffsets → LexicalOffsets → Region ℕ → Told ℕ → Type 0
AreClashesInside depth kept before now k t = AreLessenedBy (λ heads. clashes heads (opened_in heads k t (firsts_of heads depth kept)) t) before now

-- with those of these var names
abbrev pub AreClashesOf : ℕ → Kept → LexicalOffsets → LexicalOffsets → List (Name ℕ) → Type 0
AreClashesOf depth kept before now vars = AreLessenedBy (λ heads. clash_all heads (firsts_of heads depth kept) vars) before now

-- with those of what is told where no name is declared around it
abbrev pub AreOutermostClashes : LexicalOffsets → LexicalOffsets → Told ℕ → Type 0
AreOutermostClashes before now t = AreLessenedBy (λ heads. clashes heads no_firsts t) before now

-- The clashes of what is told are taken, if the table keeps nothing of regions that more functions are around.
abbrev pub TakesClashes : ℕ → List (Option LexicalName) → LexicalOffsets → LexicalOffsets → Told ℕ → Type 0
TakesClashes depth names before now t = AreKeptTo depth (entry names) → AreClashes depth (entry names) before now t

-- So are those inside a region.
abbrev pub TakesInside : ℕ → List (Option LexicalName) → LexicalOffsets → LexicalOffsets → Region ℕ → Told ℕ → Type 0
TakesInside depth names before now k t = AreKeptTo depth (entry names) → AreClashesInside depth (entry names) before now k t
