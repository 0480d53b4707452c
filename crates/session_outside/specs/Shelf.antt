-- What the calls of a shelf do to its five meanings, each by cases on the call's answer. The shelf is
-- this project's own: nothing outside is named by it.
use Rattle.std.specs.Prelude.{◌≡◌, ℕ, ◌<◌, Bool, true, false, List, [], ◌∷◌, ◌++◌, suc, zero, take, drop, Option, Some, None, Vec, Result}
use Rattle.std.specs.Prelude.{Ok, Err, ◌⊎◌}
use Rattle.std.specs.declared.alloc.Global.{Global}
use Rattle.session_outside.specs.declared.shelf.ShelfRefusal.{ShelfRefusal}
use Rattle.session_outside.specs.declared.shelf.ShelfRefusal.TheVariants.{Failed, NoMemory}

-- the count of faults rises exactly where the call answers `Failed`
abbrev pub CountsShelf : {T : Type 0} → ℕ → ℕ → Result T ShelfRefusal → Type 0
CountsShelf before now (Ok _) = now ≡ before
CountsShelf before now (Err Failed) = before < now
CountsShelf before now (Err NoMemory) = now ≡ before

-- the names turned to gain this one, also where the call failed; want of memory leaves them
abbrev pub AddsName : {T : Type 0} → List (List ℕ) → List (List ℕ) → List ℕ → Result T ShelfRefusal → Type 0
AddsName before now name (Ok _) = now ≡ before ++ name ∷ []
AddsName before now name (Err Failed) = now ≡ before ++ name ∷ []
AddsName before now name (Err NoMemory) = now ≡ before

-- `turn_to` opens the shelf, a fault closes it, want of memory leaves it as it was
abbrev pub Opens : {T : Type 0} → Bool → Bool → Result T ShelfRefusal → Type 0
Opens before now (Ok _) = now ≡ true
Opens before now (Err Failed) = now ≡ false
Opens before now (Err NoMemory) = now ≡ before

-- where the shelf tells what it holds, all bytes of the name are left to be read
abbrev pub LeavesAll : Option (List ℕ → List ℕ) → Option (List ℕ) → List ℕ → Type 0
LeavesAll None left name = left ≡ None
LeavesAll (Some held) left name = left ≡ Some (held name)

-- what is left after `turn_to`: all bytes of the name, or what was left where memory was wanting;
-- nothing is said of a shelf that a fault closed
abbrev pub LeavesAfterTurn : {T : Type 0} → Option (List ℕ → List ℕ) → Option (List ℕ) → Option (List ℕ) → List ℕ → Result T ShelfRefusal → Type 0
LeavesAfterTurn held before now name (Ok _) = LeavesAll held now name
LeavesAfterTurn held before now name (Err Failed) = Unit {0}
LeavesAfterTurn held before now name (Err NoMemory) = now ≡ before

-- a `read` that gives no byte closes the shelf, and so does a fault
abbrev pub StaysOpen : Bool → Bool → Result ℕ ShelfRefusal → Type 0
StaysOpen before now (Ok zero) = now ≡ false
StaysOpen before now (Ok (suc _)) = now ≡ true
StaysOpen before now (Err Failed) = now ≡ false
StaysOpen before now (Err NoMemory) = now ≡ before

-- where the shelf tells, `count` bytes go from the front of what was left to the front of the buffer,
-- and none only where none was left
abbrev pub TakesFront : Option (List ℕ) → Option (List ℕ) → ℕ → List ℕ → Type 0
TakesFront None now count buffer = now ≡ None
TakesFront (Some left) now count buffer =
    (now ≡ Some (drop count left)) × (take count buffer ≡ take count left) × (count ≡ 0 → left ≡ [])

-- what is left after `read`; nothing is said of a shelf that a fault closed
abbrev pub LeavesAfterRead : Option (List ℕ) → Option (List ℕ) → List ℕ → Result ℕ ShelfRefusal → Type 0
LeavesAfterRead before now buffer (Ok count) = TakesFront before now count buffer
LeavesAfterRead before now buffer (Err Failed) = Unit {0}
LeavesAfterRead before now buffer (Err NoMemory) = now ≡ before

-- the shelf was turned to this name, or to none
abbrev pub TurnsAtMost : List (List ℕ) → List (List ℕ) → List ℕ → Type 0
TurnsAtMost before now name = (now ≡ before) ⊎ (now ≡ before ++ name ∷ [])

-- the names that reading a whole file turns to: the file's own, or none where memory was wanting
abbrev pub TurnsToRead : {T : Type 0} → List (List ℕ) → List (List ℕ) → List ℕ → Result T ShelfRefusal → Type 0
TurnsToRead before now name (Ok _) = now ≡ before ++ name ∷ []
TurnsToRead before now name (Err Failed) = now ≡ before ++ name ∷ []
TurnsToRead before now name (Err NoMemory) = TurnsAtMost before now name

-- the shelf was turned to some of these names, from the first on
abbrev pub TurnsToFront : List (List ℕ) → List (List ℕ) → List (List ℕ) → Type 0
TurnsToFront before now names = (front : List (List ℕ)) × (rest : List (List ℕ)) × (names ≡ front ++ rest) × (now ≡ before ++ front)

-- where at most n bytes may be read, if any: the names that reading a file turns to, none where no byte may be read
abbrev pub TurnsToNext : {T : Type 0} → Option ℕ → List (List ℕ) → List (List ℕ) → List ℕ → Result T ShelfRefusal → Type 0
TurnsToNext None before now name result = now ≡ before
TurnsToNext (Some left) before now name result = TurnsToRead before now name result

-- of these names, of whose files this was read: those up to the first of which none was read, all where there is no such
abbrev pub opened : List (List ℕ) → List (Option (Vec ℕ Global)) → List (List ℕ)
opened [] reads = []
opened (name ∷ names) [] = []
opened (name ∷ names) (None ∷ reads) = name ∷ []
opened (name ∷ names) (Some bytes ∷ reads) = name ∷ opened names reads

-- the names that reading many files turns to: those that are opened, or, after a refusal, some from the first on
abbrev pub TurnsToOpened : List (List ℕ) → List (List ℕ) → List (List ℕ) → Result (Vec (Option (Vec ℕ Global)) Global) ShelfRefusal → Type 0
TurnsToOpened before now names (Ok reads) = now ≡ before ++ opened names reads.items
TurnsToOpened before now names (Err _) = TurnsToFront before now names
