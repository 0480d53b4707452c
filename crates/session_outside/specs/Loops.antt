-- What reading a file whole, and writing bytes whole, gives.
use Rattle.std.specs.Prelude.{◌≡◌, ℕ, ◌+◌, ◌<◌, ◌≤◌, nat_le, List, [], ◌∷◌, ◌++◌, length, Bool, true, false, if◌then◌else◌, Option, Some}
use Rattle.std.specs.Prelude.{None, Vec, Result, Ok, Err}
use Rattle.std.specs.declared.alloc.Global.{Global}
use Rattle.session_outside.specs.declared.shelf.ShelfRefusal.{ShelfRefusal}
use Rattle.session_outside.specs.Shelf.{TurnsToFront}

-- all bytes that were left where they are no more than n, else none
abbrev pub IsWholeWithin : List ℕ → ℕ → Option (Vec ℕ Global) → Type 0
IsWholeWithin left most None = most < length left
IsWholeWithin left most (Some bytes) = (bytes.items ≡ left) × (length left ≤ most)

-- the same where the shelf tells what was left
abbrev pub ReadsWithin : Option (List ℕ) → ℕ → Option (Vec ℕ Global) → Type 0
ReadsWithin None most read = Unit {0}
ReadsWithin (Some left) most read = IsWholeWithin left most read

-- the same of a name, where the shelf tells what it holds
abbrev pub ReadsNameWithin : Option (List ℕ → List ℕ) → List ℕ → ℕ → Option (Vec ℕ Global) → Type 0
ReadsNameWithin None name most read = Unit {0}
ReadsNameWithin (Some held) name most read = IsWholeWithin (held name) most read

-- no more bytes than n
abbrev pub HasAtMost : ℕ → Option (Vec ℕ Global) → Type 0
HasAtMost most None = Unit {0}
HasAtMost most (Some bytes) = length bytes.items ≤ most

-- bytes that were read: all that was left where the end was reached, else more than n
abbrev pub AreReadWithin : List ℕ → ℕ → Bool → List ℕ → Type 0
AreReadWithin left most true bytes = (bytes ≡ left) × (length left ≤ most)
AreReadWithin left most false bytes = most < length left

-- the same where the shelf tells what was left
abbrev pub HasRead : Option (List ℕ) → ℕ → Bool → List ℕ → Type 0
HasRead None most ended bytes = Unit {0}
HasRead (Some left) most ended bytes = AreReadWithin left most ended bytes

-- whether the end was reached, with no more bytes than n
abbrev pub EndsWithin : ℕ → Bool → List ℕ → Type 0
EndsWithin most true bytes = length bytes ≤ most
EndsWithin most false bytes = Unit {0}

-- ---- many files, one after another

-- of a file after n bytes of other files: all its bytes where they and those are no more than m, else none
abbrev pub IsWholeBehind : (most before : ℕ) → List ℕ → Option (Vec ℕ Global) → Type 0
IsWholeBehind most before file None = most < before + length file
IsWholeBehind most before file (Some bytes) = (bytes.items ≡ file) × (before + length file ≤ most)

-- the same of the files of these names, each after those in front of it
abbrev pub AreWholeBehind : (most : ℕ) → (List ℕ → List ℕ) → (before : ℕ) → List (List ℕ) → List (Option (Vec ℕ Global)) → Type 0
AreWholeBehind most held before [] [] = Unit {0}
AreWholeBehind most held before [] (read ∷ reads) = ⊥
AreWholeBehind most held before (name ∷ names) [] = ⊥
AreWholeBehind most held before (name ∷ names) (read ∷ reads) =
    IsWholeBehind most before (held name) read × AreWholeBehind most held (before + length (held name)) names reads

-- the same where the shelf tells what it holds
abbrev pub ReadsAllWithin : Option (List ℕ → List ℕ) → List (List ℕ) → ℕ → List (Option (Vec ℕ Global)) → Type 0
ReadsAllWithin None names most reads = Unit {0}
ReadsAllWithin (Some held) names most reads = AreWholeBehind most held 0 names reads

-- none of them has more bytes than n
abbrev pub HaveAtMost : ℕ → List (Option (Vec ℕ Global)) → Type 0
HaveAtMost most [] = Unit {0}
HaveAtMost most (read ∷ reads) = HasAtMost most read × HaveAtMost most reads

-- how many of n bytes are left after m, none where these are more
abbrev pub AreLeft : (most before : ℕ) → Option ℕ → Type 0
AreLeft most before None = most < before
AreLeft most before (Some left) = before + left ≡ most

-- the same of a file of this name, where the shelf tells what it holds
abbrev pub ReadsBehind : Option (List ℕ → List ℕ) → List ℕ → (most before : ℕ) → Option (Vec ℕ Global) → Type 0
ReadsBehind None name most before read = Unit {0}
ReadsBehind (Some held) name most before read = IsWholeBehind most before (held name) read

-- no more bytes than are left
abbrev pub HasLeft : Option ℕ → Option (Vec ℕ Global) → Type 0
HasLeft left None = Unit {0}
HasLeft None (Some bytes) = ⊥
HasLeft (Some left) (Some bytes) = length bytes.items ≤ left

-- bytes are left after a file exactly where some were left before it and it was read
abbrev pub GoesOn : Option ℕ → Option (Vec ℕ Global) → Option ℕ → Type 0
GoesOn None read now = now ≡ None
GoesOn (Some left) None now = now ≡ None
GoesOn (Some left) (Some bytes) None = ⊥
GoesOn (Some left) (Some bytes) (Some now) = Unit {0}

-- of the files of these names, after n bytes of others, those that are opened: up to and including the first with which
-- they are more than `most` bytes, all where there is no such
abbrev pub opened_within : (most : ℕ) → (List ℕ → List ℕ) → (before : ℕ) → List (List ℕ) → List (List ℕ)
opened_within most held before [] = []
opened_within most held before (name ∷ names) =
    name ∷ (if nat_le (before + length (held name)) most then opened_within most held (before + length (held name)) names else [])

-- the names that reading many files turns to, where those to be opened are these: all of them, or, after a refusal, some from the first on
abbrev pub TurnsWithin : List (List ℕ) → List (List ℕ) → List (List ℕ) → Result (Vec (Option (Vec ℕ Global)) Global) ShelfRefusal → Type 0
TurnsWithin before now names (Ok reads) = now ≡ before ++ names
TurnsWithin before now names (Err _) = TurnsToFront before now names
