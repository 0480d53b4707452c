-- What a `MapShelf` holds, and which of its calls are told to fail.
use Rattle.std.specs.Prelude.{◌≡◌, ℕ, ◌+◌, ◌-◌, ◌^◌, min, List, Contains, IsSome, Result, Ok, Err}
use Rattle.session_outside.specs.Files.{place_of}
use Rattle.session_outside.specs.declared.shelf.ShelfRefusal.{ShelfRefusal}
use Rattle.session_outside.specs.declared.shelf.ShelfRefusal.TheVariants.{Failed, NoMemory}
use Rattle.session_outside.specs.declared.memory_shelf.MapShelf.{MapShelf}

-- a file of this name is there
abbrev pub HasName : MapShelf → List ℕ → Type 0
HasName shelf name = IsSome (place_of shelf.open.files.items name)

-- the next call is told to fail
abbrev pub IsTold : MapShelf → Type 0
IsTold shelf = Contains shelf.fail.items shelf.calls

-- the call fails, unless memory is wanting
abbrev pub Fails : {T : Type 0} → Result T ShelfRefusal → Type 0
Fails (Ok _) = ⊥
Fails (Err Failed) = Unit {0}
Fails (Err NoMemory) = Unit {0}

-- the number of the call after this one: a call that memory was wanting for is not counted
abbrev pub number_after : {T : Type 0} → Result T ShelfRefusal → ℕ → ℕ
number_after (Ok _) number = min (number + 1) (2 ^ 64 - 1)
number_after (Err Failed) number = min (number + 1) (2 ^ 64 - 1)
number_after (Err NoMemory) number = number

-- The files and the numbers of the calls that are told to fail stay, and the call was counted.
pub record Counted {T : Type 0} (before now : MapShelf) (result : Result T ShelfRefusal) : Type 0 where
  pub files : now.open.files ≡ before.open.files
  pub told : now.fail ≡ before.fail
  pub number : now.calls ≡ number_after result before.calls
