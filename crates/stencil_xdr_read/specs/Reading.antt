-- When reading a part of an image from the beginning of bytes is right. This project's own choice.
use Rattle.std.specs.Prelude.{◌≡◌, ℕ, ◌^◌, ◌<◌, List, [], ◌∷◌, ◌++◌, length, flat_map, Option, Some, None, Result, Ok, Err}
use Rattle.bytecode_buf.specs.Bytes.{le_bytes}
use Rattle.stencil_xdr_read.specs.declared.fault.ImageFault.{ImageFault}
use Rattle.stencil_xdr_read.specs.declared.fault.ImageFault.TheVariants as fault

-- the bytes begin with those of no part that fits
abbrev pub BeginWithNone : {A : Type 0} → (A → List ℕ) → (A → Type 0) → List ℕ → Type 0
BeginWithNone {A} part Fits bytes = (x : A) (rest : List ℕ) → Fits x → bytes ≡ part x ++ rest → ⊥

-- the bytes begin with those of this part, and others are left
pub record IsReadAs {A : Type 0} (part : A → List ℕ) (Fits : A → Type 0) (before after : List ℕ) (x : A) : Type 0 where
  pub is : before ≡ part x ++ after
  pub fits : Fits x

abbrev pub IsRefusedBy : {A : Type 0} → (A → List ℕ) → (A → Type 0) → List ℕ → ImageFault → Type 0
IsRefusedBy part Fits before fault.NoImage = BeginWithNone part Fits before
IsRefusedBy part Fits before fault.NoMemory = Unit {0}

-- what a call that reads a part answers: the part with which the bytes begin, or that they begin with none
abbrev pub Reads : {A : Type 0} → (A → List ℕ) → (A → Type 0) → List ℕ → List ℕ → Result A ImageFault → Type 0
Reads part Fits before after (Ok x) = IsReadAs part Fits before after x
Reads part Fits before after (Err e) = IsRefusedBy part Fits before e

-- parts with their bytes are told apart, whatever follows
abbrev pub AreUnique : {A : Type 0} → (A → List ℕ) → (A → Type 0) → Type 0
AreUnique {A} part Fits = (x y : A) (r s : List ℕ) → Fits x → Fits y → part x ++ r ≡ part y ++ s → (x ≡ y) × (r ≡ s)

-- ---- bytes and numbers

abbrev pub byte : ℕ → List ℕ
byte b = b ∷ []

abbrev pub IsByte : ℕ → Type 0
IsByte b = b < 256

abbrev pub number : ℕ → ℕ → List ℕ
number width n = le_bytes width n

-- the number fits n bytes
abbrev pub Fits : ℕ → ℕ → Type 0
Fits width n = n < 256 ^ width

-- ---- pairs, and what may be missing

abbrev pub pair_bytes : {A B : Type 0} → (A → List ℕ) → (B → List ℕ) → A × B → List ℕ
pair_bytes first second p = first p.0 ++ second p.1

abbrev pub FitPair : {A B : Type 0} → (A → Type 0) → (B → Type 0) → A × B → Type 0
FitPair First Second p = First p.0 × Second p.1

abbrev pub maybe_bytes : {A : Type 0} → (A → List ℕ) → Option A → List ℕ
maybe_bytes part None = 0 ∷ []
maybe_bytes part (Some x) = 1 ∷ part x

abbrev pub FitMaybe : {A : Type 0} → (A → Type 0) → Option A → Type 0
FitMaybe Fit None = Unit {0}
FitMaybe Fit (Some x) = Fit x

-- ---- lists

abbrev pub Each : {A : Type 0} → (A → Type 0) → List A → Type 0
Each Fit [] = Unit {0}
Each Fit (x ∷ xs) = Fit x × Each Fit xs

-- n items
abbrev pub AreItems : {A : Type 0} → ℕ → (A → Type 0) → List A → Type 0
AreItems count Fit xs = (length xs ≡ count) × Each Fit xs

abbrev pub list_bytes : {A : Type 0} → (A → List ℕ) → List A → List ℕ
list_bytes part xs = number 4 (length xs) ++ flat_map part xs

abbrev pub FitList : {A : Type 0} → (A → Type 0) → List A → Type 0
FitList Fit xs = Fits 4 (length xs) × Each Fit xs
