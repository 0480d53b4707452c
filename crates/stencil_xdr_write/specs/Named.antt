-- The numbering of texts once items have named them.
use Rattle.std.specs.Prelude.{◌≡◌, ℕ, ◌^◌, ◌+◌, ◌-◌, ◌<◌, ◌≤◌, List, ◌++◌, length, Option, Some, slice_get, slice_set, is_some, count_by}
use Rattle.stencil_data.specs.StandsFor.{text_at}
use Rattle.stencil_xdr_specs.specs.Image.{Item, Bytes, Atom, named, firsts}
use Rattle.parser_atoms.specs.Places.{Interns}
use Rattle.stencil_xdr_read.specs.Reading.{Each}
use Rattle.stencil_xdr_write.specs.Numbers.{place_of}

-- what clauses see of a `Numbering`: the texts of the stencil, a new number for each that was
-- named and after them one for the atoms that are no text's, and the numbered texts
pub record NumberingView : Type 0 where
  pub texts : List (List ℕ)
  pub table : List (Option ℕ)
  pub atoms : List (List ℕ)

-- there is room for a text more where one has no number
pub record HasRoom (texts : List (List ℕ)) (table : List (Option ℕ)) (atoms : List (List ℕ)) : Type 0 where
  pub many : length table ≡ length texts + 1
  pub few : length texts < 2 ^ 32 - 1
  pub fewer : length atoms ≤ count_by is_some table

-- the text that an item names, of n, has a number
abbrev pub HasNumber : ℕ → List (Option ℕ) → Item → Type 0
HasNumber count table (Bytes bs) = Unit {0}
HasNumber count table (Atom a) = (k : ℕ) × (slice_get table (place_of count a) ≡ Some (Some k))

-- a place that had no number has this one
pub record Names (old : NumberingView) (a : ℕ) (new : NumberingView) : Type 0 where
  pub same : new.texts ≡ old.texts
  pub number : ℕ
  pub table : new.table ≡ slice_set old.table a (Some number)
  pub interned : Interns old.atoms new.atoms (text_at old.texts a) number

-- each number is the place of its text
abbrev pub AreRight : List (List ℕ) → List (Option ℕ) → List (List ℕ) → Type 0
AreRight texts table atoms = (a k : ℕ) → slice_get table a ≡ Some (Some k) → slice_get atoms k ≡ Some (text_at texts a)

-- the texts that these items name are numbered in their order
pub record IsNumbered (texts : List (List ℕ)) (seen : List Item) (n : NumberingView) : Type 0 where
  pub same : n.texts ≡ texts
  pub many : length n.table ≡ length texts + 1
  pub firsts : n.atoms ≡ firsts (named texts seen)
  pub right : AreRight texts n.table n.atoms
  pub all : Each (HasNumber (length texts) n.table) seen

-- where the texts that some items name are numbered, those of the further items are too
abbrev pub NumbersMore : NumberingView → List Item → NumberingView → Type 0
NumbersMore old is new = (texts : List (List ℕ)) (seen : List Item) → IsNumbered texts seen old → IsNumbered texts (seen ++ is) new
