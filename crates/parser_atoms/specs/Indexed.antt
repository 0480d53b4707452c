-- How the cells and the tree that find the place of a text fit the list of texts.
use Rattle.std.specs.Prelude.{◌≡◌, ℕ, ◌+◌, ◌-◌, ◌/◌, ◌<◌, ◌^◌, ◌⊎◌, Option, Some, None, List, get_or, slice_get, length}
use Rattle.std.specs.Int.Bits.{bit_and}
use Rattle.std.specs.Ordering.{nat_cmp}
use Rattle.std.specs.Cmp.Lexicographic.{slice_cmp}
use Rattle.std.specs.BTreeMap.{BTreeMap, get_by}
use Rattle.std.specs.declared.alloc.Global.{Global}
use Rattle.std.specs.declared.vec.Vec.{Vec}
use Rattle.parser_atoms.specs.declared.cells.Entry.{Entry}
use Rattle.parser_atoms.specs.Digest.{digest_of}
use Rattle.parser_atoms.specs.Places.{AreWithoutEquals}

-- Cells, each of one text or of none.
abbrev pub Cells : Type 0
Cells = List (Option Entry)

-- The tree from each text of which both cells are others' to its place.
abbrev pub Others : Type 0
Others = BTreeMap (Vec ℕ Global) ℕ

-- The two cells of a digest, each of so many.
abbrev pub first_cell_of : ℕ → ℕ → ℕ
first_cell_of digest count = bit_and digest (count - 1)

abbrev pub second_cell_of : ℕ → ℕ → ℕ
second_cell_of digest count = bit_and (digest / 2 ^ 32) (count - 1)

-- What stands in each of them.
abbrev pub first_of : Cells → ℕ → Option Entry
first_of cells digest = get_or cells (first_cell_of digest (length cells)) None

abbrev pub second_of : Cells → ℕ → Option Entry
second_of cells digest = get_or cells (second_cell_of digest (length cells)) None

-- The place that the tree has for a text.
abbrev pub other_of : Others → List ℕ → Option ℕ
other_of others text = get_by (λ (key : Vec ℕ Global). slice_cmp nat_cmp text key.items) others

-- The entry has the place of a text, and the upper half of the text's digest.
abbrev pub IsEntryIn : List (List ℕ) → Entry → Type 0
IsEntryIn texts entry = (text : List ℕ) × (slice_get texts entry.place ≡ Some text) × (entry.half ≡ digest_of text / 2 ^ 32)

-- The text has its place in its second cell, or that is another text's and the tree has its place.
abbrev pub IsHeldLater : Cells → Others → List ℕ → ℕ → Type 0
IsHeldLater cells others text i = (entry : Entry) × (second_of cells (digest_of text) ≡ Some entry) × ((i ≡ entry.place) ⊎ (other_of others text ≡ Some i))

-- The text has its place in its first cell, or that is another text's and it is held later.
abbrev pub IsHeld : Cells → Others → List ℕ → ℕ → Type 0
IsHeld cells others text i = (entry : Entry) × (first_of cells (digest_of text) ≡ Some entry) × ((i ≡ entry.place) ⊎ IsHeldLater cells others text i)

-- The cells and the tree have the places of the first `count` texts, and the place of no text that does not stand there.
pub record IsIndexed (texts : List (List ℕ)) (count : ℕ) (cells : Cells) (others : Others) : Type 0 where
  pub entry : (k : ℕ) (entry : Entry) → get_or cells k None ≡ Some entry → IsEntryIn texts entry
  pub other : (text : List ℕ) (i : ℕ) → other_of others text ≡ Some i → slice_get texts i ≡ Some text
  pub held : (text : List ℕ) (i : ℕ) → i < count → slice_get texts i ≡ Some text → IsHeld cells others text i

-- After the place of the next text was put in, the cells and the tree have it too.
abbrev pub Indexes : Cells → Others → List ℕ → ℕ → Cells → Others → Type 0
Indexes cells others text place now_cells now_others = (texts : List (List ℕ)) → AreWithoutEquals texts → slice_get texts place ≡ Some text
    → IsIndexed texts place cells others → IsIndexed texts (place + 1) now_cells now_others

-- They have the places of all texts, no two of which are equal.
pub record IsWhole (texts : List (List ℕ)) (cells : Cells) (others : Others) : Type 0 where
  pub indexed : IsIndexed texts (length texts) cells others
  pub apart : AreWithoutEquals texts
  pub few : length texts < 2 ^ 32
