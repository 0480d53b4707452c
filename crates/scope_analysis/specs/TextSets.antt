-- Which texts a set of them has.
use Rattle.std.specs.Prelude.{ℕ, ◌≡◌, ◌/◌, ◌%◌, ◌^◌, ◌<◌, Bool, false, ◌||◌, bytes_eq, get_or, length, List, map, Option, None, Some}
use Rattle.std.specs.Borrow.{Bor}
use Rattle.std.specs.BTreeSet.{BTreeSet}
use Rattle.parser_atoms.specs.Digest.{digest_of}
use Rattle.stencil_data.specs.StandsFor.{text_at}
use Rattle.scope_analysis.specs.DeclaredNames.{Text, has_text}

abbrev pub texts_in : BTreeSet (Bor Text) → List Text
texts_in some = map (λ (k : Bor Text). k.now) some.keys

-- the two cells of a text, each of so many
abbrev pub first_cell_of : Text → ℕ → ℕ
first_cell_of text count = digest_of text % count

abbrev pub second_cell_of : Text → ℕ → ℕ
second_cell_of text count = (digest_of text / 2 ^ 32) % count

-- the atom in each of them
abbrev pub first_of : List (Option ℕ) → Text → Option ℕ
first_of cells q = get_or cells (first_cell_of q (length cells)) None

abbrev pub second_of : List (Option ℕ) → Text → Option ℕ
second_of cells q = get_or cells (second_cell_of q (length cells)) None

-- whether a text is that of the atom in its cell, or else elsewhere
abbrev pub found : List Text → Option ℕ → (elsewhere : Bool) → Text → Bool
found texts None elsewhere q = false
found texts (Some first) elsewhere q = bytes_eq (text_at texts first) q || elsewhere

-- whether it is among those whose first cell another one has
abbrev pub has_later : List Text → List (Option ℕ) → BTreeSet (Bor Text) → Text → Bool
has_later texts cells others q = found texts (second_of cells q) (has_text (texts_in others) q) q

abbrev pub has : List Text → (first second : List (Option ℕ)) → BTreeSet (Bor Text) → Text → Bool
has texts first second others q = found texts (first_of first q) (has_later texts second others q) q

-- there is a cell, and no text is among the others whose second cell is free
pub record HasSecondPlace (cells : List (Option ℕ)) (others : BTreeSet (Bor Text)) : Type 0 where
  pub some : 0 < length cells
  pub taken : (q : Text) → second_of cells q ≡ None → has_text (texts_in others) q ≡ false

-- so of those, and there is a first cell, and no text is among them whose first cell is free
pub record HasPlace (texts : List Text) (first second : List (Option ℕ)) (others : BTreeSet (Bor Text)) : Type 0 where
  pub some : 0 < length first
  pub taken : (q : Text) → first_of first q ≡ None → has_later texts second others q ≡ false
  pub later : HasSecondPlace second others
