-- What else is asked of a stencil that stands for such values, so that it is in range: of its texts, and of the atoms of its
-- code. This project's own choice.
use Rattle.std.specs.Prelude.{ℕ, List, [], ◌∷◌, length}
use Rattle.parser_atoms.specs.Places.{AreWithoutEquals}
use Rattle.stencil_data.specs.declared.stencils.Entry.{Entry}
use Rattle.stencil_data.specs.declared.stencils.Entry.TheVariants as entry
use Rattle.stencil_data.specs.MergedView.{MergedView}
use Rattle.bytecode_buf.specs.InRange.{Small, TextsSmall, AtomWithin}
use Rattle.bytecode_buf.specs.Layout.{Numbered, instructions}
use Rattle.bytecode_buf.specs.Width.{shape_of}

-- fewer texts than 2^32, each short, and no two equal
pub record TextsStand (texts : List (List ℕ)) : Type 0 where
  pub few : Small (length texts)
  pub short : TextsSmall texts
  pub different : AreWithoutEquals texts

-- atoms are below the count of texts
abbrev pub AtomsWithin : ℕ → List Numbered → Type 0
AtomsWithin texts [] = Unit {0}
AtomsWithin texts (i ∷ is) = AtomWithin (shape_of i.op) i.a texts × AtomsWithin texts is

abbrev pub EntriesStand : ℕ → List Entry → Type 0
EntriesStand texts [] = Unit {0}
EntriesStand texts (entry.Lazy ∷ entries) = EntriesStand texts entries
EntriesStand texts (entry.Compiled part ∷ entries) = AtomsWithin texts (instructions part.code) × EntriesStand texts entries

-- the code of all parts
pub record CodesStand (merged : MergedView) : Type 0 where
  pub top : AtomsWithin (length merged.texts) (instructions merged.top.code)
  pub entries : EntriesStand (length merged.texts) merged.entries
