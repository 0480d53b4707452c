-- What a desk knows of atoms. This project's own choice.
use Rattle.std.specs.Prelude.{◌≡◌, ℕ, ◌+◌, ◌↔◌, List, slice_get, Some}
use Rattle.atom_table.specs.declared.atoms.Atom.{Atom}
use Rattle.atom_table.specs.DeskView.{DeskView}
use Rattle.atom_table.specs.Words.{Has}

-- the desk has seen that this atom stands for this text: at the atom's place stands one more than a
-- number of the text
abbrev pub SeesText : DeskView → Atom → List ℕ → Type 0
SeesText desk atom text = (number : ℕ) × Has desk.seen (atom.place, number + 1) × (slice_get desk.table.list.texts number ≡ Some text)

-- the desk has seen this atom
abbrev pub SeesAtom : DeskView → Atom → Type 0
SeesAtom desk atom = (number : ℕ) × Has desk.seen (atom.place, number + 1)

-- what was seen before is seen still
abbrev pub StillSees : DeskView → DeskView → Type 0
StillSees before after = (x : ℕ × ℕ) → Has before.seen x → Has after.seen x

-- two atoms that the desk has seen are equal exactly where their texts are
abbrev pub OneAtomEach : DeskView → Type 0
OneAtomEach desk = (a b : Atom) (s t : List ℕ) → SeesText desk a s → SeesText desk b t → (a ≡ b) ↔ (s ≡ t)
