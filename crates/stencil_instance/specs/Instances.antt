-- Stencils with atoms in place of texts. This project's own choice.
use Rattle.std.specs.Prelude.{◌≡◌, ℕ, ◌+◌, ◌<◌, ◌≤◌, List, [], ◌∷◌, length, slice_index_or}
use Rattle.stencil_data.specs.declared.stencils.Entry.{Entry}
use Rattle.stencil_data.specs.MergedView.{MergedView}
use Rattle.stencil_data.specs.Views.{FunctionView, RecordView}
use Rattle.atom_table.specs.declared.atoms.Atom.{Atom}
use Rattle.atom_table.specs.DeskView.{DeskView}
use Rattle.atom_table.specs.Views.{SeesText}

-- what clauses see of an instance
pub record InstanceView : Type 0 where
  pub atoms : List Atom
  pub top : FunctionView
  pub records : List RecordView
  pub entries : List Entry

-- these texts stand in the list from this number on
pub record StandFrom (all : List (List ℕ)) (base : ℕ) (texts : List (List ℕ)) : Type 0 where
  pub within : base + length texts ≤ length all
  pub each : (k : ℕ) → k < length texts → slice_index_or all (base + k) [] ≡ slice_index_or texts k []

-- by what the desk has seen, each of these atoms is that of the text beside it
abbrev pub AreSeen : DeskView → List Atom → List (List ℕ) → Type 0
AreSeen desk [] [] = Unit {0}
AreSeen desk [] (text ∷ texts) = ⊥
AreSeen desk (atom ∷ atoms) [] = ⊥
AreSeen desk (atom ∷ atoms) (text ∷ texts) = SeesText desk atom text × AreSeen desk atoms texts

-- by what the desk has seen, the instance is one of this stencil
pub record IsInstanceBy (desk : DeskView) (instance : InstanceView) (stencil : MergedView) : Type 0 where
  pub atoms : AreSeen desk instance.atoms stencil.texts
  pub top : instance.top ≡ stencil.top
  pub records : instance.records ≡ stencil.records
  pub entries : instance.entries ≡ stencil.entries
