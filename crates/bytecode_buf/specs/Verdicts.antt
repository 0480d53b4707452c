-- Whether code is sound, and how deep its stack gets. This project's own choice.
use Rattle.std.specs.Prelude.{◌≡◌, ℕ, ◌≤◌, List, Option, Some}
use Rattle.stencil_data.specs.declared.stencils.TryNote.{TryNote}
use Rattle.bytecode_buf.specs.Machine.{IsLeastTable, HasDepthTable}

-- Whether code never takes from an empty stack and never leaves its instructions; if so, how deep its stack gets at most.
pub data Soundness : Type 0 where
  Sound : ℕ → Soundness
  Unsound : Soundness

pub record IsGreatest (table : ℕ → Option ℕ) (depth : ℕ) : Type 0 where
  pub at : ℕ
  pub is : table at ≡ Some depth
  pub most : (offset other : ℕ) → table offset ≡ Some other → other ≤ depth

pub record IsSound (code : List ℕ) (notes : List TryNote) (depth : ℕ) : Type 0 where
  pub table : ℕ → Option ℕ
  pub least : IsLeastTable code notes table
  pub greatest : IsGreatest table depth

abbrev pub IsVerified : List ℕ → List TryNote → Soundness → Type 0
IsVerified code notes (Sound depth) = IsSound code notes depth
IsVerified code notes Unsound = HasDepthTable code notes → ⊥
