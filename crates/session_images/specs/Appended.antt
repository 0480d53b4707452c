-- What is appended of one script that is verified.
use Rattle.std.specs.Prelude.{◌≡◌, ℕ, Bool, List, ◌++◌}
use Rattle.stencil_data.specs.declared.stencils.TryNote.{TryNote}
use Rattle.bytecode_buf.specs.Verdicts.{Soundness, IsVerified}
use Rattle.session_image_specs.specs.Images.{verified_line, is_unsound}

-- the line of this code, in the script of this number, is appended; and whether the code is unsound
pub record AppendsVerdict (number : ℕ) (code : List ℕ) (notes : List TryNote) (old new : List ℕ) (unsound : Bool) : Type 0 where
  pub verdict : Soundness
  pub is : IsVerified code notes verdict
  pub said : unsound ≡ is_unsound verdict
  pub appended : new ≡ old ++ verified_line number verdict
