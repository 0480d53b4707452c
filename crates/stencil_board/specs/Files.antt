-- The files of a command, and what a function of one of them is compiled to. This project's own choice.
use Rattle.std.specs.Prelude.{◌≡◌, ℕ, true, List, [], slice_index_or}
use Rattle.std.specs.Coded.{Coded-set, codes}
use Rattle.lazy_compile.specs.declared.Delazified.{Delazified}
use Rattle.lazy_compile.specs.Delazified.{all_texts}
use Rattle.lazy_function.specs.Numbered.{IsCompiledFunction}
use Rattle.lazy_function.specs.OneProof.{IsCompiledFunction-prop}
use Rattle.lazy_function.specs.Texts.{are_among}

-- the bytes of a file, and the texts of what its script is before any function of it is compiled
pub record File : Type 0 where
  pub bytes : List ℕ
  pub texts : List (List ℕ)

abbrev pub file_at : List File → ℕ → File
file_at files file = slice_index_or files file (record { bytes = []; texts = [] })

-- this is what the function of this number is compiled to, and its texts are among the file's
pub record IsFilled (file : File) (number : ℕ) (made : Delazified) : Type 0 where
  pub compiled : IsCompiledFunction file.bytes number made
  pub among : are_among file.texts (all_texts made) ≡ true

pub IsFilled-prop : (file : File) (number : ℕ) (made : Delazified) → IsProp (IsFilled file number made)
IsFilled-prop file number made = hlevel (IsCompiledFunction-prop, Coded-set, codes)
