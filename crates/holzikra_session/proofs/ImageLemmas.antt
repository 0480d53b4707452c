-- What is listed of an image is listed of the script that was saved as it.
use Rattle.std.proofs.Common.{◌≡◌, ℕ, List, length, None, Bool, true, false, ◌||◌, refl}
use Rattle.stencil_data.specs.Named.{NamedMerged}
use Rattle.bytecode_buf.specs.Command.{Listed}
use Rattle.holzikra_words.specs.declared.load.LoadFormat.{LoadFormat}
use Rattle.holzikra_words.specs.declared.load.LoadFormat.TheVariants as load
use Rattle.holzikra_scripts.specs.declared.choice.Choice.TheVariants as choice
use Rattle.holzikra_scripts.specs.Images.{IsImageCode}
use Rattle.holzikra_session.specs.Compiling.{IsCode}
use Rattle.holzikra_session.specs.Images.{code_format}

pub code_of_image : (format : LoadFormat) (name image out : List ℕ) (named : NamedMerged (List Listed)) → IsImageCode format name image named out
    → IsCode (code_format format) name (length image) None choice.All named out
code_of_image load.Plain name image out named is = is
code_of_image load.Human name image out named is = λ all. is
code_of_image load.Json name image out named is = is

pub or_true : (b : Bool) → (b || true) ≡ true
or_true true = refl
or_true false = refl
