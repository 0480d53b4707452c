-- What saving a text comes to, what is listed of an image, and which images count as refused. What a judge says of an image is its own.
use Rattle.std.specs.Prelude.{◌≡◌, ℕ, Bool, true, false, ◌||◌, List, length, Some, None, ◌⊎◌}
use Rattle.stencil_data.specs.Named.{NamedMerged}
use Rattle.bytecode_buf.specs.Command.{Command}
use Rattle.script_image.specs.ScriptLines.{listed_merged}
use Rattle.session_words.specs.Asked.{Wanted, All}
use Rattle.session_image_specs.specs.Images.{IsImage, IsNoImage}
use Rattle.holzikra_words.specs.declared.code.CodeFormat.{CodeFormat}
use Rattle.holzikra_words.specs.declared.code.CodeFormat.TheVariants as code
use Rattle.holzikra_words.specs.declared.load.LoadFormat.{LoadFormat}
use Rattle.holzikra_words.specs.declared.load.LoadFormat.TheVariants as load
use Rattle.holzikra_scripts.specs.declared.choice.Choice.TheVariants as choice
use Rattle.holzikra_scripts.specs.Images.{IsLoaded, IsImageCode}
use Rattle.holzikra_session.specs.Compiling.{IsCode}
use Rattle.holzikra_session.specs.declared.status.Tally.{Tally}
use Rattle.holzikra_session.specs.declared.verdict.Saved.{Saved}
use Rattle.holzikra_session.specs.declared.verdict.Saved.TheVariants as saved
use Rattle.holzikra_session.specs.declared.verdict.Verdict.{Verdict}
use Rattle.holzikra_session.specs.declared.verdict.Verdict.TheVariants as verdict
use Rattle.holzikra_session.specs.declared.verdict.Verified.{Verified}
use Rattle.holzikra_session.specs.declared.verdict.Verified.TheVariants as verified

-- the image of what is shown of the whole script that the text is; or the text is refused
abbrev pub IsSavedBy : (List ℕ → Verdict → Type 0) → (Wanted → List ℕ → NamedMerged (List Command) → Type 0) → List ℕ → Saved → Type 0
IsSavedBy judges shows text (saved.Image image) = (named : NamedMerged (List Command)) × shows All text named × IsImage named image.items
IsSavedBy judges shows text (saved.Refused reason) = judges text (verdict.Refused reason)

abbrev pub is_faulty : Verified → Bool
is_faulty (verified.Sound functions depth) = false
is_faulty (verified.Unsound script) = true
is_faulty verified.NoImage = true

-- a file that is this, taken as an image, is counted: as a refusal where it is no image or has code that is not sound
pub record IsImageCounted (found : Verified) (before after : Tally) : Type 0 where
  pub refused : after.refused ≡ (before.refused || is_faulty found)
  pub failed : after.failed ≡ before.failed

-- an image is listed, and counts as no refusal
pub record IsListedImage (format : LoadFormat) (name image : List ℕ) (before after : Tally) (out : List ℕ) : Type 0 where
  pub is : IsLoaded image (λ named lines. IsImageCode format name image named lines) (Some out)
  pub refused : after.refused ≡ before.refused
  pub failed : after.failed ≡ before.failed

-- a file that is no image counts as a refusal
pub record IsOtherFile (image : List ℕ) (before after : Tally) : Type 0 where
  pub is : IsNoImage image
  pub refused : after.refused ≡ true
  pub failed : after.failed ≡ before.failed

-- a file is listed, taken as an image
abbrev pub IsListed : LoadFormat → List ℕ → List ℕ → Tally → Tally → List ℕ → Type 0
IsListed format name image before after out = IsListedImage format name image before after out ⊎ IsOtherFile image before after

-- the format in which `code` lists the same
abbrev pub code_format : LoadFormat → CodeFormat
code_format load.Plain = code.Plain
code_format load.Human = code.Human
code_format load.Json = code.Json

-- where the bytes were saved of a script, this is a listing of that script as `code` has it, of a file of so many bytes without a source text
abbrev pub IsSavedCode : LoadFormat → List ℕ → List ℕ → List ℕ → Type 0
IsSavedCode format name image out =
    (named : NamedMerged (List Command)) → IsImage named image
    → IsCode (code_format format) name (length image) None choice.All (listed_merged named) out
