-- What the program saves of a text, and what it finds in an image: by the definitions of session_image_specs and of the library `stencil`.
use Rattle.std.specs.Prelude.{◌≡◌, ℕ, List, length}
use Rattle.stencil_data.specs.MergedView.{MergedView}
use Rattle.stencil_data.specs.Named.{NamedMerged}
use Rattle.bytecode_buf.specs.Command.{Command}
use Rattle.session_words.specs.Asked.{All}
use Rattle.session_image_specs.specs.Images.{IsImage, IsNoImage}
use Rattle.stencil.specs.Verified.{AreSound, IsFirstUnsound}
use Rattle.stencil_xdr_specs.specs.Image.{IsImageOf}
use Rattle.holzikra_session.specs.declared.verdict.Verified.{Verified}
use Rattle.holzikra_session.specs.declared.verdict.Verified.TheVariants as verified
use Rattle.holzikra.specs.Compiling.{IsShownFor}

-- the image of what is shown of the whole script that the text is
abbrev pub IsSavedImage : List ℕ → List ℕ → Type 0
IsSavedImage text image = (named : NamedMerged (List Command)) × IsShownFor All text named × IsImage named image

-- what is found in bytes: the image of a stencil, all code of which is sound or that of some script is the first that is not; or no image
abbrev pub IsFound : List ℕ → Verified → Type 0
IsFound image (verified.Sound functions depth) =
    (stencil : MergedView) × IsImageOf stencil image × AreSound stencil depth × (functions ≡ length stencil.records)
IsFound image (verified.Unsound script) = (stencil : MergedView) × IsImageOf stencil image × IsFirstUnsound stencil script
IsFound image verified.NoImage = IsNoImage image
