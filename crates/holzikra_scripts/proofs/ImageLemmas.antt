-- What is listed of the stencil that is read of an image is listed of each value that the image is of.
use Rattle.std.proofs.Common.{ℕ, List}
use Rattle.stencil_data.specs.MergedView.{MergedView}
use Rattle.stencil_data.specs.Named.{NamedMerged}
use Rattle.bytecode_buf.specs.Command.{Command, Listed}
use Rattle.script_image.specs.ScriptLines.{listed_merged}
use Rattle.script_image.proofs.Stands.{commands_as_listed}
use Rattle.stencil_xdr_specs.specs.Image.{IsImageOf}
use Rattle.stencil_xdr_read.specs.ReadBack.{StandAlike}
use Rattle.session_image_specs.specs.Images.{IsImage, IsImageFor}
use Rattle.holzikra_words.specs.declared.load.LoadFormat.{LoadFormat}
use Rattle.holzikra_words.specs.declared.load.LoadFormat.TheVariants as load
use Rattle.holzikra_scripts.specs.Images.{IsImageCode, IsStencilCode}

pub listed_of :
    (format : LoadFormat) (name bytes out : List ℕ) (stencil : MergedView)
    → ((other : MergedView) → IsImageOf other bytes → StandAlike other stencil)
    → IsStencilCode format name bytes stencil out
    → (named : NamedMerged (List Listed)) → IsImageFor bytes named → IsImageCode format name bytes named out
listed_of load.Plain name bytes out stencil alike written named has = written named ((alike has.stencil has.is named).0 has.stands)
listed_of load.Human name bytes out stencil alike written named has = written named ((alike has.stencil has.is named).0 has.stands)
listed_of load.Json name bytes out stencil alike written named has = written named ((alike has.stencil has.is named).0 has.stands)

-- an image of a script is one of what its commands are listed as
pub image_as_listed : (bytes : List ℕ) (named : NamedMerged (List Command)) → IsImage named bytes → IsImageFor bytes (listed_merged named)
image_as_listed bytes named has = record { stencil = has.stencil; is = has.is; stands = commands_as_listed has.stencil named has.stands }
