-- The image that is written of a stencil. This project's own choice.
use Rattle.std.specs.Prelude.{ℕ, List}
use Rattle.stencil_data.specs.MergedView.{MergedView}
use Rattle.stencil_data.specs.Named.{NamedMerged}
use Rattle.stencil_data.specs.StandsFor.{MergedStandsFor}
use Rattle.bytecode_buf.specs.Command.{Command, ShowsCommands}
use Rattle.bytecode_buf.specs.InRange.{TextsSmall}
use Rattle.session_image_specs.specs.Images.{IsImage}
use Rattle.stencil_xdr_laws.specs.Sizes.{MergedSmall}

-- the bytes are the image of each small script that the stencil stands for, if its texts are small
abbrev pub IsWrittenOf : MergedView → List ℕ → Type 0
IsWrittenOf merged bytes =
    TextsSmall merged.texts → (named : NamedMerged (List Command)) → MergedStandsFor ShowsCommands merged named → MergedSmall named
    → IsImage named bytes
