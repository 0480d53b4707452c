-- What is written of the stencil of a whole script is the script's image.
use Rattle.std.proofs.Common.{ℕ, ◌≤◌, List, length}
use Rattle.stencil_data.specs.MergedView.{MergedView}
use Rattle.session_specs.specs.Answer.{to_show}
use Rattle.session_words.specs.Asked.{All}
use Rattle.compile_image_laws.proofs.Images.{shown_has_image}
use Rattle.stencil.specs.Stencils.{IsStencilOf}
use Rattle.stencil_xdr_laws.specs.Written.{IsWrittenOf}
use Rattle.holzikra.specs.Images.{IsSavedImage}

pub saved_of : (text : List ℕ) (stencil : MergedView) (image : List ℕ) → length text ≤ 16777215 → IsStencilOf All text stencil → IsWrittenOf stencil image → IsSavedImage text image
saved_of text stencil image short whole written =
    let is = whole.is in (
      is.shows.named,
      record { items = is.items; count = whole.count; valid = is.valid; shown = is.shows.shown },
      shown_has_image text is.items whole.count (length text) (to_show All) stencil image short is.valid is.shows is.small written,
    )
