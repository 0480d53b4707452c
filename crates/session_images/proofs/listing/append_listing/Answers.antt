use Rattle.script_image.specs.Listed.{listed_stencil}
use Rattle.session_images.proofs.Ranged.{stands_as_listed}
use Rattle.session_images.proofs.listing.append_listing.Goals as goal

pub returns-clause-listing : goal.returns-clause-listing
returns-clause-listing c =
    let stands = stands_as_listed c.in_ok-stencil.stencil c.in_ok-stencil.ensures.image.range in (
      listed_stencil c.in_ok-stencil.stencil,
      record { stencil = c.in_ok-stencil.stencil; is = c.in_ok-stencil.ensures.image; stands = stands },
      c.in_ok-code_text.ensures (listed_stencil c.in_ok-stencil.stencil) stands,
    )
