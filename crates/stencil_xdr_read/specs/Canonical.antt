-- Stencils in range whose texts are numbered as in their images.
use Rattle.std.specs.Prelude.{◌≡◌, length, Some}
use Rattle.stencil_data.specs.MergedView.{MergedView}
use Rattle.parser_atoms.specs.Places.{AreWithoutEquals}
use Rattle.stencil_xdr_read.specs.Atoms.{seen_after, stencil_atoms}
use Rattle.stencil_xdr_read.specs.Within.{StencilWithin}

abbrev pub IsCanonical : MergedView → Type 0
IsCanonical m = StencilWithin m × (seen_after 0 (stencil_atoms m) ≡ Some (length m.texts)) × AreWithoutEquals m.texts
