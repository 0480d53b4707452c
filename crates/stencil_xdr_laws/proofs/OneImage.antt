-- Stencils that stand for one value have one image, so a script has one image.
use Rattle.std.proofs.Common.{◌≡◌, ℕ, List, length, ap, sym, ◌∙◌}
use Rattle.stencil_data.specs.MergedView.{MergedView}
use Rattle.stencil_data.specs.Named.{NamedMerged}
use Rattle.stencil_data.specs.StandsFor.{MergedStandsFor}
use Rattle.bytecode_buf.specs.Command.{Command, Listed, ShowsCommands}
use Rattle.bytecode_buf.specs.InRange.{InRange}
use Rattle.stencil_xdr_specs.specs.Image.{image}
use Rattle.script_image.specs.Listed.{ShowsListed, listed_stencil}
use Rattle.script_image.specs.ScriptLines.{listed_merged}
use Rattle.script_image.proofs.Stands.{stencil_is, commands_as_listed}
use Rattle.stencil_xdr_read.proofs.Anew.{entries_whole}
use Rattle.session_image_specs.specs.Images.{IsImage}
use Rattle.stencil_xdr_laws.specs.Pieces.{pieces, image_of}
use Rattle.stencil_xdr_laws.proofs.Pieces.{image_of_pieces}
use Rattle.stencil_xdr_laws.proofs.PartPieces.{stencil_shows}

-- the image of a stencil in range is written of what it is listed as
pub image_as_listed : (m : MergedView) → InRange m → image m ≡ image_of (listed_stencil m)
image_as_listed m r =
    image_of_pieces m (pieces (listed_stencil m)) (stencil_shows m r.top.range.code.whole (entries_whole (length m.texts) (length m.records) m.records m.records m.entries r.entries))

-- the image of a stencil that stands for a listed script is written of that
pub image_of_listed : (m : MergedView) (n : NamedMerged (List Listed)) → InRange m → MergedStandsFor ShowsListed m n → image m ≡ image_of n
image_of_listed m n r s = image_as_listed m r ∙ ap image_of (stencil_is m n s)

-- stencils in range that stand for one listed script have one image
pub one_listing_one_image : (m other : MergedView) (n : NamedMerged (List Listed)) → InRange m → InRange other → MergedStandsFor ShowsListed m n → MergedStandsFor ShowsListed other n → image m ≡ image other
one_listing_one_image m other n r q s t = image_of_listed m n r s ∙ sym (image_of_listed other n q t)

-- the image of a stencil that stands for a script of commands is written of that
pub image_of_script : (m : MergedView) (n : NamedMerged (List Command)) → InRange m → MergedStandsFor ShowsCommands m n → image m ≡ image_of (listed_merged n)
image_of_script m n r s = image_of_listed m (listed_merged n) r (commands_as_listed m n s)

-- stencils in range that stand for one value have one image
pub one_value_one_image : (m other : MergedView) (n : NamedMerged (List Command)) → InRange m → InRange other → MergedStandsFor ShowsCommands m n → MergedStandsFor ShowsCommands other n → image m ≡ image other
one_value_one_image m other n r q s t = image_of_script m n r s ∙ sym (image_of_script other n q t)

-- the image of a script is the one that is written of it
pub image_is_of_script : (n : NamedMerged (List Command)) (bytes : List ℕ) → IsImage n bytes → bytes ≡ image_of (listed_merged n)
image_is_of_script n bytes h = h.is.is ∙ image_of_script h.stencil n h.is.range h.stands

-- a script has one image
pub one_script_one_image : (n : NamedMerged (List Command)) (x y : List ℕ) → IsImage n x → IsImage n y → x ≡ y
one_script_one_image n x y h k = h.is.is ∙ (one_value_one_image h.stencil k.stencil n h.is.range k.is.range h.stands k.stands ∙ sym k.is.is)
