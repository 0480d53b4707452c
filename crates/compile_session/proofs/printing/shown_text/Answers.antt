use Rattle.std.proofs.Common.{List, subst, sym, ℕ}
use Rattle.compile_session.proofs.ShownLemmas.{image_written, listing_written}
use Rattle.compile_session.specs.Listed.{IsWrittenFor}
use Rattle.compile_session.proofs.printing.shown_text.Goals as goal

pub returns-in_ok-image-in-Save : goal.returns-in_ok-image-in-Save
returns-in_ok-image-in-Save c =
    subst (λ (text : List ℕ). IsWrittenFor c.args.command c.args.name.now c.args.shown text) (sym c.of_bytes.ensures)
    (image_written c.args.command c.args.name.now c.args.shown c.in_ok-image-in-Save.image.items c.in-Save.is c.requires.small c.in_ok-image-in-Save.ensures.script)

pub returns-in_ok-head-in_default : goal.returns-in_ok-head-in_default
returns-in_ok-head-in_default c =
    listing_written c.args.command c.args.name.now c.args.shown c.of_listing.result c.in_ok-head-in_default.head.items c.listing_of.result c.requires.command c.in_default.not-Save c.in_ok-head-in_default.ensures c.listing_of.ensures c.of_listing.ensures
