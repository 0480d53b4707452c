use Rattle.holzikra_colours.proofs.ColourLemmas.{painted-all}
use Rattle.holzikra_colours.proofs.paint.painted.Goals as goal

pub returns : goal.returns
returns c none =
    rw c.in_ok-extend_from_slice.ensures.items (
    painted-all c.args.text.now c.loop-part.out.items c.loop-part.at c.loop-part.invariant.0 c.loop-part.invariant.1 none
    )
