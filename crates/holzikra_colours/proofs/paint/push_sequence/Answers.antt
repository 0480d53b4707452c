use Rattle.holzikra_colours.proofs.ColourLemmas.{sequence-shows}
use Rattle.holzikra_colours.proofs.paint.push_sequence.Goals as goal

pub returns : goal.returns
returns c =
    rw (
      c.in_ok-push-5.ensures.items,
      c.in_ok-push-4.ensures.items,
      c.in_ok-push-3.ensures.items,
      c.in_ok-push-2.ensures.items,
      c.in_ok-push.ensures.items,
    ) (sequence-shows c.args.out.now.items c.args.tens c.args.units c.requires.tens c.requires.units)
