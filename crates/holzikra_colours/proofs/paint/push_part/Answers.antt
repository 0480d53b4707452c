use Rattle.std.proofs.Common.{take}
use Rattle.holzikra_colours.specs.Colours.{IsPainted}
use Rattle.holzikra_colours.proofs.ColourLemmas.{painted-more}
use Rattle.holzikra_colours.proofs.paint.push_part.Goals as goal

pub returns : goal.returns
returns c before none =
    let front : IsPainted c.args.text.now c.args.part.from c.extend_from_slice.new.self.items =
    rw c.in_ok-extend_from_slice.ensures.items (
    painted-more c.args.text.now c.args.out.now.items c.args.at c.args.part.from c.requires.front before
    ) in
    let on : IsPainted c.args.text.now c.args.part.from c.push_sequence.new.out.items =
    λ n. c.in_ok-push_sequence.ensures (take c.args.part.from c.args.text.now) (front n) in
    let part : IsPainted c.args.text.now c.args.part.to c.extend_from_slice-2.new.self.items =
    rw c.in_ok-extend_from_slice-2.ensures.items (
    painted-more c.args.text.now c.push_sequence.new.out.items c.args.part.from c.args.part.to c.requires.part on
    ) in
    c.in_ok-push_sequence-2.ensures (take c.args.part.to c.args.text.now) (part none)
