use Rattle.holzikra_places.proofs.MarkLemmas.{marks-step, small-next, units-next}
use Rattle.holzikra_places.proofs.text_places.marks_of.Goals as goal

pub loop-piece-preserved : goal.loop-piece-preserved
loop-piece-preserved c =
    let l = c.loop-piece in
    let more = c.units_between-units in (
      marks-step c.args.text.now l.marks.items c.push.new.self.items l.units l.piece c.in_ok-push.ensures.items l.invariant.0 l.invariant.1,
      units-next c.args.text.now l.units more.result l.piece l.invariant.1 more.ensures.is,
      small-next l.units more.result l.piece l.invariant.2 more.ensures.small,
    )
