use Rattle.unit_text.proofs.Decoding.{decoded_pushed, decoded_all}
use Rattle.unit_text.proofs.unicode_points.Goals as goal

pub loop-start-preserved : goal.loop-start-preserved
loop-start-preserved c =
    decoded_pushed c.args.text.now _ _ _ c.in-Some.code _ c.in-Some.start _ c.loop-start.points.items c.push.new.self.items c.loop-start.invariant
    c.in-Some.ensures.steps.1 c.in-Some.ensures.steps.2 c.in-Some.ensures.steps.0 (cc c.len_utf8.ensures.value) c.in_ok-push.ensures.items

pub returns : goal.returns
returns c = decoded_all c.args.text.now _ _ _ c.loop-start.invariant c.in-None.ensures.steps.0
