use Rattle.session_trial.proofs.Steps.{one_more}
use Rattle.session_trial.proofs.text.generated_text.Goals as goal

pub loop-index-preserved : goal.loop-index-preserved
loop-index-preserved c = one_more c.args.size c.loop-index.index c.loop-index.state c.next_state-state.result c.loop-index.out.items c.append_line.new.out.items _ c.loop-index-test.true c.next_state-state.ensures c.in_ok-append_line.ensures c.loop-index.invariant
