use Rattle.std.proofs.Common.{length, ◌-◌}
use Rattle.session_outside.proofs.WriteLemmas.{IsWriting}
use Rattle.session_outside.proofs.writing.write_bytes.Given as goal

abbrev pub invariant-loop-done : goal.invariant-loop-done
invariant-loop-done g l =
    IsWriting (g.K.Sink.faults l.initial.sink) (g.K.Sink.faults l.sink) (g.K.Sink.taken l.initial.sink) (g.K.Sink.taken l.sink) l.bytes l.done

-- proposed from the loop's first test
abbrev pub decreases-loop-done : goal.decreases-loop-done
decreases-loop-done g l = length l.bytes - l.done
