use Rattle.std.specs.Prelude.{length, ◌-◌}
use Rattle.session_output.proofs.Pieces.{IsWritingFrom}
use Rattle.session_output.proofs.writing.write_pieces.Given as goal

abbrev pub invariant-loop-done : goal.invariant-loop-done
invariant-loop-done g l =
    IsWritingFrom l.script l.pieces l.done (g.K.Sink.faults l.initial.sink) (g.K.Sink.faults l.sink) (g.K.Sink.taken l.initial.sink) (g.K.Sink.taken l.sink)

abbrev pub decreases-loop-done : goal.decreases-loop-done
decreases-loop-done g l = length l.pieces - l.done
