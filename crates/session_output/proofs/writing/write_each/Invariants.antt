use Rattle.std.specs.Prelude.{ℕ, Vec}
use Rattle.std.specs.declared.alloc.Global.{Global}
use Rattle.session_output.proofs.Texts.{AreWritten}
use Rattle.session_output.proofs.writing.write_each.Given as goal

abbrev pub invariant-loop-text : goal.invariant-loop-text
invariant-loop-text g l =
    AreWritten (λ (text : Vec ℕ Global). text.items) l.texts l.text-index (g.K.Sink.faults l.initial.sink) (g.K.Sink.faults l.sink) (g.K.Sink.taken l.initial.sink) (g.K.Sink.taken l.sink)
