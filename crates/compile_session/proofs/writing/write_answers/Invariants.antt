use Rattle.session_output.proofs.Texts.{AreWritten}
use Rattle.compile_session.specs.declared.answer.FileAnswer.{FileAnswer}
use Rattle.compile_session.proofs.writing.write_answers.Given as goal

abbrev pub invariant-loop-answer : goal.invariant-loop-answer
invariant-loop-answer g l =
    AreWritten (λ (answer : FileAnswer). answer.text) l.answers l.answer-index (g.K.Sink.faults l.initial.sink) (g.K.Sink.faults l.sink) (g.K.Sink.taken l.initial.sink) (g.K.Sink.taken l.sink)
