use Rattle.std.proofs.Common.{◌+◌, length, refl}
use Rattle.std.proofs.lemmas.Option.{slice_get_read}
use Rattle.session_output.proofs.Texts.{written_all, written_front, written_more, written_none}
use Rattle.compile_session.specs.declared.answer.FileAnswer.{FileAnswer}
use Rattle.compile_session.proofs.writing.write_answers.Goals as goal

pub loop-answer-init : goal.loop-answer-init
loop-answer-init g c = written_none (λ (answer : FileAnswer). answer.text) c.args.answers.now (g.K.Sink.faults c.args.sink.now) (g.K.Sink.taken c.args.sink.now)

pub loop-answer-preserved : goal.loop-answer-preserved
loop-answer-preserved g c =
    written_more (λ (answer : FileAnswer). answer.text) c.args.answers.now c.loop-answer.answer-index (c.loop-answer.answer-index + 1) c.answer-item.result _ _ _ _ _ _ refl
    (slice_get_read c.args.answers.now (length c.args.answers.now) c.loop-answer.answer-index c.answer-item.result refl c.loop-answer-test.true c.answer-item.is) c.in-Ok.ensures.count c.in-Ok.ensures.took c.loop-answer.invariant

pub returns-in-Err-Failed-clause-took : goal.returns-in-Err-Failed-clause-took
returns-in-Err-Failed-clause-took g c =
    written_front (λ (answer : FileAnswer). answer.text) c.args.answers.now c.loop-answer.answer-index c.answer-item.result _ _ _ _ _
    (slice_get_read c.args.answers.now (length c.args.answers.now) c.loop-answer.answer-index c.answer-item.result refl c.loop-answer-test.true c.answer-item.is) c.in-Err-Failed.ensures.took c.loop-answer.invariant

pub returns-in-Err-NoMemory-clause-took : goal.returns-in-Err-NoMemory-clause-took
returns-in-Err-NoMemory-clause-took g c =
    written_front (λ (answer : FileAnswer). answer.text) c.args.answers.now c.loop-answer.answer-index c.answer-item.result _ _ _ _ _
    (slice_get_read c.args.answers.now (length c.args.answers.now) c.loop-answer.answer-index c.answer-item.result refl c.loop-answer-test.true c.answer-item.is) c.in-Err-NoMemory.ensures.took c.loop-answer.invariant

pub returns-clause-took : goal.returns-clause-took
returns-clause-took g c = written_all (λ (answer : FileAnswer). answer.text) c.args.answers.now c.loop-answer.answer-index _ _ _ _ c.loop-answer-test.false c.loop-answer.invariant
