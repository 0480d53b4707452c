use Rattle.compile_session.proofs.CountLemmas.{counts_read}
use Rattle.compile_session.proofs.FileLemmas.{settles_read}
use Rattle.session_words.specs.declared.options.Command.TheVariants as command
use Rattle.session_words.specs.Asked as asked
use Rattle.compile_session.proofs.file.answer_of.Goals as goal

pub returns-in_ok-answer-in-Load-clause-settles : goal.returns-in_ok-answer-in-Load-clause-settles
returns-in_ok-answer-in-Load-clause-settles c =
    settles_read (asked.job c.args.job.now) c.args.name.now c.deref.result.now c.args.bytes.now c.in-Some.bytes command.Load c.in_ok-answer-in-Load.answer c.in-Load.is c.in-Some.is c.deref.ensures.value
    (c.in_ok-answer-in-Load.ensures.is (asked.wanted c.args.job.now.want))

pub returns-in_ok-answer-in-Verify-clause-settles : goal.returns-in_ok-answer-in-Verify-clause-settles
returns-in_ok-answer-in-Verify-clause-settles c =
    settles_read (asked.job c.args.job.now) c.args.name.now c.deref-in-Verify.result.now c.args.bytes.now c.in-Some.bytes command.Verify c.in_ok-answer-in-Verify.answer c.in-Verify.is c.in-Some.is c.deref-in-Verify.ensures.value
    (c.in_ok-answer-in-Verify.ensures.is (asked.wanted c.args.job.now.want))

pub returns-in_ok-answer-in-Load-clause-counts : goal.returns-in_ok-answer-in-Load-clause-counts
returns-in_ok-answer-in-Load-clause-counts c =
    counts_read (asked.job c.args.job.now) c.deref.result.now c.args.bytes.now c.in-Some.bytes command.Load c.in_ok-answer-in-Load.answer.compiled c.in-Load.is c.in-Some.is c.deref.ensures.value c.in_ok-answer-in-Load.ensures.idle

pub returns-in_ok-answer-in-Verify-clause-counts : goal.returns-in_ok-answer-in-Verify-clause-counts
returns-in_ok-answer-in-Verify-clause-counts c =
    counts_read (asked.job c.args.job.now) c.deref-in-Verify.result.now c.args.bytes.now c.in-Some.bytes command.Verify c.in_ok-answer-in-Verify.answer.compiled c.in-Verify.is c.in-Some.is c.deref-in-Verify.ensures.value c.in_ok-answer-in-Verify.ensures.idle

pub returns-in_ok-answer-in-Check-clause-settles : goal.returns-in_ok-answer-in-Check-clause-settles
returns-in_ok-answer-in-Check-clause-settles c =
    settles_read (asked.job c.args.job.now) c.args.name.now c.deref-in-Check.result.now c.args.bytes.now c.in-Some.bytes command.Check c.in_ok-answer-in-Check.answer c.in-Check.is c.in-Some.is c.deref-in-Check.ensures.value
    c.in_ok-answer-in-Check.ensures.is
