use Rattle.std.proofs.Common.{arith}
use Rattle.compile_session.proofs.WorkerLemmas.{read_within, settles_taken}
use Rattle.session_specs.specs.Answer.{most_bytes}
use Rattle.compile_session.proofs.workers.FileTasks.answer.Goals as goal

pub answer_of-requires : goal.answer_of-requires
answer_of-requires c =
    let below = c.requires.number in
    let few = c.requires.can.read in
    record { plain = c.requires.plain; within = read_within most_bytes c.args.self.now.reads.now c.args.number c.index-self-number.result c.requires.can.within (omega (arith, below, few)) }

pub returns : goal.returns
returns c = settles_taken c.args.self.now.job.now c.args.self.now.reads.now c.args.number c.index-name.result.now c.as_str.result.now c.index-self-number.result c.in_ok-answer.answer
    c.index-name.ensures c.as_str.ensures.value c.in_ok-answer.ensures.settles c.in_ok-answer.ensures.counts c.in_ok-answer.ensures.few
