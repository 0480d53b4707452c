use Rattle.compile_session.proofs.WorkerLemmas.{settle_files}
use Rattle.compile_session.proofs.workers.file_answers.Goals as goal

pub returns : goal.returns
returns g c = settle_files c.args.job.now c.args.reads.now c.args.count c.in_ok-answers.answers.items c.in_ok-answers.ensures.outs.0 c.in_ok-answers.ensures.outs.1
