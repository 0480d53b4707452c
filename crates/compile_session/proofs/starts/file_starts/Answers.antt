use Rattle.compile_session.proofs.StartLemmas.{are_started}
use Rattle.session_words.specs.Asked as asked
use Rattle.compile_session.proofs.starts.file_starts.Goals as goal

pub returns : goal.returns
returns g c = are_started (asked.wanted c.args.job.now.want) c.args.reads.now c.args.count c.in_ok-starts.starts.items c.in_ok-starts.ensures.outs.0 c.in_ok-starts.ensures.outs.1
