use Rattle.std.proofs.Common.{ap, length, ◌∙◌}
use Rattle.compile_session.proofs.OrderLemmas.{files_within}
use Rattle.compile_session.proofs.shown.answers_after.Goals as goal

pub requests_of-requires-clause-files : goal.requests_of-requires-clause-files
requests_of-requires-clause-files g c =
    files_within _ c.args.count c.args.order.now (ap length c.deref.ensures.value ∙ (c.in_ok-works.ensures.asked.long ∙ c.requires.started.long)) c.requires.order
