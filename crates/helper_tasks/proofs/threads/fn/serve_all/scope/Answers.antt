use denote.Param.Send.{sendable}
use Rattle.helper_tasks.proofs.threads.fn.serve_all.scope.Goals as goal

pub serve_each-requires-clause-sends : goal.serve_each-requires-clause-sends
serve_each-requires-clause-sends g c κs within = search (sendable, c.requires.0, c.requires.1, c.requires.2) parts 16
