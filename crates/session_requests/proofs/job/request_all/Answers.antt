use mir.Syntax.{of_param}
use denote.Param.{param}
use denote.Param.Send.{sendable, Quiet-if}
use Rattle.session_requests.proofs.Crossing.{hand_send, job_sync}
use Rattle.session_requests.proofs.job.request_all.Goals as goal

pub run_tasks-requires-send-J-Share : goal.run_tasks-requires-send-J-Share
run_tasks-requires-send-J-Share g c κs within =
    let goes = hand_send (param 2 g.row.N) g.N.Sources c.type_bounds.send-N in
    record { owned = goes.owned; leaving = λ k. Quiet-if (k (of_param 4)) _ denote.Exit.unseen (λ x w. tt) (λ x w. tt) }

pub run_tasks-requires-sync-J : goal.run_tasks-requires-sync-J
run_tasks-requires-sync-J g c κs within = search (sendable, job_sync (param 2 g.row.N) g.N.Sources c.type_bounds.send-N c.type_bounds.sync-N)
