use borrow.Author.Rules.{rules}
use denote.Param.{param}
use denote.Param.Send.{IsSend, IsSync, Quiet-if, sendable}
use mir.Syntax.{of_param}
use Rattle.std.proofs.Crossing as std
use Rattle.example_scripts.proofs.Crossing.{handed_send, board_sync}
use Rattle.example_scripts.proofs.threads.+beside.Goals as goal

pub join-handed-requires : goal.join-handed-requires
join-handed-requires g t c κs =
    let send : IsSend (param 1 g.row.N) = search sendable in
    let sync : IsSync (param 1 g.row.N) = search sendable in
    let goes = handed_send (param 1 g.row.N) g.N.Sources send in (
      search (board_sync (param 1 g.row.N) g.N.Sources send sync, std.crosses, sendable) depth 60 fits 20000,
      (
        record { owned = goes.owned; leaving = λ k. Quiet-if (k (of_param 3)) _ denote.Exit.unseen (goes.leaving denote.Exit.yes) (λ x w. tt) },
        (search rules, search rules),
      ),
    )
