use mir.Syntax.{of_param}
use denote.Param.Send.{sendable, Quiet-if}
use Rattle.helper_tasks.proofs.threads.serve_all.Goals as goal

pub scoped-requires : goal.scoped-requires
scoped-requires g c = record {
  at = λ a. (
    (
      record { owned = c.type_bounds.send-N.owned; leaving = λ k. Quiet-if (k (of_param 2)) _ denote.Exit.unseen (λ x w. tt) (λ x w. tt) },
      record { owned = c.type_bounds.send-J-Out.owned; leaving = λ k. Quiet-if (k (of_param 4)) _ denote.Exit.unseen (λ x w. tt) (λ x w. tt) },
      record { owned = c.type_bounds.send-J-Share.owned; leaving = λ k. Quiet-if (k (of_param 5)) _ denote.Exit.unseen (λ x w. tt) (λ x w. tt) },
      search (sendable, c.type_bounds.sync-J),
      search (sendable, c.type_bounds.sync-G),
      search (sendable, c.type_bounds.sync-N),
      search (sendable, c.type_bounds.sync-R),
      c.requires.numbered,
      c.requires.tasks,
      c.requires.helpers,
    ),
    (
      record { owned = c.type_bounds.send-N.owned; leaving = λ k. Quiet-if (k (of_param 2)) _ denote.Exit.unseen (λ x w. tt) (λ x w. tt) },
      record { owned = c.type_bounds.send-J-Out.owned; leaving = λ k. Quiet-if (k (of_param 4)) _ denote.Exit.unseen (λ x w. tt) (λ x w. tt) },
      record { owned = c.type_bounds.send-J-Share.owned; leaving = λ k. Quiet-if (k (of_param 5)) _ denote.Exit.unseen (λ x w. tt) (λ x w. tt) },
      search (sendable, c.type_bounds.sync-J),
      search (sendable, c.type_bounds.sync-G),
      search (sendable, c.type_bounds.sync-N),
      search (sendable, c.type_bounds.sync-R),
    ),
  );
}
