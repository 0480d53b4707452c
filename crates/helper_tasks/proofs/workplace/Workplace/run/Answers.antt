use Rattle.std.proofs.Common.{[], ◌∷◌, ap, ◌∙◌}
use Rattle.std.proofs.lemmas.List.{map-append}
use Rattle.helper_tasks.specs.Desks.{tasks_of}
use Rattle.helper_tasks.proofs.workplace.Workplace.run.Goals as goal

pub returns-clause-made : goal.returns-clause-made
returns-clause-made g c = ap tasks_of c.in_ok-push.ensures.items ∙ map-append (λ m. m.task) c.args.desk.now.made.items (record { task = c.args.task; out = c.in_ok-out.out } ∷ [])
