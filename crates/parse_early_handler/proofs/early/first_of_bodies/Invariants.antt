use Rattle.std.proofs.Common.{◌≡◌, map, drop}
use Rattle.parse_track.specs.EarlyErrors.{sooner}
use Rattle.parse_early_handler.specs.Firsts.{first_of}
use Rattle.parse_early_handler.proofs.Bodies.{own_first}
use Rattle.parse_early_handler.proofs.early.first_of_bodies.Given as goal

abbrev pub invariant-loop-body : goal.invariant-loop-body
invariant-loop-body l = sooner l.first (first_of (map own_first (drop l.body-index l.bodies))) ≡ sooner l.fn.top.first (first_of (map own_first l.bodies))
