use Rattle.std.proofs.Common.{take}
use Rattle.std.specs.Prelude.{map, sum, ◌*◌, ◌≡◌, ◌≤◌}
use Rattle.session_churn.specs.Visits.{size_of}
use Rattle.session_churn.proofs.visits.found_by.Given as goal

abbrev pub invariant-loop-visit : goal.invariant-loop-visit
invariant-loop-visit l =
    (l.found.instructions ≡ sum (map size_of (take l.visit-index l.visits)))
    × (l.found.instructions ≤ l.visit-index * 18446744073709551615)
    × (l.found.compiled ≤ l.visit-index * 524288)
