use Rattle.std.proofs.Common.{◌≡◌, ◌++◌, map, Ok}
use Rattle.helper_tasks.proofs.run.all_ok.Given as goal

abbrev pub invariant-loop-one : goal.invariant-loop-one
invariant-loop-one g l =
    (goal.iterator-loop-one g).can_next l.one-iterator
    × (goal.iterator-loop-one g).is_finite l.one-iterator
    × (map (λ x. Ok x) l.values.items ++ l.one-iterator.rest.items ≡ l.fn.results.items)
