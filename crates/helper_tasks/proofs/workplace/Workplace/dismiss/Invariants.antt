use Rattle.std.proofs.Common.{◌≡◌, ℕ, ◌+◌, ◌<◌, ◌++◌, List, length, map}
use Rattle.helper_tasks.specs.Count.{times, total, Each}
use Rattle.helper_tasks.specs.Desks.{InOrder, Lists}
use Rattle.helper_tasks.specs.Crew.{Dismissible, Paired, desk_of, fetched, popped, left_by, ran_at}
use Rattle.helper_tasks.proofs.workplace.Workplace.dismiss.Given as goal

abbrev pub invariant-loop-helper : goal.invariant-loop-helper
invariant-loop-helper g l =
    (goal.iterator-loop-helper g).can_next l.helper-iterator
    × (goal.iterator-loop-helper g).is_finite l.helper-iterator
    × Each (Dismissible (g.J.Job.fits l.self.job.now) (g.J.Job.gives l.self.job.now) l.self.queue.now) l.helper-iterator.rest.items
    × (l.all.injector ≡ l.self.queue.now)
    × (l.all.dealt.parts + length l.helper-iterator.rest.items ≡ l.fn.all.dealt.parts + length l.fn.helpers.items)
    × (l.all.dealt.pushed ≡ l.fn.all.dealt.pushed)
    × ((x : ℕ) → times x l.all.dealt.taken + total (fetched x) l.helper-iterator.rest.items ≡ times x l.fn.all.dealt.taken + total (fetched x) l.fn.helpers.items)
    × Each (InOrder (g.J.Job.fits l.self.job.now) (g.J.Job.gives l.self.job.now)) l.desks.items
    × ((starts : List (List ℕ)) → Paired (Lists g.J.Job.ran) starts (map desk_of l.fn.helpers.items) → Paired (Lists g.J.Job.ran) starts (l.desks.items ++ map desk_of l.helper-iterator.rest.items))
    × ((x : ℕ) → total (ran_at x) l.desks.items + total (popped x) l.fn.helpers.items + total (left_by x) l.helper-iterator.rest.items
    ≡ total (left_by x) l.fn.helpers.items + total (popped x) l.helper-iterator.rest.items)
    × (0 < l.all.dealt.parts)
    × (length l.desks.items + length l.helper-iterator.rest.items ≡ length l.fn.helpers.items)
