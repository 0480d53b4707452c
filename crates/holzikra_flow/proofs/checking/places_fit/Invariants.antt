use Rattle.std.proofs.Common.{ℕ, ◌<◌}
use Rattle.holzikra_flow.specs.Flow.{PlaceFits}
use Rattle.holzikra_flow.proofs.checking.places_fit.Given as goal

abbrev pub invariant-loop-at : goal.invariant-loop-at
invariant-loop-at l = (k : ℕ) → k < l.at → PlaceFits l.all l.number l.code l.reached k
