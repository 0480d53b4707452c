use Rattle.std.proofs.Common.{◌≡◌, ◌++◌, length, reverse}
use Rattle.script_grammar.specs.Interpretation.{Interpretation}
use Rattle.parse_bodies.proofs.Later.{Going}
use Rattle.parse_bodies.proofs.whole.whole.Given as goal

abbrev pub invariant-loop : goal.invariant-loop
invariant-loop g l = (length l.read.items ≡ l.counter) × ((i : Interpretation) → Going (g.H.Handler.shows_body i) l.fn.source i l.top l.bodies.items (l.state.place.pending.items ++ reverse l.waiting.items))
