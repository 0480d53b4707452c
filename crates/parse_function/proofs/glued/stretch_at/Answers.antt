use Rattle.std.proofs.Common.{map, subst, sym, arith}
use Rattle.parse_function.specs.Glued.{Follows}
use Rattle.parse_function.specs.Holes.{span_at}
use Rattle.parse_function.proofs.Stretches.{lies}
use Rattle.parse_function.proofs.glued.stretch_at.Goals as goal
use Rattle.parse_function.proofs.glued.stretch_at.Goals.{then-last-offset-2, else-last-offset-2}

pub returns-then-offset-last-clause-follows : goal.returns-then-offset-last-clause-follows
returns-then-offset-last-clause-follows c = λ place h k.
    let s = c.args.last in
    (k, lies place s.glued s.limit s.by c.args.offset (map span_at s.holes.now) k c.requires.last.limited (omega arith) (omega arith))

pub returns-clause-follows : goal.returns-clause-follows
returns-clause-follows c = λ place h k.
    elim c.if-last-offset-2.branch [
      | then-last-offset-2 w ↦ c.stretch_behind.ensures.follows place (subst (λ s. Follows place s.glued s.by (map span_at s.holes.now)) (sym w.start-is) k)
      | else-last-offset-2 w ↦ c.stretch_behind.ensures.follows place (subst (λ s. Follows place s.glued s.by (map span_at s.holes.now)) (sym w.start-is) h)
    ]
