use Rattle.std.proofs.Common.{◌≡◌, ◌∙◌, List, [], ◌∷◌, length, map, ap, sym, subst, arith}
use Rattle.parse_function.specs.Glued.{Follows}
use Rattle.parse_function.specs.declared.holes.Hole.{Hole}
use Rattle.parse_function.specs.Holes.{span_at}
use Rattle.parse_function.proofs.Stretches.{lies, lies_last, limit_is, next_follows}
use Rattle.parse_function.proofs.glued.stretch_behind.Goals as goal

none_left : (hs : List Hole) → length hs ≡ 0 → length (map span_at hs) ≡ 0
none_left [] e = e
none_left (h ∷ hs) e = absurd (omega (arith, e))

pub returns-in-None-clause-follows : goal.returns-in-None-clause-follows
returns-in-None-clause-follows c = λ place h.
    let s = c.loop-stretch.stretch in
    let f = c.loop-stretch.invariant.follows place h in
    (f, lies_last place s.glued s.by c.args.offset (map span_at s.holes.now) f (none_left s.holes.now c.in-None.ensures.cases) c.loop-stretch.invariant.begins)

pub loop-stretch-preserved : goal.loop-stretch-preserved
loop-stretch-preserved c =
    let s = c.loop-stretch.stretch in
    let n = c.stretch_from-stretch.result in
    let all = ap (map span_at) c.in-Some.ensures.cases.0 in
    let here = limit_is s.glued s.limit s.by (span_at c.in-Some.hole.now) (map span_at c.in-Some.others.now) (map span_at s.holes.now) all c.loop-stretch.invariant.is.limited in
    record {
      is = c.stretch_from-stretch.ensures.is;
      begins = (let g = c.stretch_from-stretch.ensures.glued in let t = c.loop-stretch-test.true in omega (arith, g, t));
      follows = λ place h.
          subst (λ (hs : List Hole). Follows place n.glued n.by (map span_at hs)) (sym c.stretch_from-stretch.ensures.holes)
          (next_follows place s.glued s.by n.glued n.by (span_at c.in-Some.hole.now) (map span_at c.in-Some.others.now) (map span_at s.holes.now) all (c.loop-stretch.invariant.follows place h) (c.stretch_from-stretch.ensures.glued ∙ here) c.stretch_from-stretch.ensures.file);
    }

pub returns-clause-follows : goal.returns-clause-follows
returns-clause-follows c = λ place h.
    let s = c.loop-stretch.stretch in
    let f = c.loop-stretch.invariant.follows place h in
    (f, lies place s.glued s.limit s.by c.args.offset (map span_at s.holes.now) f c.loop-stretch.invariant.is.limited c.loop-stretch.invariant.begins c.loop-stretch-test.false)
