use Rattle.std.proofs.Common.{◌<◌, ◌+◌, map, arith}
use Rattle.parse_function.specs.Glued.{moved, stands_at}
use Rattle.parse_function.specs.Holes.{span_at}
use Rattle.parse_function.proofs.Stretches.{first_follows, is_moved, one_more, small_end}
use Rattle.parse_function.proofs.glued.move_tokens.Goals as goal

pub overflow_add-end : goal.overflow_add-end
overflow_add-end c =
    let place = stands_at c.args.from c.args.from (map span_at c.args.holes.now) in
    let first = first_follows c.args.from c.stretch_from-first.result.glued c.stretch_from-first.result.by c.args.holes.now c.stretch_from-first.result.holes.now c.stretch_from-first.ensures.glued c.stretch_from-first.ensures.file c.stretch_from-first.ensures.holes in
    let opening = c.stretch_at-opening.ensures.follows place first c.loop-token.invariant.follows in
    let closing = c.stretch_at-closing.ensures.follows place first opening.0 in
    let small : c.end-end.result + c.stretch_at-closing.result.by < 16777216 =
    small_end place c.args.from c.args.tokens.now c.loop-token.tokens c.loop-token.token-index c.token-item.result c.end-end.result c.stretch_at-closing.result.by c.requires.fits c.loop-token-test.true c.loop-token.invariant.so_far c.end-end.ensures closing.1 in
    omega (arith, small)

pub new-requires-in-loop-token : goal.new-requires-in-loop-token
new-requires-in-loop-token c =
    let place = stands_at c.args.from c.args.from (map span_at c.args.holes.now) in
    let first = first_follows c.args.from c.stretch_from-first.result.glued c.stretch_from-first.result.by c.args.holes.now c.stretch_from-first.result.holes.now c.stretch_from-first.ensures.glued c.stretch_from-first.ensures.file c.stretch_from-first.ensures.holes in
    let opening = c.stretch_at-opening.ensures.follows place first c.loop-token.invariant.follows in
    let closing = c.stretch_at-closing.ensures.follows place first opening.0 in
    small_end place c.args.from c.args.tokens.now c.loop-token.tokens c.loop-token.token-index c.token-item.result c.end-end.result c.stretch_at-closing.result.by c.requires.fits c.loop-token-test.true c.loop-token.invariant.so_far c.end-end.ensures closing.1

pub loop-token-preserved : goal.loop-token-preserved
loop-token-preserved c =
    let place = stands_at c.args.from c.args.from (map span_at c.args.holes.now) in
    let first = first_follows c.args.from c.stretch_from-first.result.glued c.stretch_from-first.result.by c.args.holes.now c.stretch_from-first.result.holes.now c.stretch_from-first.ensures.glued c.stretch_from-first.ensures.file c.stretch_from-first.ensures.holes in
    let opening = c.stretch_at-opening.ensures.follows place first c.loop-token.invariant.follows in
    let closing = c.stretch_at-closing.ensures.follows place first opening.0 in
    record {
      so_far = one_more (moved place) c.token-item.result c.loop-token.token-index c.args.tokens.now c.loop-token.tokens c.with_offsets.result c.loop-token-test.true c.loop-token.invariant.so_far
          (is_moved place _ c.with_offsets.result c.start-start.result c.end-end.result c.stretch_at-opening.result.by c.stretch_at-closing.result.by c.new.result c.new-in-loop-token.result c.with_offsets.ensures c.start-start.ensures c.end-end.ensures c.new.ensures c.new-in-loop-token.ensures opening.1 closing.1);
      is = c.stretch_at-closing.ensures.is;
      follows = closing.0;
    }
