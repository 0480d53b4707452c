use Rattle.std.proofs.Common.{◌≡◌, ◌++◌, map, take, drop}
use Rattle.parse_function.specs.Glued.{Follows, IsStretch, moved, stands_at}
use Rattle.parse_function.specs.Holes.{span_at}
use Rattle.parse_function.proofs.glued.move_tokens.Given as goal

-- the tokens so far have their offsets in the file, and the others those among the bytes; the stretch is one of the function
abbrev pub invariant-loop-token : goal.invariant-loop-token
invariant-loop-token l = record {
  so_far : l.tokens ≡ map (moved (stands_at l.from l.from (map span_at l.holes))) (take l.token-index l.initial.tokens) ++ drop l.token-index l.initial.tokens;
  is : IsStretch l.stretch.glued l.stretch.limit l.stretch.by (map span_at l.stretch.holes.now);
  follows : Follows (stands_at l.from l.from (map span_at l.holes)) l.stretch.glued l.stretch.by (map span_at l.stretch.holes.now);
}
