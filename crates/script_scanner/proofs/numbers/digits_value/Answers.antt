use Rattle.std.proofs.Common.{sym, arith}
use Rattle.script_scanner.proofs.NumberLemmas.{value_over}
use Rattle.script_scanner.proofs.numbers.digits_value.Goals as goal

pub returns-then-value-gt-MAX_VALUE-clause-value : goal.returns-then-value-gt-MAX_VALUE-clause-value
returns-then-value-gt-MAX_VALUE-clause-value g c =
    sym (value_over c.args.radix (g.T.Source.points c.args.digits) c.loop-at.at c.loop-at.value c.with_digit-value.result c.point_at.result
    (omega arith) c.point_at.ensures c.with_digit-value.ensures c.loop-at.invariant.so_far c.if-value-gt-MAX_VALUE.true)
