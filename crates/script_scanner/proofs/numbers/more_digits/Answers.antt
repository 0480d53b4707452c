use Rattle.std.proofs.Common.{◌∙◌, sym, arith, ap, map, length, length-drop, ℕ}
use Rattle.unit_text.specs.Points.{code_of}
use Rattle.script_scanner.specs.Numbers.{digit_length}
use Rattle.script_scanner.proofs.NumberLemmas.{digits_on, digits_done}
use Rattle.script_scanner.proofs.numbers.more_digits.Goals as goal

pub returns-then-taken-eq0-clause-value : goal.returns-then-taken-eq0-clause-value
returns-then-taken-eq0-clause-value g c =
    digits_done c.args.radix (g.T.Source.points c.args.rest) c.loop-at.at
    (ap (λ ps. digit_length c.args.radix (map code_of ps)) (sym c.behind.ensures) ∙ sym c.digit_length-taken.ensures.value ∙ c.if-taken-eq0.true) c.loop-at.invariant.so_far

pub loop-at-preserved : goal.loop-at-preserved
loop-at-preserved g c = record {
  within = let e = c.digit_length-taken.ensures.within in omega (arith, e, ap {B = ℕ} length c.behind.ensures, length-drop c.loop-at.at (g.T.Source.points c.args.rest));
  so_far = digits_on c.args.radix (g.T.Source.points c.args.rest) c.loop-at.at _
      (ap (λ ps. digit_length c.args.radix (map code_of ps)) (sym c.behind.ensures) ∙ sym c.digit_length-taken.ensures.value) (omega arith) c.loop-at.invariant.so_far;
}
