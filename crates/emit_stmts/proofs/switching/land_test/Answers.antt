use Rattle.std.proofs.Common.{◌+◌, sym, ◌∙◌, ap}
use Rattle.bytecode_buf.specs.Bytes.{le_bytes, written}
use Rattle.bytecode_buf.specs.Layout.{distance_bits}
use Rattle.emit_exprs.proofs.Lists.{next_of}
use Rattle.emit_stmts.proofs.Landing.{test_meant, test_other}
use Rattle.emit_stmts.proofs.switching.land_test.Goals as goal

pub returns-then-is-clause-landed : goal.returns-then-is-clause-landed
returns-then-is-clause-landed c to lt order = test_meant c.in-Some.wait.now _ (next_of c.args.tests.now c.args.landed c.in-Some.wait.now c.in-Some.ensures.lookup.3.0 c.in-Some.ensures.lookup.1) (sym c.is.ensures ∙ c.if-is.true)
    (c.patch.ensures ∙ ap (λ (n : _). written (c.in-Some.wait.now.at + 1) (le_bytes 8 (distance_bits c.in-Some.wait.now.at n)) c.args.out.now) c.len-end.ensures) order

pub returns-else-is-clause-landed : goal.returns-else-is-clause-landed
returns-else-is-clause-landed c to lt order = test_other c.in-Some.wait.now _ (next_of c.args.tests.now c.args.landed c.in-Some.wait.now c.in-Some.ensures.lookup.3.0 c.in-Some.ensures.lookup.1) (sym c.is.ensures ∙ c.if-is.false) order
