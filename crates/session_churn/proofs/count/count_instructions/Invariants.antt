use Rattle.std.specs.Prelude.{length, ◌+◌, ◌≡◌, ◌≤◌}
use Rattle.bytecode_buf.specs.Layout.{instructions}
use Rattle.script_image.proofs.CodeLoop.{left_from}
use Rattle.session_churn.proofs.count.count_instructions.Given as goal

abbrev pub invariant-loop : goal.invariant-loop
invariant-loop l = (l.count + length (left_from l.code l.at l.counter) ≡ length (instructions l.code)) × (l.count ≤ l.counter)
