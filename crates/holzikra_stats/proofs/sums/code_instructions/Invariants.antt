use Rattle.std.proofs.Common.{◌≡◌, ◌+◌, ◌≤◌, length}
use Rattle.bytecode_buf.specs.Layout.{instructions}
use Rattle.script_image.proofs.CodeLoop.{left_from}
use Rattle.holzikra_stats.proofs.sums.code_instructions.Given as goal

abbrev pub invariant-loop : goal.invariant-loop
invariant-loop l = (l.count + length (left_from l.code l.at l.counter) ≡ length (instructions l.code)) × (l.count ≤ l.counter)
