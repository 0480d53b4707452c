use Rattle.std.proofs.Common.{◌≡◌, length}
use Rattle.session_output.proofs.printing.printers.Given as goal

abbrev pub invariant-loop : goal.invariant-loop
invariant-loop l = length l.printers.items ≡ l.counter
