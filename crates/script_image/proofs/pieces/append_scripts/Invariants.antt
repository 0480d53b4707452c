use Rattle.std.proofs.Common.{◌≡◌, ◌≤◌, ◌++◌}
use Rattle.script_image.specs.Pieces.{from_script}
use Rattle.script_image.proofs.pieces.append_scripts.Given as goal

abbrev pub invariant-loop-number : goal.invariant-loop-number
invariant-loop-number l = (l.out.items ++ from_script l.listing l.merged l.number ≡ l.initial.out.items ++ from_script l.listing l.merged l.from) × (l.number ≤ l.to)
