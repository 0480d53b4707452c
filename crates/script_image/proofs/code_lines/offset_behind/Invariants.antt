use Rattle.std.proofs.Common.{◌≡◌, ◌-◌, ◌≤◌}
use Rattle.script_image.specs.Pieces.{walked}
use Rattle.script_image.proofs.code_lines.offset_behind.Given as goal

abbrev pub invariant-loop : goal.invariant-loop
invariant-loop l = (walked l.code l.at (l.count - l.counter) ≡ walked l.code l.from l.count) × (l.counter ≤ l.count)
