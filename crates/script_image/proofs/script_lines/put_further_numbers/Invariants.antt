use Rattle.std.proofs.Common.{◌≡◌, ◌++◌, map, take}
use Rattle.std.specs.Fmt.{decimal}
use Rattle.script_image.specs.Quoted.{with_commas}
use Rattle.script_image.proofs.script_lines.put_further_numbers.Given as goal

abbrev pub invariant-loop-number : goal.invariant-loop-number
invariant-loop-number l = l.out.items ++ l.chunk.items ≡ (l.initial.out.items ++ l.initial.chunk.items) ++ with_commas (map decimal (take l.number-index l.numbers))
