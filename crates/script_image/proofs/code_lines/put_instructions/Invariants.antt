use Rattle.std.proofs.Common.{◌++◌, ◌-◌}
use Rattle.script_image.proofs.Walks.{Walking, rest_of}
use Rattle.script_image.proofs.code_lines.put_instructions.Given as goal

abbrev pub invariant-loop : goal.invariant-loop
invariant-loop l = Walking l.texts l.code (l.out.items ++ l.chunk.items) ((l.initial.out.items ++ l.initial.chunk.items) ++ rest_of l.texts l.code l.from l.turn) l.at l.counter l.end l.from (l.end - l.turn)
