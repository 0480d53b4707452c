use Rattle.std.proofs.Common.{◌≡◌, ◌++◌, map, take}
use Rattle.stencil_data.specs.StandsFor.{named_closed}
use Rattle.script_image.specs.Quoted.{with_commas}
use Rattle.script_image.specs.ScriptLines.{closed_text}
use Rattle.script_image.proofs.script_lines.put_further_closed.Given as goal

abbrev pub invariant-loop-name : goal.invariant-loop-name
invariant-loop-name l = l.out.items ++ l.chunk.items ≡ (l.initial.out.items ++ l.initial.chunk.items) ++ with_commas (map closed_text (map (named_closed l.texts) (take l.name-index l.names)))
