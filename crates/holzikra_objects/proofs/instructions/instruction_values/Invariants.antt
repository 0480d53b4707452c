use Rattle.std.proofs.Common.{◌≡◌, ◌++◌, map}
use Rattle.serde_json.specs.View.{view}
use Rattle.bytecode_buf.specs.Command.{listed, listed_from}
use Rattle.script_image.proofs.CodeLoop.{left_from}
use Rattle.holzikra_objects.specs.Objects.{instruction_data}
use Rattle.holzikra_objects.proofs.instructions.instruction_values.Given as goal

abbrev pub invariant-loop : goal.invariant-loop
invariant-loop l = map view l.values.items ++ map (instruction_data l.all l.texts l.notes) (listed_from l.texts l.at (left_from l.code l.at l.counter)) ≡ map (instruction_data l.all l.texts l.notes) (listed l.texts l.code)
