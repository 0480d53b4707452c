-- Commands as pieces of code.
use Rattle.std.specs.Prelude.{List, map}
use Rattle.bytecode_buf.specs.declared.opcode.Op.{Op}
use Rattle.bytecode_buf.specs.Command.{Command, plain}
use Rattle.bytecode_buf.specs.Pieces.{Whole, Code, one}

abbrev pub whole : List Command → Code
whole commands = map (λ (c : Command). Whole c) commands

abbrev pub just : Op → Code
just opcode = one (plain opcode)
