use Rattle.bytecode_buf.proofs.Bytes.{Reading}
use Rattle.bytecode_buf.proofs.little_endian.read_number.Given as goal

abbrev pub invariant-loop-i : goal.invariant-loop-i
invariant-loop-i l = Reading l.bytes l.i l.value
