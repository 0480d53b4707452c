use Rattle.bytecode_buf.proofs.Bytes.{Writing}
use Rattle.bytecode_buf.proofs.little_endian.write_number.Given as goal

abbrev pub invariant-loop-i : goal.invariant-loop-i
invariant-loop-i l = Writing l.at l.width l.value l.initial.into l.i l.rest l.into
