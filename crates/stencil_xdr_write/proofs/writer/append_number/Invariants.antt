use Rattle.std.proofs.Common.{◌≡◌, ◌++◌, ◌-◌}
use Rattle.bytecode_buf.specs.Bytes.{le_bytes}
use Rattle.stencil_xdr_write.proofs.writer.append_number.Given as goal

abbrev pub invariant-loop : goal.invariant-loop
invariant-loop l = l.out.items ++ le_bytes (l.width - l.counter) l.rest ≡ l.initial.out.items ++ le_bytes l.width l.value
