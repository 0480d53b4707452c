use Rattle.std.proofs.Common.{◌≡◌, ◌+◌, length}
use Rattle.bytecode_buf.specs.Layout.{instructions, layout}
use Rattle.stencil_xdr_read.proofs.CodeLoop.{left_from}
use Rattle.stencil_xdr_write.proofs.code.whole_length.Given as goal

abbrev pub invariant-loop : goal.invariant-loop
invariant-loop l = l.at + length (layout (left_from l.code l.at l.counter)) ≡ length (layout (instructions l.code))
