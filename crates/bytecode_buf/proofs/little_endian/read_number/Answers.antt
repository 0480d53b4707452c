use Rattle.std.proofs.Common.{◌+◌, ◌-◌, ◌*◌, ◌^◌, ◌<◌, length, arith}
use Rattle.bytecode_buf.proofs.Bytes.{reading_fits, reading_none, reading_more, reading_all}
use Rattle.bytecode_buf.proofs.little_endian.read_number.Goals as goal

pub overflow_mul-value : goal.overflow_mul-value
overflow_mul-value c =
    let h : c.loop-i.value * 256 + 0 < 2 ^ 64 = reading_fits c.loop-i.i c.loop-i.value 0 (omega arith) c.loop-i.invariant.small (omega arith) in
    omega arith

pub overflow_add-value : goal.overflow_add-value
overflow_add-value c =
    let small : c.from.result < 256 = omega (arith, c.from.ensures, c.type_inv.bytes (length c.args.bytes.now - 1 - c.loop-i.i)) in
    let h : c.loop-i.value * 256 + c.from.result < 2 ^ 64 = reading_fits c.loop-i.i c.loop-i.value c.from.result (omega arith) c.loop-i.invariant.small small in
    omega arith

pub loop-i-init : goal.loop-i-init
loop-i-init c = reading_none _

pub loop-i-preserved : goal.loop-i-preserved
loop-i-preserved c =
    let small : c.from.result < 256 = omega (arith, c.from.ensures, c.type_inv.bytes (length c.args.bytes.now - 1 - c.loop-i.i)) in
    reading_more c.args.bytes.now c.loop-i.i c.loop-i.value c.from.result c.loop-i-test.true small c.from.ensures c.loop-i.invariant

pub returns : goal.returns
returns c = reading_all c.args.bytes.now c.loop-i.i c.loop-i.value c.loop-i.auto.i-end c.loop-i-test.false c.loop-i.invariant
