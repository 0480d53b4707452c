use Rattle.std.proofs.Common.{◌≤◌, ◌∙◌, ap, drop, length, length-drop, arith}
use Rattle.bytecode_buf.proofs.Decode.{numbered_start, numbered_start-length, decoded-renumbered, drop-renumbered}
use Rattle.bytecode_buf.proofs.instruction.renumber.Goals as goal

pub write_number-requires : goal.write_number-requires
write_number-requires c =
    let long : 5 ≤ length (drop c.args.at c.args.code.now) = numbered_start-length _ (numbered_start _ c.requires.numbered) in
    omega (arith, length-drop c.args.at c.args.code.now)

pub returns-clause-operand : goal.returns-clause-operand
returns-clause-operand c =
    let s = numbered_start _ c.requires.numbered in
    decoded-renumbered c.args.a _ _ s c.requires.fits (ap (drop c.args.at) c.write_number.ensures ∙ drop-renumbered c.args.code.now c.args.at c.args.a s)
