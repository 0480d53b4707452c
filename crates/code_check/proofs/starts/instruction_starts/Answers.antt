use Rattle.std.proofs.Common.{arith}
use Rattle.code_check.proofs.StartWalk.{decodes, not_decoded, starts_next, starts_end}
use Rattle.code_check.proofs.starts.instruction_starts.Goals as goal

pub loop-instr-smaller : goal.loop-instr-smaller
loop-instr-smaller c = let d = decodes c.args.code.now c.loop-instr.at c.in-Some.instr c.in-Some.ensures.value in omega (arith, d.inside, d.next)

pub loop-instr-preserved : goal.loop-instr-preserved
loop-instr-preserved c =
    let d = decodes c.args.code.now c.loop-instr.at c.in-Some.instr c.in-Some.ensures.value in
    starts_next c.args.code.now c.loop-instr.starts.items c.loop-instr.at c.in-Some.instr.next d.i d.inside d.decoded_there d.next c.loop-instr.invariant

pub returns : goal.returns
returns c = starts_end c.args.code.now c.loop-instr.starts.items c.loop-instr.at (not_decoded c.args.code.now c.loop-instr.at c.decode_at.result c.decode_at.ensures.value c.in_default.not-Some) c.loop-instr.invariant
