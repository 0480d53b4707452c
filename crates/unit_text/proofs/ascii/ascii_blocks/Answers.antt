use Rattle.std.proofs.Common.{sym, subst, arith, take-add}
use Rattle.std.specs.Str.{IsAscii}
use Rattle.std.proofs.lemmas.Str.{IsAscii-append}
use Rattle.unit_text.proofs.ascii.ascii_blocks.Goals as goal

pub loop-at-preserved : goal.loop-at-preserved
loop-at-preserved c = (omega arith, subst IsAscii (sym (take-add c.loop-at.at 64 c.args.bytes.now)) (IsAscii-append _ _ c.loop-at.invariant.1 (c.is_ascii_block.ensures c.if-not-is_ascii_block.false)))
