use Rattle.stencil_xdr_read.proofs.Apart.{interned_more, interned_other}
use Rattle.stencil_xdr_read.proofs.numbering.are_apart.Goals as goal

pub returns-then-place-number : goal.returns-then-place-number
returns-then-place-number c = interned_other c.args.texts.now _ _ _ _ c.loop-number.number _ c.loop-number-test.true c.loop-number.invariant.0 c.units.ensures c.index-texts-number.is c.in_ok-place.ensures.ok c.if-place-number.true

pub loop-number-preserved : goal.loop-number-preserved
loop-number-preserved c = (
  interned_more c.args.texts.now _ _ _ _ c.loop-number.number _ c.loop-number-test.true c.loop-number.invariant.0 c.units.ensures c.index-texts-number.is c.in_ok-place.ensures.ok c.if-place-number.false,
  c.in_ok-place.ensures.apart,
)
