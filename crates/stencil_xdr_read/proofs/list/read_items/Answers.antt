use Rattle.stencil_xdr_read.proofs.Steps.{handed, refused_items}
use Rattle.std.specs.List.{flat_map}
use Rattle.stencil_xdr_read.specs.Reading.{AreItems}
use Rattle.stencil_xdr_read.proofs.list.read_items.Goals as goal

pub returns-in_err-item : goal.returns-in_err-item
returns-in_err-item g c =
    handed (flat_map g.P.Part.bytes) (AreItems c.args.count g.P.Part.fits) _ _ _ _ c.from_residual.ensures.1
    (refused_items g.P.Part.bytes g.P.Part.fits g.met.P.Part.unique _ _ _ _ _ _ c.loop-test.true c.loop.invariant c.in_err-item.ensures)
