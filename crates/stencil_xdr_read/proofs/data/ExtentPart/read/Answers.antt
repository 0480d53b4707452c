use Rattle.stencil_xdr_read.specs.Reading.{number, Fits, pair_bytes, FitPair}
use Rattle.stencil_xdr_read.specs.Parts.{extent_parts}
use Rattle.stencil_xdr_read.proofs.Steps.{handed_as}
use Rattle.stencil_xdr_read.proofs.data.ExtentPart.read.Goals as goal

pub returns-in_err-start : goal.returns-in_err-start
returns-in_err-start c = handed_as (pair_bytes (number 4) (number 4)) (FitPair (Fits 4) (Fits 4)) extent_parts _ _ _ _ c.from_residual.ensures.1 c.in_err-start.ensures
