use Rattle.stencil_xdr_read.specs.Reading.{number, Fits, pair_bytes, FitPair}
use Rattle.stencil_xdr_read.specs.Parts.{closed_parts}
use Rattle.stencil_xdr_read.proofs.Steps.{handed_as}
use Rattle.stencil_xdr_read.proofs.data.ClosedNamePart.read.Goals as goal

pub returns-in_err-scope : goal.returns-in_err-scope
returns-in_err-scope c = handed_as (pair_bytes (number 4) (number 4)) (FitPair (Fits 4) (Fits 4)) closed_parts _ _ _ _ c.from_residual.ensures.1 c.in_err-scope.ensures
