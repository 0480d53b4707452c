use Rattle.stencil_xdr_read.specs.Reading.{number, Fits, pair_bytes, FitPair}
use Rattle.stencil_xdr_read.proofs.Steps.{handed_by}
use Rattle.stencil_xdr_read.proofs.Halves.{halves_of, halves_fit, halves_same}
use Rattle.stencil_xdr_read.proofs.numbers.U32Part.read.Goals as goal

pub returns-in_err-low : goal.returns-in_err-low
returns-in_err-low c =
    handed_by (number 4) (Fits 4) (pair_bytes (number 2) (number 2)) (FitPair (Fits 2) (Fits 2)) halves_of _ _ _ _ halves_fit halves_same c.from_residual.ensures.1 c.in_err-low.ensures
