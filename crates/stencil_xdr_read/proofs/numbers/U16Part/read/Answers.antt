use Rattle.stencil_xdr_read.specs.Reading.{byte, IsByte, number, Fits, pair_bytes, FitPair}
use Rattle.stencil_xdr_read.proofs.Steps.{handed_by}
use Rattle.stencil_xdr_read.proofs.Halves.{bytes_of, bytes_fit, bytes_same}
use Rattle.stencil_xdr_read.proofs.numbers.U16Part.read.Goals as goal

pub returns-in_err-low : goal.returns-in_err-low
returns-in_err-low c =
    handed_by (number 2) (Fits 2) (pair_bytes (byte) (byte)) (FitPair (IsByte) (IsByte)) bytes_of _ _ _ _ bytes_fit bytes_same c.from_residual.ensures.1 c.in_err-low.ensures
