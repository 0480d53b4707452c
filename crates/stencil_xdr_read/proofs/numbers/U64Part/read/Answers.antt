use Rattle.stencil_xdr_read.specs.Reading.{number, Fits, pair_bytes, FitPair}
use Rattle.stencil_xdr_read.proofs.Steps.{handed_by}
use Rattle.stencil_xdr_read.proofs.Halves.{words_of, words_fit, words_same}
use Rattle.stencil_xdr_read.proofs.numbers.U64Part.read.Goals as goal

pub returns-in_err-low : goal.returns-in_err-low
returns-in_err-low c =
    handed_by (number 8) (Fits 8) (pair_bytes (number 4) (number 4)) (FitPair (Fits 4) (Fits 4)) words_of _ _ _ _ words_fit words_same c.from_residual.ensures.1 c.in_err-low.ensures
