use Rattle.stencil_xdr_read.specs.Reading.{number, Fits, pair_bytes, FitPair}
use Rattle.stencil_xdr_read.specs.Parts.{Always, FitSlot, bind_kind_bytes, binding_parts, slot_bytes}
use Rattle.stencil_xdr_read.proofs.Steps.{handed_as}
use Rattle.stencil_xdr_read.proofs.data.BindingPart.read.Goals as goal

pub returns-in_err-atom : goal.returns-in_err-atom
returns-in_err-atom c = handed_as (pair_bytes (number 4) (pair_bytes bind_kind_bytes slot_bytes)) (FitPair (Fits 4) (FitPair Always FitSlot)) binding_parts _ _ _ _ c.from_residual.ensures.1 c.in_err-atom.ensures
