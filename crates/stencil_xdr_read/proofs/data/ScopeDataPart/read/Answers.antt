use Rattle.stencil_xdr_read.specs.Reading.{number, Fits, pair_bytes, FitPair, maybe_bytes, FitMaybe, list_bytes, FitList}
use Rattle.stencil_xdr_read.specs.Parts.{Always, FitBinding, binding_bytes, scope_kind_bytes, scope_parts}
use Rattle.stencil_xdr_read.proofs.Steps.{handed_as}
use Rattle.stencil_xdr_read.proofs.data.ScopeDataPart.read.Goals as goal

pub returns-in_err-kind : goal.returns-in_err-kind
returns-in_err-kind c = handed_as (pair_bytes scope_kind_bytes (pair_bytes (maybe_bytes (number 4)) (pair_bytes (list_bytes binding_bytes) (number 4)))) (FitPair Always (FitPair (FitMaybe (Fits 4)) (FitPair (FitList FitBinding) (Fits 4)))) scope_parts _ _ _ _ c.from_residual.ensures.1 c.in_err-kind.ensures
