use Rattle.stencil_xdr_read.specs.Parts.{FitFunctionParts, function_parts, function_parts_bytes}
use Rattle.stencil_xdr_read.proofs.Steps.{handed_as}
use Rattle.stencil_xdr_read.proofs.data.FunctionStencilPart.read.Goals as goal

pub returns-in_err-head : goal.returns-in_err-head
returns-in_err-head c = handed_as function_parts_bytes FitFunctionParts function_parts _ _ _ _ c.from_residual.ensures.1 c.in_err-head.ensures
