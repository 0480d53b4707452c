use Rattle.std.proofs.Common.{rules}
use Rattle.stencil_xdr_read.specs.Whole.{stencil_bytes, FitStencil}
use Rattle.stencil_xdr_read.proofs.Steps.{handed}
use Rattle.stencil_xdr_read.proofs.Stencils.{refused_front, refused_entries}
use Rattle.stencil_xdr_read.proofs.whole.read_stencil.Goals as goal

pub returns-in_err-_magic : goal.returns-in_err-_magic
returns-in_err-_magic c = handed stencil_bytes FitStencil _ _ _ _ c.from_residual.ensures.1 (refused_front _ _ c.in_err-_magic.ensures)

pub returns-in_err-entries : goal.returns-in_err-entries
returns-in_err-entries c = handed stencil_bytes FitStencil _ _ _ _ c.from_residual-in_err-entries.ensures.1 (refused_entries _ _ _ _ _ c.in_ok-_magic.ensures (search rules) c.in_err-entries.ensures)
