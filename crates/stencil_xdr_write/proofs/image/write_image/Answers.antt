use Rattle.std.proofs.Common.{ap, ◌∙◌}
use Rattle.script_image.proofs.Stands.{stencil_is}
use Rattle.stencil_xdr_laws.specs.Pieces.{image_of}
use Rattle.stencil_xdr_write.proofs.Written.{if_ok_then}
use Rattle.stencil_xdr_write.proofs.image.write_image.Goals as goal

pub returns-clause-value : goal.returns-clause-value
returns-clause-value c = if_ok_then c.numbered_image.result c.numbered_image.ensures.listed (λ bytes is named stands. is ∙ ap image_of (stencil_is c.args.merged.now named stands))
