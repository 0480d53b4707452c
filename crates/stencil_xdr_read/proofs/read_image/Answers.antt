use Rattle.std.proofs.Common.{sym, ◌∙◌}
use Rattle.std.proofs.lemmas.Bool.{false≢true}
use Rattle.stencil_xdr_read.proofs.Complete.{no_image, handed_none}
use Rattle.stencil_xdr_read.proofs.OneImage.{one_image_alike}
use Rattle.stencil_xdr_read.proofs.Sound.{is_image, texts_in_order}
use Rattle.stencil_xdr_read.proofs.read_image.Goals as goal

pub returns-in_err-stencil-clause-none : goal.returns-in_err-stencil-clause-none
returns-in_err-stencil-clause-none c = handed_none _ _ _ c.from_residual.ensures.1 c.in_err-stencil.ensures

pub returns-then-canonical-clause-image : goal.returns-then-canonical-clause-image
returns-then-canonical-clause-image c = is_image _ _ c.in_ok-stencil.ensures.0 c.in_ok-stencil.ensures.1 (c.in_ok-canonical.ensures.0 c.if-canonical.true)

pub returns-else-canonical-clause-none : goal.returns-else-canonical-clause-none
returns-else-canonical-clause-none c = λ e. no_image _ _ c.in_ok-stencil.ensures.0 c.in_ok-stencil.ensures.1 (λ is. false≢true (sym c.if-canonical.false ∙ c.in_ok-canonical.ensures.1 is))

pub returns-then-canonical-clause-texts : goal.returns-then-canonical-clause-texts
returns-then-canonical-clause-texts c = sym (texts_in_order c.in_ok-stencil.stencil (c.in_ok-canonical.ensures.0 c.if-canonical.true))

pub returns-then-canonical-clause-value : goal.returns-then-canonical-clause-value
returns-then-canonical-clause-value c =
    λ other is. one_image_alike other _ _ is (is_image _ _ c.in_ok-stencil.ensures.0 c.in_ok-stencil.ensures.1 (c.in_ok-canonical.ensures.0 c.if-canonical.true))
