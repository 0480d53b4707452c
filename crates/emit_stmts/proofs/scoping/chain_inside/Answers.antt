use Rattle.std.proofs.Common.{◌∷◌, sym, ◌∙◌, ap, subst}
use Rattle.stencil_data.specs.Fits.{LinksFit}
use Rattle.stencil_data.specs.LinkView.{LinkView}
use Rattle.emit_stmts.specs.Positions.{position_of}
use Rattle.emit_stmts.proofs.Scopes.{link_fits}
use Rattle.emit_stmts.proofs.scoping.chain_inside.Goals as goal

pub returns-clause-slots : goal.returns-clause-slots
returns-clause-slots c = subst LinksFit (sym (c.in_ok-chain.ensures ∙ ap (λ (l : LinkView). l ∷ c.args.site.now.exprs.chain.now) c.in_ok-link.ensures)) (link_fits (position_of c.args.site.now).scopes c.args.number c.args.site.now.slots, c.args.site.now.exprs.slots)
