use Rattle.std.proofs.Common.{subst}
use Rattle.stencil_data.specs.declared.scopes.Place.{Place}
use Rattle.emit_exprs.specs.Names.{init}
use Rattle.emit_exprs.specs.Sites.{EmitsAt, text_in}
use Rattle.emit_exprs.specs.Whole.{whole}
use Rattle.emit_stmts.proofs.functions.initializing.Goals as goal

pub returns : goal.returns
returns c = subst (λ (p : Place). EmitsAt c.args.site.now c.args.out.now c.init_at.new.out (whole (init (text_in c.args.site.now c.args.atom) p))) c.find_place-place.ensures.is (c.in_ok-init_at.ensures c.args.site.now.texts.now)
