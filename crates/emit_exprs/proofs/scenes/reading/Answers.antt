use Rattle.std.proofs.Common.{subst}
use Rattle.stencil_data.specs.declared.scopes.Place.{Place}
use Rattle.emit_exprs.specs.Names.{read}
use Rattle.emit_exprs.specs.Sites.{EmitsAt, text_in}
use Rattle.emit_exprs.specs.Whole.{whole}
use Rattle.emit_exprs.proofs.scenes.reading.Goals as goal

pub returns : goal.returns
returns c = subst (λ (p : Place). EmitsAt c.args.site.now c.args.out.now c.read_at.new.out (whole (read (text_in c.args.site.now c.args.atom) p))) c.find_place-place.ensures.is (c.in_ok-read_at.ensures c.args.site.now.texts.now)
