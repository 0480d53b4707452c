use Rattle.emit_exprs.specs.Sites.{scene_of, text_in}
use Rattle.emit_stmts.proofs.StoreRows.{name_stored}
use Rattle.emit_stmts.proofs.storing.store_name.Goals as goal

pub returns : goal.returns
returns c = name_stored (scene_of c.args.site.now) (text_in c.args.site.now c.args.atom) c.find_place-place.result c.find_place-place.ensures.is (c.in_ok-base_below.ensures c.args.site.now.texts.now) c.in_ok-writing.ensures
