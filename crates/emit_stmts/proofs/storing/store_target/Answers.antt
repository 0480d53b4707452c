use Rattle.emit_stmts.proofs.StoreRows.{target_name, target_prop, target_elem, target_none}
use Rattle.emit_stmts.proofs.storing.store_target.Goals as goal

pub returns-in_ok-store_name-in-Name : goal.returns-in_ok-store_name-in-Name
returns-in_ok-store_name-in-Name c = target_name c.args.tree.now c.in-Name.atom c.in-Name.ensures c.in_ok-store_name-in-Name.ensures

pub returns-in_ok-named-in-Prop : goal.returns-in_ok-named-in-Prop
returns-in_ok-named-in-Prop c = target_prop c.args.tree.now c.in-Prop.atom c.in-Prop.ensures c.in_ok-emit_expr-in-Prop.ensures (c.in_ok-plain-in-Prop.ensures c.args.site.now.texts.now) (c.in_ok-named-in-Prop.ensures c.args.site.now.texts.now)

pub returns-in_ok-plain-in-Elem : goal.returns-in_ok-plain-in-Elem
returns-in_ok-plain-in-Elem c = target_elem c.args.tree.now c.in-Elem.ensures c.in_ok-emit_expr-in-Elem.ensures (c.in_ok-counted-in-Elem.ensures c.args.site.now.texts.now) (c.in_ok-plain-in-Elem.ensures c.args.site.now.texts.now)

pub returns-in-Nothing : goal.returns-in-Nothing
returns-in-Nothing c = target_none c.args.site.now c.args.out.now c.args.tree.now c.in-Nothing.ensures
