use Rattle.emit_stmts.proofs.StoreRows.{each_target, each_bound}
use Rattle.emit_stmts.proofs.storing.store_each.Goals as goal

pub returns-in_ok-store_target-in-Target : goal.returns-in_ok-store_target-in-Target
returns-in_ok-store_target-in-Target c = each_target c.args.each.now c.in-Target.tree c.in-Target.is c.in_ok-store_target-in-Target.ensures

pub returns-in_ok-store_bound-in-Bind : goal.returns-in_ok-store_bound-in-Bind
returns-in_ok-store_bound-in-Bind c = each_bound c.args.each.now c.in-Bind.decl c.in-Bind.name c.in-Bind.is c.in_ok-store_bound-in-Bind.ensures
