use Rattle.emit_stmts.proofs.ScriptRows.{drafted}
use Rattle.emit_stmts.proofs.scripts.draft_script.Goals as goal

pub returns : goal.returns
returns c = drafted c.args.texts.now c.args.scopes.now c.args.inner.now c.args.items.now c.args.chain.now c.requires.global c.new.ensures c.new-waits.ensures.items c.new-2.ensures.items c.in_ok-emit_script.ensures
