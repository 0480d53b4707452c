use Rattle.std.proofs.Common.{refl}
use Rattle.emit_stmts.proofs.Values.{declaring_some, declaring_none}
use Rattle.emit_stmts.proofs.functions.declaring.Goals as goal

pub returns-in_ok-plain-in-Some : goal.returns-in_ok-plain-in-Some
returns-in_ok-plain-in-Some c = declaring_some c.args.func.now c.in-Some.name _ c.in-Some.is refl c.in_ok-lambda-in-Some.ensures c.in_ok-initializing-in-Some.ensures (c.in_ok-plain-in-Some.ensures c.args.site.now.texts.now)

pub returns-in-None : goal.returns-in-None
returns-in-None c = declaring_none c.args.site.now c.args.out.now c.args.func.now c.in-None.is
