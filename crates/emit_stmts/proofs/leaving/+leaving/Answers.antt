use Rattle.std.proofs.Common.{sym, ◌∙◌}
use Rattle.emit_stmts.proofs.Exits.{leaves_on}
use Rattle.emit_stmts.proofs.leaving.+leaving.Goals as goal

pub returns-in_ok-leaving-in-Some : goal.returns-in_ok-leaving-in-Some
returns-in_ok-leaving-in-Some t c = leaves_on c.args.goal c.args.frames.now c.in-Some.outer.now c.in-Some.frame.now c.in-Some.ensures.cases.0 (sym c.is_meant.ensures ∙ c.if-is_meant.false) c.in_ok-exit-in-Some.ensures c.in_ok-leaving-in-Some.ensures
