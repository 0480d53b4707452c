use Rattle.emit_stmts.proofs.TryRows.{kept_modulo}
use Rattle.emit_stmts.proofs.trying.+kept_values.Goals as goal

pub returns-in-Some : goal.returns-in-Some
returns-in-Some t c = λ texts. kept_modulo texts c.in-Some.frame.now c.args.frames.now c.in-Some.outer.now _ _ c.in-Some.ensures.cases.0 (c.kept_by.ensures texts) (c.kept_values.ensures texts)
