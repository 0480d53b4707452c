use Rattle.std.proofs.Common.{◌∙◌, ap, Option}
use Rattle.std.specs.Prelude.{option_copied}
use Rattle.script_grammar.specs.declared.tree.Func.{Func}
use Rattle.std.specs.Borrow.{Bor}
use Rattle.emit_stmts.specs.ValueCode.{declared_by}
use Rattle.emit_stmts.proofs.Values.{declared_made, declared_none}
use Rattle.emit_stmts.proofs.functions.declared_in.Goals as goal

pub returns-in_ok-declaring-in-Some : goal.returns-in_ok-declaring-in-Some
returns-in_ok-declaring-in-Some c = declared_made c.args.stmt.now c.in-Some.func.now (λ i s. c.declared_function.ensures i s ∙ ap (λ (o : Option (Bor Func)). declared_by s i (option_copied o)) c.in-Some.is) c.in_ok-declaring-in-Some.ensures

pub returns-in-None : goal.returns-in-None
returns-in-None c = declared_none c.args.site.now c.args.out.now c.args.stmt.now (λ i s. c.declared_function.ensures i s ∙ ap (λ (o : Option (Bor Func)). declared_by s i (option_copied o)) c.in-None.is)
