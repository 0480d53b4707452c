use Rattle.std.proofs.Common.{◌∙◌, ap, Option}
use Rattle.std.specs.Prelude.{option_copied}
use Rattle.script_grammar.specs.declared.tree.Func.{Func}
use Rattle.std.specs.Borrow.{Bor}
use Rattle.emit_functions.specs.TopCode.{assigned_by}
use Rattle.emit_functions.proofs.TopRows.{function_made, function_none}
use Rattle.emit_functions.proofs.tops.top_function.Goals as goal

pub returns-in_ok-assigning_function-in-Some : goal.returns-in_ok-assigning_function-in-Some
returns-in_ok-assigning_function-in-Some c = function_made c.args.stmt.now c.in-Some.func.now (λ i s. c.declared_function.ensures i s ∙ ap (λ (o : Option (Bor Func)). assigned_by s i (option_copied o)) c.in-Some.is) c.in_ok-assigning_function-in-Some.ensures

pub returns-in-None : goal.returns-in-None
returns-in-None c = function_none c.args.site.now c.args.out.now c.args.stmt.now (λ i s. c.declared_function.ensures i s ∙ ap (λ (o : Option (Bor Func)). assigned_by s i (option_copied o)) c.in-None.is)
