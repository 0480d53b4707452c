use Rattle.std.proofs.Common.{sym, ◌∙◌, ap}
use Rattle.script_grammar.specs.Tree as model
use Rattle.script_grammar.specs.TreeOf.{each_of}
use Rattle.script_grammar.proofs.StmtEquations.{each_of-Target, each_of-Bind}
use Rattle.scope_analysis.specs.Functions.{inner_each}
use Rattle.scope_inner.proofs.FindRows.{found_none, found_as}
use Rattle.scope_inner.proofs.parts.find_each.Goals as goal

pub returns-in_ok-find_expr-in-Target : goal.returns-in_ok-find_expr-in-Target
returns-in_ok-find_expr-in-Target c = found_as (λ i r. sym (ap (λ (m : model.Each). inner_each m r) (ap (each_of i) c.in-Target.is ∙ each_of-Target i c.in-Target.target))) c.in_ok-find_expr-in-Target.ensures

pub returns-in-Bind : goal.returns-in-Bind
returns-in-Bind c = found_none _ _ (λ i r. ap (λ (m : model.Each). inner_each m r) (ap (each_of i) c.in-Bind.is ∙ each_of-Bind i c.in-Bind.decl c.in-Bind.name))
