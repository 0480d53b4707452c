use Rattle.std.proofs.Common.{List, map, sym, ◌∙◌, ap}
use Rattle.script_grammar.specs.declared.tree.Bind.{Bind}
use Rattle.script_grammar.specs.Tree as model
use Rattle.script_grammar.specs.TreeLists.{binds_of}
use Rattle.script_grammar.specs.TreeOf.{bind_of, init_of}
use Rattle.script_grammar.proofs.StmtEquations.{init_of-Nothing, init_of-Value, init_of-Binds}
use Rattle.scope_analysis.specs.Functions.{inner_binds, inner_init}
use Rattle.scope_inner.proofs.FindRows.{found_none, found_as}
use Rattle.scope_inner.proofs.parts.find_init.Goals as goal

pub returns-in-Nothing : goal.returns-in-Nothing
returns-in-Nothing c = found_none _ _ (λ i r. ap (λ (m : model.Init). inner_init m r) (ap (init_of i) c.in-Nothing.is ∙ init_of-Nothing i))

pub returns-in_ok-find_expr-in-Value : goal.returns-in_ok-find_expr-in-Value
returns-in_ok-find_expr-in-Value c = found_as (λ i r. sym (ap (λ (m : model.Init). inner_init m r) (ap (init_of i) c.in-Value.is ∙ init_of-Value i c.in-Value.value))) c.in_ok-find_expr-in-Value.ensures

pub returns-in_ok-find_binds-in-Binds : goal.returns-in_ok-find_binds-in-Binds
returns-in_ok-find_binds-in-Binds c = found_as (λ i r. ap (λ (l : List Bind). inner_binds (binds_of (map (bind_of i) l)) r) c.deref.ensures.value ∙ sym (ap (λ (m : model.Init). inner_init m r) (ap (init_of i) c.in-Binds.is ∙ init_of-Binds i c.in-Binds.decl c.in-Binds.binds))) c.in_ok-find_binds-in-Binds.ensures
