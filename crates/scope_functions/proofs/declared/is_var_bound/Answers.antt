use Rattle.scope_functions.proofs.declared.is_var_bound.Goals as goal

pub returns-in-Var : goal.returns-in-Var
returns-in-Var c = λ bodies. rw c.in-Var.is (c.is_bound.ensures bodies)
