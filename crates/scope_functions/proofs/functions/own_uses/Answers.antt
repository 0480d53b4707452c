use Rattle.scope_functions.proofs.functions.own_uses.Goals as goal

pub returns : goal.returns
returns c = λ bodies b has. record { arguments = c.uses_name.ensures bodies b has; this = c.uses_name-2.ensures bodies b has }
