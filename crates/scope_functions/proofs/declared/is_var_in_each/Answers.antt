use Rattle.script_grammar.proofs.StmtEquations.{each_of-Bind}
use Rattle.scope_analysis.specs.Kept.{under}
use Rattle.scope_functions.proofs.declared.is_var_in_each.Goals as goal

pub returns-in-Bind : goal.returns-in-Bind
returns-in-Bind c = λ bodies.
    rw c.in-Bind.is (rw (each_of-Bind (under c.args.wanted.now.texts.now bodies) c.in-Bind.decl c.in-Bind.name) (c.is_var_bind.ensures bodies))
