use Rattle.script_grammar.proofs.StmtEquations.{each_of-Target}
use Rattle.scope_analysis.specs.Kept.{under}
use Rattle.scope_functions.proofs.statements.uses_each.Goals as goal

pub returns-in-Target : goal.returns-in-Target
returns-in-Target c = λ bodies.
    rw c.in-Target.is (rw (each_of-Target (under c.args.wanted.now.texts.now bodies) c.in-Target.target) (c.uses_expr.ensures bodies))
