use Rattle.std.proofs.Common.{sym}
use Rattle.script_grammar.proofs.StmtEquations.{init_of-Value, init_of-Binds}
use Rattle.scope_analysis.specs.Kept.{under}
use Rattle.scope_functions.proofs.statements.uses_init.Goals as goal

pub returns-in-Value : goal.returns-in-Value
returns-in-Value c = λ bodies.
    rw c.in-Value.is (rw (init_of-Value (under c.args.wanted.now.texts.now bodies) c.in-Value.value) (c.uses_expr.ensures bodies))

pub returns-in-Binds : goal.returns-in-Binds
returns-in-Binds c = λ bodies.
    rw c.in-Binds.is (rw (init_of-Binds (under c.args.wanted.now.texts.now bodies) c.in-Binds.decl c.in-Binds.binds) (rw (sym c.deref.ensures.value) (c.uses_binds.ensures bodies)))
