use Rattle.std.proofs.Common.{sym}
use Rattle.script_grammar.proofs.StmtEquations.{stmt_of-Binds}
use Rattle.scope_analysis.specs.Kept.{under}
use Rattle.scope_functions.proofs.declared.is_top_lexical_name.Goals as goal

pub returns-in-Binds : goal.returns-in-Binds
returns-in-Binds c = λ bodies.
    rw c.in-Binds.is (rw (stmt_of-Binds (under c.args.wanted.now.texts.now bodies) c.in-Binds.decl c.in-Binds.binds c.in-Binds.semi) (rw (sym c.deref.ensures.value) (c.is_lexically_bound.ensures bodies)))
