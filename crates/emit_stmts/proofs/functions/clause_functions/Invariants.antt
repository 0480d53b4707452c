use Rattle.std.proofs.Common.{drop}
use Rattle.emit_stmts.proofs.Values.{ClausesLeft}
use Rattle.emit_stmts.proofs.functions.clause_functions.Given as goal

abbrev pub invariant-loop-clause : goal.invariant-loop-clause
invariant-loop-clause l = ClausesLeft l.site l.initial.out l.out l.clauses (drop l.clause-index l.clauses)
