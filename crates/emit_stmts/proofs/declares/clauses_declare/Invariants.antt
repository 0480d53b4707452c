use Rattle.std.proofs.Common.{drop}
use Rattle.emit_stmts.proofs.Declaring.{ClausesLooked}
use Rattle.emit_stmts.proofs.declares.clauses_declare.Given as goal

abbrev pub invariant-loop-clause : goal.invariant-loop-clause
invariant-loop-clause l = ClausesLooked l.clauses (drop l.clause-index l.clauses)
