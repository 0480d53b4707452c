use Rattle.std.proofs.Common.{drop}
use Rattle.emit_stmts.proofs.HeadRows.{DefaultLooked}
use Rattle.emit_stmts.proofs.switching.default_aim.Given as goal

abbrev pub invariant-loop-place : goal.invariant-loop-place
invariant-loop-place l = DefaultLooked l.level l.place l.clauses (drop l.place l.clauses)
