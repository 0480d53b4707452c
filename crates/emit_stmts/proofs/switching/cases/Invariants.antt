use Rattle.std.proofs.Common.{◌≡◌, ◌≤◌, [], drop, length}
use Rattle.emit_stmts.specs.Clauses.{InOrder}
use Rattle.emit_stmts.proofs.HeadRows.{CasesLeft}
use Rattle.emit_stmts.proofs.switching.cases.Given as goal

abbrev pub invariant-loop-place : goal.invariant-loop-place
invariant-loop-place l = record {
  code : CasesLeft l.site l.initial.out l.initial.waits.items l.out l.waits.items l.place l.clauses (drop l.place l.clauses);
  order : l.initial.waits.items ≡ [] → InOrder 0 l.place l.waits.items;
  within : l.place ≤ length l.clauses;
}
