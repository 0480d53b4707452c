use Rattle.parse_exprs.specs.Answers.{records}
use Rattle.parse_parts.specs.Answers.{IsAssignment}
use Rattle.parse_parts.specs.Pending.{IsGained, CompletesAssignment}
use Rattle.parse_parts.proofs.Clauses.{assignment_is, assignment_refused, handed_on}
use Rattle.parse_parts.proofs.PendingClauses.{nothing, assignment_gains, assignment_lost, assignment_completes}
use Rattle.parse_parts.proofs.exprs.assignment.Goals as goal

pub returns-clause-answer : goal.returns-clause-answer
returns-clause-answer g c = λ i. assignment_is c.args.source.now c.requires.source i c.args.depth c.requires.depth c.args.state.now.place.at c.requires.place c.assign.new.self.place _ (g.H.Handler.shows_expr i) c.args.with_in c.in_ok-read.read (c.in_ok-read.ensures i)

pub returns-clause-pending : goal.returns-clause-pending
returns-clause-pending g c = assignment_gains c.args.source.now nothing c.args.depth c.args.state.now.place c.assign.new.self.place (g.H.Handler.shows_expr nothing) c.args.with_in c.in_ok-read.read (c.in_ok-read.ensures nothing)

pub returns-clause-completes : goal.returns-clause-completes
returns-clause-completes g c = λ i. assignment_completes c.args.source.now i c.args.depth c.args.state.now.place c.assign.new.self.place (g.H.Handler.shows_expr i) c.args.with_in c.requires.depth c.in_ok-read.read (c.in_ok-read.ensures i)

pub returns-in_err-read-clause-answer : goal.returns-in_err-read-clause-answer
returns-in_err-read-clause-answer g c = λ i. let s = c.args.source.now in let p = c.assign.new.self.place in let start = c.args.state.now.place.at in
    handed_on (IsAssignment i (g.H.Handler.shows_expr i) s c.args.with_in c.args.depth start p.at) c.in_err-read.field-0.0 c.from_residual.result c.from_residual.ensures.1
    (assignment_refused s c.requires.source i c.args.depth c.requires.depth start c.requires.place p (records s i c.args.state.now.place) (g.H.Handler.shows_expr i) c.args.with_in c.in_err-read.field-0.0 (c.in_err-read.ensures i))

pub returns-in_err-read-clause-pending : goal.returns-in_err-read-clause-pending
returns-in_err-read-clause-pending g c = let s = c.args.source.now in let old = c.args.state.now.place in let new = c.assign.new.self.place in
    handed_on (IsGained s old new) c.in_err-read.field-0.0 c.from_residual.result c.from_residual.ensures.1
    (assignment_lost s nothing c.args.depth old new (g.H.Handler.shows_expr nothing) c.args.with_in c.in_err-read.field-0.0 (c.in_err-read.ensures nothing))

pub returns-in_err-read-clause-completes : goal.returns-in_err-read-clause-completes
returns-in_err-read-clause-completes g c = λ i. handed_on (CompletesAssignment i (g.H.Handler.shows_expr i) c.args.source.now c.args.with_in c.args.depth c.args.state.now.place c.assign.new.self.place) c.in_err-read.field-0.0 c.from_residual.result c.from_residual.ensures.1 tt
