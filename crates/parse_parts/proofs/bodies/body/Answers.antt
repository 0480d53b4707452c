use Rattle.std.proofs.Common.{true}
use Rattle.script_grammar.specs.declared.token.FuncForm.TheVariants as form
use Rattle.parse_exprs.specs.Answers.{records}
use Rattle.parse_parts.specs.Answers.{IsBraced}
use Rattle.parse_parts.specs.Pending.{IsGained, CompletesBody}
use Rattle.parse_parts.proofs.Clauses.{braced_is, braced_refused, handed_on}
use Rattle.parse_parts.proofs.PendingClauses.{nothing, body_gains, body_lost, body_completes}
use Rattle.parse_parts.proofs.bodies.body.Goals as goal

-- which function has the body is not looked at

pub returns-clause-answer : goal.returns-clause-answer
returns-clause-answer g c = λ i. braced_is c.args.source.now c.requires.source i c.args.depth c.requires.depth c.args.state.now.place.at c.requires.place c.body.new.state.place _ (g.H.Handler.shows_body i) form.Function 0 true c.in_ok-read.read (c.in_ok-read.ensures i form.Function 0 true)

pub returns-clause-pending : goal.returns-clause-pending
returns-clause-pending g c = body_gains c.args.source.now nothing c.args.depth c.args.state.now.place c.body.new.state.place (g.H.Handler.shows_body nothing) form.Function 0 true c.in_ok-read.read (c.in_ok-read.ensures nothing form.Function 0 true)

pub returns-clause-completes : goal.returns-clause-completes
returns-clause-completes g c = λ i. body_completes c.args.source.now i c.args.depth c.args.state.now.place c.body.new.state.place (g.H.Handler.shows_body i) form.Function 0 true c.requires.depth c.in_ok-read.read (c.in_ok-read.ensures i form.Function 0 true)

pub returns-in_err-read-clause-answer : goal.returns-in_err-read-clause-answer
returns-in_err-read-clause-answer g c = λ i. let s = c.args.source.now in let p = c.body.new.state.place in let start = c.args.state.now.place.at in
    handed_on (IsBraced i (g.H.Handler.shows_body i) s c.args.depth start p.at) c.in_err-read.field-0.0 c.from_residual.result c.from_residual.ensures.1
    (braced_refused s c.requires.source i c.args.depth c.requires.depth start c.requires.place p (records s i c.args.state.now.place) (g.H.Handler.shows_body i) form.Function 0 true c.in_err-read.field-0.0 (c.in_err-read.ensures i form.Function 0 true))

pub returns-in_err-read-clause-pending : goal.returns-in_err-read-clause-pending
returns-in_err-read-clause-pending g c = let s = c.args.source.now in let old = c.args.state.now.place in let new = c.body.new.state.place in
    handed_on (IsGained s old new) c.in_err-read.field-0.0 c.from_residual.result c.from_residual.ensures.1
    (body_lost s nothing c.args.depth old new (g.H.Handler.shows_body nothing) form.Function 0 true c.in_err-read.field-0.0 (c.in_err-read.ensures nothing form.Function 0 true))

pub returns-in_err-read-clause-completes : goal.returns-in_err-read-clause-completes
returns-in_err-read-clause-completes g c = λ i. handed_on (CompletesBody i (g.H.Handler.shows_body i) c.args.source.now c.args.depth c.args.state.now.place c.body.new.state.place) c.in_err-read.field-0.0 c.from_residual.result c.from_residual.ensures.1 tt
