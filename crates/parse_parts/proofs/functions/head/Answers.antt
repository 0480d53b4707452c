use Rattle.script_grammar.specs.Interpretation.{maybe_named}
use Rattle.parse_exprs.specs.Answers.{records}
use Rattle.parse_parts.specs.Answers.{IsHeaded}
use Rattle.parse_parts.specs.Pending.{IsGained, CompletesHead}
use Rattle.parse_parts.proofs.Clauses.{plain_form, headed_is, headed_refused, handed_on}
use Rattle.parse_parts.proofs.PendingClauses.{nothing, head_gains, head_lost, head_completes}
use Rattle.parse_parts.proofs.functions.head.Goals as goal

pub returns-clause-answer : goal.returns-clause-answer
returns-clause-answer g c = λ i. headed_is c.args.source.now c.requires.source i c.args.depth c.requires.depth c.args.state.now.place.at c.requires.place c.function.new.self.place _ (g.H.Handler.shows_expr i) (g.H.Handler.shows_body i) c.args.form (maybe_named i c.args.name) (plain_form c.args.form c.requires.no_script c.requires.no_arrow) c.in_ok-read.read (c.in_ok-read.ensures i)

pub returns-clause-pending : goal.returns-clause-pending
returns-clause-pending g c = head_gains c.args.source.now nothing c.args.depth c.args.state.now.place c.function.new.self.place (g.H.Handler.shows_expr nothing) (g.H.Handler.shows_body nothing) c.args.form (maybe_named nothing c.args.name) c.in_ok-read.read (c.in_ok-read.ensures nothing)

pub returns-clause-completes : goal.returns-clause-completes
returns-clause-completes g c = λ i. head_completes c.args.source.now i c.args.depth c.args.state.now.place c.function.new.self.place (g.H.Handler.shows_expr i) (g.H.Handler.shows_body i) c.args.form (maybe_named i c.args.name) (plain_form c.args.form c.requires.no_script c.requires.no_arrow) c.requires.depth c.in_ok-read.read (c.in_ok-read.ensures i)

pub returns-in_err-read-clause-answer : goal.returns-in_err-read-clause-answer
returns-in_err-read-clause-answer g c = λ i. let s = c.args.source.now in let p = c.function.new.self.place in let start = c.args.state.now.place.at in
    handed_on (IsHeaded i (g.H.Handler.shows_expr i) (g.H.Handler.shows_body i) s c.args.form (maybe_named i c.args.name) c.args.depth start p.at) c.in_err-read.field-0.0 c.from_residual.result c.from_residual.ensures.1
    (headed_refused s c.requires.source i c.args.depth c.requires.depth start c.requires.place p (records s i c.args.state.now.place) (g.H.Handler.shows_expr i) (g.H.Handler.shows_body i) c.args.form (maybe_named i c.args.name) (plain_form c.args.form c.requires.no_script c.requires.no_arrow) c.in_err-read.field-0.0 (c.in_err-read.ensures i))

pub returns-in_err-read-clause-pending : goal.returns-in_err-read-clause-pending
returns-in_err-read-clause-pending g c = let s = c.args.source.now in let old = c.args.state.now.place in let new = c.function.new.self.place in
    handed_on (IsGained s old new) c.in_err-read.field-0.0 c.from_residual.result c.from_residual.ensures.1
    (head_lost s nothing c.args.depth old new (g.H.Handler.shows_expr nothing) (g.H.Handler.shows_body nothing) c.args.form (maybe_named nothing c.args.name) c.in_err-read.field-0.0 (c.in_err-read.ensures nothing))

pub returns-in_err-read-clause-completes : goal.returns-in_err-read-clause-completes
returns-in_err-read-clause-completes g c = λ i. handed_on (CompletesHead i (g.H.Handler.shows_expr i) (g.H.Handler.shows_body i) c.args.source.now c.args.form (maybe_named i c.args.name) c.args.depth c.args.state.now.place c.function.new.self.place) c.in_err-read.field-0.0 c.from_residual.result c.from_residual.ensures.1 tt
