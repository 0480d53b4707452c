use Rattle.std.proofs.Common.{◌≡◌}
use Rattle.grammar_parser_specs.specs.Exprs.{head_case}
use Rattle.parse_exprs.specs.Means.{ParamsOf}
use Rattle.parse_bodies.proofs.Params.{read_is}
use Rattle.parse_exprs.proofs.ParamParts.{many_read}
use Rattle.grammar_parser_specs.specs.Stmts.{strict_listed}
use Rattle.parse_exprs.proofs.Steps.{then, made}
use Rattle.parse_exprs.proofs.Made.{made_answers}
use Rattle.parse_exprs.specs.Answers.{records}
use Rattle.parse_bodies.proofs.arrows.strict_listed.Goals as goal

pub returns : goal.returns
unfolding strict_listed
returns g c = λ i. let a = c.in_ok-read.ensures i in
    let e = many_read i c.in_ok-read.read.last a.2 in
    let m = head_case c.args.start (record { items = a.0; last = e.0 }) in
    made_answers (ParamsOf i (g.H.Handler.shows_expr i)) (λ p. ParamsOf i (g.H.Handler.shows_expr i) p (λ h. m ≡ h)) c.args.source.now i c.expect.new.self c.ended.result (records c.args.source.now i c.args.state.now.place) _ (c.ended.ensures i (record { items = a.0; last = e.0 }) a.1 e.1)
    (λ p q. (q.0, q.1, read_is q.2 (then _ e.2 (made (λ _. m) (c.in_ok-expect.ensures i)))))
