use Rattle.grammar_parser_specs.specs.Stmts.{binds_from}
use Rattle.parse_exprs.proofs.Steps.{handed}
use Rattle.parse_bodies.proofs.Faults.{refused_behind}
use Rattle.parse_bodies.specs.Means.{BindsOf}
use Rattle.parse_exprs.proofs.Steps.{then}
use Rattle.parse_bodies.proofs.Parts.{bind_read}
use Rattle.parse_bodies.proofs.bindings.binds_from.Goals as goal

pub returns : goal.returns
unfolding binds_from
returns g c = λ i. let a = bind_read i (g.H.Handler.shows_expr i) c.in_ok-first.first (c.in_ok-first.ensures i) in let b = c.in_ok-binds.ensures i a.0 a.1 in (b.0, b.1, b.2, then _ a.2 b.3)

pub returns-in_err-binds : goal.returns-in_err-binds
unfolding binds_from
returns-in_err-binds g c = λ i. let s = c.args.source.now in let p = c.binds_led.new.state.place in let e = c.in_err-binds.field-0.0 in let a = bind_read i (g.H.Handler.shows_expr i) c.in_ok-first.first (c.in_ok-first.ensures i) in
    handed s i p e c.from_residual-in_err-binds.result (BindsOf i (g.H.Handler.shows_expr i)) _ _ c.from_residual-in_err-binds.ensures.1 (refused_behind s i p e _ a.2 (c.in_err-binds.ensures i a.0 a.1))
