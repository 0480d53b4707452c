use Rattle.grammar_parser_specs.specs.Stmts.{alone_of}
use Rattle.script_grammar.specs.Shows.{FuncOf}
use Rattle.parse_bodies.proofs.Faults.{refused_behind}
use Rattle.parse_bodies.proofs.Parts.{func_read}
use Rattle.parse_bodies.proofs.Alone.{end_read, end_refused, func_made}
use Rattle.parse_exprs.proofs.Steps.{then, handed}
use Rattle.parse_bodies.proofs.scripts.alone.Goals as goal

pub returns : goal.returns
unfolding alone_of
returns g c = λ i. let a = func_read i (g.H.Handler.shows_expr i) (g.H.Handler.shows_body i) c.in_ok-func.func (c.in_ok-func.ensures i) in func_made i (g.H.Handler.shows_expr i) (g.H.Handler.shows_body i) c.in_ok-func.func a.1 (then _ a.2 (end_read _ a.0 (c.in_ok-expect_end.ensures i)))

pub returns-in_err-expect_end : goal.returns-in_err-expect_end
unfolding alone_of
returns-in_err-expect_end g c = λ i. let s = c.args.source.now in let p = c.function.new.state.place in let e = c.in_err-expect_end.field-0.0 in let a = func_read i (g.H.Handler.shows_expr i) (g.H.Handler.shows_body i) c.in_ok-func.func (c.in_ok-func.ensures i) in
    handed s i p e c.from_residual-in_err-expect_end.result (FuncOf i (g.H.Handler.shows_expr i) (g.H.Handler.shows_body i)) _ _ c.from_residual-in_err-expect_end.ensures.1 (refused_behind s i p e _ a.2 (end_refused s i p e _ _ a.0 (c.in_err-expect_end.ensures i)))
