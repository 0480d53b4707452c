use Rattle.script_grammar.specs.TreeLists.{stmts_of}
use Rattle.parse_bodies.specs.Means.{BodyOf}
use Rattle.parse_bodies.proofs.Faults.{refused_behind}
use Rattle.grammar_parser_specs.specs.Stmts.{reading}
use Rattle.parse_exprs.proofs.Steps.{then, handed}
use Rattle.parse_bodies.proofs.scripts.body.Goals as goal

pub returns : goal.returns
unfolding reading
returns g c = λ i f n b. let a = c.in_ok-items.ensures i in (stmts_of a.0, c.in_ok-node.ensures i a.0 a.1, then _ (c.in_ok-expect.ensures i) (then _ a.2 (c.in_ok-end.ensures i a.0)))

pub returns-in_err-end : goal.returns-in_err-end
unfolding reading
returns-in_err-end g c = λ i f n b. let s = c.args.source.now in let p = c.close_body.new.place in let e = c.in_err-end.field-0.0 in let a = c.in_ok-items.ensures i in
    handed s i p e c.from_residual-in_err-end.result (BodyOf (g.H.Handler.shows_body i)) _ _ c.from_residual-in_err-end.ensures.1 (refused_behind s i p e _ (c.in_ok-expect.ensures i) (refused_behind s i p e _ a.2 (c.in_err-end.ensures i a.0)))
