use Rattle.script_grammar.specs.TreeLists.{stmts_of}
use Rattle.script_grammar.specs.Shows.{NodeOf}
use Rattle.parse_bodies.proofs.Faults.{refused_behind}
use Rattle.parse_bodies.proofs.Alone.{end_read, end_refused}
use Rattle.grammar_parser_specs.specs.Stmts.{script_of}
use Rattle.parse_exprs.proofs.Steps.{then, handed}
use Rattle.parse_bodies.proofs.scripts.script.Goals as goal

pub returns : goal.returns
unfolding script_of
returns g c = λ i. let a = c.in_ok-items.ensures i in (stmts_of a.0, c.in_ok-node.ensures i a.0 a.1, then _ a.2 (end_read _ (stmts_of a.0) (c.in_ok-expect_end.ensures i)))

pub returns-in_err-expect_end : goal.returns-in_err-expect_end
unfolding script_of
returns-in_err-expect_end g c = λ i. let s = c.args.source.now in let p = c.stmts_from.new.state.place in let e = c.in_err-expect_end.field-0.0 in let a = c.in_ok-items.ensures i in
    handed s i p e c.from_residual-in_err-expect_end.result (NodeOf (g.H.Handler.shows_body i)) _ _ c.from_residual-in_err-expect_end.ensures.1 (refused_behind s i p e _ a.2 (end_refused s i p e _ _ (stmts_of a.0) (c.in_err-expect_end.ensures i)))
