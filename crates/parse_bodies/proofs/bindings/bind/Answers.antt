use Rattle.grammar_parser_specs.specs.Stmts.{bind_of}
use Rattle.parse_exprs.proofs.Steps.{then}
use Rattle.parse_bodies.proofs.Parts.{bind_read, bind_made}
use Rattle.parse_bodies.proofs.bindings.bind.Goals as goal

pub returns : goal.returns
unfolding bind_of
returns g c = λ i. let a = bind_read i (g.H.Handler.shows_expr i) c.in_ok-bind.bind (c.in_ok-bind.ensures i) in bind_made i (g.H.Handler.shows_expr i) c.in_ok-bind.bind a.1 (then _ (c.in_ok-name.ensures i) a.2)
