use Rattle.std.proofs.Common.{◌∙◌, sym}
use Rattle.grammar_parser_specs.specs.Parser.{Again}
use Rattle.grammar_parser_specs.specs.Stmts.{bind_turn}
use Rattle.parse_exprs.proofs.Steps.{made, when_true}
use Rattle.parse_bodies.proofs.Parts.{bind_read, bind_turn_made}
use Rattle.parse_bodies.proofs.bindings.bind_turn.Goals as goal

pub returns : goal.returns
unfolding bind_turn
returns g c = λ i. let a = bind_read i (g.H.Handler.shows_expr i) c.in_ok-item.item (rw (c.step.ensures.at i, c.step.ensures.records i) at (c.in_ok-item.ensures i)) in bind_turn_made i (g.H.Handler.shows_expr i) c.in_ok-item.item a.1 (when_true _ _ (sym (c.is_mark.ensures i) ∙ c.if-not-is_mark.false) (made Again a.2))
