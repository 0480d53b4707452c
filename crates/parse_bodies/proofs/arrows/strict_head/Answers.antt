use Rattle.std.proofs.Common.{◌≡◌, ◌∙◌, sym, ap}
use Rattle.script_grammar.specs.Kinds.{is_name}
use Rattle.grammar_parser_specs.specs.Exprs.{bare_head}
use Rattle.parse_exprs.specs.Means.{ParamsOf}
use Rattle.parse_bodies.proofs.Params.{read_is}
use Rattle.script_grammar.specs.Lexeme.{lexeme_of}
use Rattle.grammar_parser_specs.specs.Stmts.{strict_head}
use Rattle.parse_exprs.proofs.Steps.{just, when_true}
use Rattle.parse_exprs.proofs.Made.{made_answers}
use Rattle.parse_exprs.specs.Answers.{records}
use Rattle.parse_bodies.proofs.arrows.strict_head.Goals as goal

pub returns-then-is_name : goal.returns-then-is_name
unfolding strict_head
returns-then-is_name g c = λ i. let l = c.token-token.ensures.lexeme i in
    made_answers (ParamsOf i (g.H.Handler.shows_expr i)) (λ p. ParamsOf i (g.H.Handler.shows_expr i) p (λ h. bare_head (lexeme_of c.args.source.now.get c.args.source.now.set i.texts c.token-token.result) ≡ h)) c.args.source.now i c.step.new.self c.bare.result (records c.args.source.now i c.args.state.now.place) _ (c.bare.ensures i c.args.source.now.get c.args.source.now.set)
    (λ p q. (q.0, q.1, read_is (ap bare_head (sym l) ∙ q.2) (when_true _ _ (sym (c.is_name.ensures ∙ ap (λ t. is_name t.kind) l) ∙ c.if-is_name.true) (rw (c.step.ensures.at i, c.step.ensures.records i) (just _ _ _)))))
