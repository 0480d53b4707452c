use Rattle.std.proofs.Common.{◌∙◌, sym}
use Rattle.grammar_parser_specs.specs.Stmts as pure
use Rattle.std.proofs.Common.{[]}
use Rattle.script_grammar.specs.Shows.{ShowParam}
use Rattle.grammar_parser_specs.specs.Exprs.{params_led}
use Rattle.parse_exprs.specs.Env.{env_at}
use Rattle.parse_exprs.specs.Means.{ItemsOf, ParamsEndOf}
use Rattle.parse_exprs.proofs.Onward.{items_maps}
use Rattle.parse_exprs.proofs.ParamParts.{again_read, end_maps, many_reads, stop_read}
use Rattle.grammar_parser_specs.specs.Stmts.{strict_params}
use Rattle.parse_exprs.proofs.Steps.{then, just, when_true, when_false}
use Rattle.parse_exprs.proofs.Onward.{onward, onward_false}
use Rattle.parse_bodies.proofs.arrows.strict_params.Goals as goal

pub returns-in-Next : goal.returns-in-Next
unfolding strict_params
returns-in-Next g c = λ i. let a = again_read i (g.H.Handler.shows_expr i) c.in-Next.first (rw c.in-Next.is at (c.in_ok-first.ensures i)) in
    onward_false (ItemsOf (ShowParam i (g.H.Handler.shows_expr i)) (ParamsEndOf i)) c.args.source.now i c.strict_led.new.state.place c.strict_led.result _ _ _ _ (sym (c.is_mark.ensures i) ∙ c.if-is_mark.false)
    (onward (ItemsOf (ShowParam i (g.H.Handler.shows_expr i)) (ParamsEndOf i)) c.args.source.now i c.strict_led.new.state.place c.strict_led.result _ _ (params_led (pure.strict_turn (env_at i c.args.depth))) (items_maps (ShowParam i (g.H.Handler.shows_expr i)) (ParamsEndOf i) (end_maps i)) a.2 (c.strict_led.ensures i a.0 a.1))

pub returns-then-is_mark : goal.returns-then-is_mark
unfolding strict_params
returns-then-is_mark g c = λ i. rw c.new.ensures.items ([], tt, when_true _ _ (sym (c.is_mark.ensures i) ∙ c.if-is_mark.true) (just _ _ _))

pub returns-in-Last : goal.returns-in-Last
unfolding strict_params
returns-in-Last g c = λ i. let a = stop_read i c.in-Last.last (rw c.in-Last.is at (c.in_ok-first.ensures i)) in
    rw c.new-in-Last.ensures.items ([], tt, many_reads i c.in-Last.last a.0 a.1 (when_false _ _ (sym (c.is_mark.ensures i) ∙ c.if-is_mark.false) (then (params_led (pure.strict_turn (env_at i c.args.depth))) a.2 (just _ _ _))))
