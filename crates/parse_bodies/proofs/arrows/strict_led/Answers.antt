use Rattle.script_grammar.specs.Shows.{ShowParam}
use Rattle.parse_exprs.proofs.Locals.{env_local}
use Rattle.parse_exprs.proofs.Loops.{again_shorter, looping_again, looping_failed, looping_led, fewer_left}
use Rattle.parse_exprs.specs.Env.{env_at}
use Rattle.parse_exprs.specs.Means.{ItemsOf, ParamsEndOf}
use Rattle.parse_bodies.proofs.Gains.{strict_turn_gains}
use Rattle.parse_bodies.proofs.Params.{params_stop}
use Rattle.parse_exprs.proofs.ParamParts.{again_read}
use Rattle.parse_bodies.proofs.arrows.strict_led.Goals as goal

pub loop-items-init : goal.loop-items-init
loop-items-init g c = λ i t m. rw (c.in_ok-push.ensures.items, c.new-items.ensures.items) (looping_led _ _ _ _ _ _ m)

pub loop-items-preserved : goal.loop-items-preserved
loop-items-preserved g c = λ i t m. let a = again_read i (g.H.Handler.shows_expr i) c.in-Next.item (rw c.in-Next.is at (c.in_ok-item.ensures i)) in
    rw c.in_ok-push-in-Next.ensures.items (looping_again _ a.0 (strict_turn_gains (env_at i c.args.depth) (env_local i c.args.depth)) (c.loop-items.invariant i t m) a.2 a.1)

pub loop-items-smaller : goal.loop-items-smaller
loop-items-smaller g c = fewer_left c.args.source.now _ _ (λ i. let a = again_read i (g.H.Handler.shows_expr i) c.in-Next.item (rw c.in-Next.is at (c.in_ok-item.ensures i)) in again_shorter _ (strict_turn_gains (env_at i c.args.depth) (env_local i c.args.depth)) _ _ _ _ a.0 a.2)

pub returns-in-Last : goal.returns-in-Last
returns-in-Last g c = λ i t m. params_stop i (ShowParam i (g.H.Handler.shows_expr i)) _ _ c.in-Last.last (c.loop-items.invariant i t m) (rw c.in-Last.is at (c.in_ok-item.ensures i))

pub returns-in_err-item : goal.returns-in_err-item
returns-in_err-item g c = λ i t m. looping_failed c.args.source.now i c.strict_turn.new.state.place c.in_err-item.field-0.0 c.from_residual-in_err-item.result (ItemsOf (ShowParam i (g.H.Handler.shows_expr i)) (ParamsEndOf i)) c.from_residual-in_err-item.ensures.1 (c.loop-items.invariant i t m) (c.in_err-item.ensures i)
