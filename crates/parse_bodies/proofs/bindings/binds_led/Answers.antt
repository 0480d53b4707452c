use Rattle.parse_exprs.specs.Env.{env_at}
use Rattle.parse_exprs.proofs.Loops.{again_shorter, looping_failed, fewer_left}
use Rattle.parse_bodies.specs.Means.{BindsOf}
use Rattle.parse_bodies.proofs.Names.{binds_init, binds_again, binds_stop}
use Rattle.parse_bodies.proofs.Gains.{bind_turn_gains}
use Rattle.parse_bodies.proofs.Locals.{uses_local}
use Rattle.parse_bodies.proofs.Parts.{bind_turn_read}
use Rattle.parse_bodies.proofs.bindings.binds_led.Goals as goal

pub names-init : goal.names-init
names-init g c = λ i b h. rw (c.in_ok-push.ensures.items, c.new-items.ensures.items) (binds_init i (g.H.Handler.shows_expr i) _ _ _ c.args.first b h)

pub names-preserved : goal.names-preserved
names-preserved g c = λ i b h. let a = bind_turn_read i (g.H.Handler.shows_expr i) c.in-Next.item (rw c.in-Next.is at (c.in_ok-item.ensures i)) in
    rw c.in_ok-push-in-Next.ensures.items (binds_again i (g.H.Handler.shows_expr i) c.in-Next.item a.0 (bind_turn_gains (env_at i c.args.depth) (uses_local i c.args.depth) c.args.with_in) (c.names.invariant i b h) a.2 a.1)

pub names-smaller : goal.names-smaller
names-smaller g c = fewer_left c.args.source.now _ _ (λ i. let a = bind_turn_read i (g.H.Handler.shows_expr i) c.in-Next.item (rw c.in-Next.is at (c.in_ok-item.ensures i)) in again_shorter _ (bind_turn_gains (env_at i c.args.depth) (uses_local i c.args.depth) c.args.with_in) _ _ _ _ a.0 a.2)

pub returns-in-Last : goal.returns-in-Last
returns-in-Last g c = λ i b h. let t = rw c.in-Last.is at (c.in_ok-item.ensures i) in binds_stop i (g.H.Handler.shows_expr i) (c.names.invariant i b h) t

pub returns-in_err-item : goal.returns-in_err-item
returns-in_err-item g c = λ i b h. looping_failed c.args.source.now i c.bind_turn.new.state.place c.in_err-item.field-0.0 c.from_residual-in_err-item.result (BindsOf i (g.H.Handler.shows_expr i)) c.from_residual-in_err-item.ensures.1 (c.names.invariant i b h).looping (c.in_err-item.ensures i)
